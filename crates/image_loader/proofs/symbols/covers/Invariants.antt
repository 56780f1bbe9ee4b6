use Rattle.std.proofs.Common.{◌↔◌, ◌≤◌, ◌*◌, ◌^◌, drop}
use Rattle.xmt_isa.specs.Symbols.{Covers}
use Rattle.image_loader.proofs.symbols.covers.Given as goal

abbrev pub invariant-loop-item : goal.invariant-loop-item
invariant-loop-item l = record {
  few : l.from ≤ l.item-index * 2 ^ 32;
  same : Covers l.from (drop l.item-index l.symbols) l.words ↔ Covers 0 l.symbols l.words;
}
