use Rattle.std.proofs.Common.{◌≡◌, map, take}
use Rattle.image_loader.specs.Symbols.{NamesDiffer}
use Rattle.image_loader.proofs.symbols.names_differ.Given as goal

abbrev pub invariant-loop-symbol : goal.invariant-loop-symbol
invariant-loop-symbol l = record {
  keys : map (λ name. name.items) l.names.keys ≡ map (λ s. s.name) (take l.symbol-index l.symbols);
  differ : NamesDiffer (take l.symbol-index l.symbols);
}
