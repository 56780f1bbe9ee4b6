use Rattle.std.proofs.Common.{◌≡◌, ◌++◌, All, take}
use Rattle.std.specs.List.{flat_map}
use Rattle.image_loader.specs.Layout.{symbol, SymbolFits}
use Rattle.image_loader.proofs.writing.put_symbols.Given as goal

abbrev pub invariant-loop-item : goal.invariant-loop-item
invariant-loop-item l = record {
  written : l.out.items ≡ l.initial.out.items ++ flat_map symbol (take l.item-index l.items);
  fits : All SymbolFits (take l.item-index l.items);
}
