use Rattle.std.proofs.Common.{◌≡◌, ◌++◌, All, take}
use Rattle.std.specs.List.{flat_map}
use Rattle.image_loader.specs.Layout.{function, FunctionFits}
use Rattle.image_loader.proofs.writing.put_functions.Given as goal

abbrev pub invariant-loop-item : goal.invariant-loop-item
invariant-loop-item l = record {
  written : l.out.items ≡ l.initial.out.items ++ flat_map function (take l.item-index l.items);
  fits : All FunctionFits (take l.item-index l.items);
}
