use Rattle.std.proofs.Common.{All, take}
use Rattle.image_loader.specs.Symbols.{SymbolHolds}
use Rattle.image_loader.proofs.symbols.symbols_hold.Given as goal

abbrev pub invariant-loop-symbol : goal.invariant-loop-symbol
invariant-loop-symbol l = All SymbolHolds (take l.symbol-index l.symbols)
