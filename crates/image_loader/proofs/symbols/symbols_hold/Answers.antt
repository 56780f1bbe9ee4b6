use Rattle.std.proofs.Common.{refl}
use Rattle.std.proofs.lemmas.List.Elements.{All-more}
use Rattle.image_loader.specs.Symbols.{SymbolHolds}
use Rattle.image_loader.proofs.Elements.{all_passed, one_failed, not_true}
use Rattle.image_loader.proofs.symbols.symbols_hold.Goals as goal

pub returns-then-not-symbol_holds : goal.returns-then-not-symbol_holds
returns-then-not-symbol_holds c = one_failed SymbolHolds c.args.symbols.now c.loop-symbol.symbol-index c.symbol-item.result c.loop-symbol-test.true (rw (← c.symbol-item.is) (not_true c.if-not-symbol_holds.ensures))

pub loop-symbol-preserved : goal.loop-symbol-preserved
loop-symbol-preserved c = All-more SymbolHolds c.args.symbols.now c.loop-symbol.symbol-index c.symbol-item.result c.loop-symbol-test.true c.loop-symbol.invariant (rw (← c.symbol-item.is) (c.if-not-symbol_holds.ensures.0 refl))

pub returns : goal.returns
returns c = all_passed SymbolHolds c.args.symbols.now c.loop-symbol.symbol-index c.loop-symbol-test.false c.loop-symbol.invariant
