use Rattle.std.proofs.Common.{◌≡◌, ◌++◌, drop}
use Rattle.source_meaning.specs.Layout.{symbols_from}
use Rattle.lowering.proofs.layout.symbols_of.Given as goal

abbrev pub invariant-loop-global : goal.invariant-loop-global
invariant-loop-global l = l.symbols ++ symbols_from l.base (drop l.global-index l.globals) ≡ symbols_from 0 l.globals
