use Rattle.std.proofs.Common.{◌≡◌, drop}
use Rattle.spawn_check.specs.First.{first_in_statements}
use Rattle.spawn_check.proofs.first.+statements.Given as goal

-- with the rest it is the first of all
abbrev pub invariant-after_statements-loop-s : goal.invariant-after_statements-loop-s
invariant-after_statements-loop-s l = first_in_statements l.marks l.around (drop l.s-index l.body) l.first ≡ first_in_statements l.marks l.around l.body l.fn.first
