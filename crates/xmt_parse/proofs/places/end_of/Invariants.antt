use Rattle.std.proofs.Common.{◌≡◌, ◌+◌, ◌≤◌, drop}
use Rattle.xmt_parse.specs.Law.{end_from, end_of}
use Rattle.xmt_parse.proofs.places.end_of.Given as goal

abbrev pub invariant-loop-b : goal.invariant-loop-b
invariant-loop-b l = record {
  value : end_from (record { line = l.line; column = l.column }) (drop l.b-index l.source) ≡ end_of l.source;
  line : l.line ≤ l.b-index + 1;
  column : l.column ≤ l.b-index + 1;
}
