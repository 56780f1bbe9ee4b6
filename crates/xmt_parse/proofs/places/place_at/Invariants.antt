use Rattle.std.proofs.Common.{length}
use Rattle.xmt_base.specs.declared.Place.{Place}
use Rattle.xmt_parse.specs.Law.{IsPlaceIn}
use Rattle.xmt_parse.proofs.places.place_at.Given as goal

abbrev pub invariant-loop-tokens : goal.invariant-loop-tokens
invariant-loop-tokens l = (p : Place) → IsPlaceIn l.source l.tokens p → IsPlaceIn l.source l.initial.tokens p

abbrev pub decreases-loop-tokens : goal.decreases-loop-tokens
decreases-loop-tokens l = length l.tokens
