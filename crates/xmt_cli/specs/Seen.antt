-- What contracts see of the texts that were given.
use Rattle.std.specs.Option.{option_map}
use Rattle.xmt_cli.specs.declared.given.Given.{Given}
use Rattle.xmt_cli.specs.declared.given.State.{State}
use Rattle.xmt_cli.specs.declared.read.Start.{Start}
use Rattle.xmt_cli.specs.Given.{Texts, Walk}
use Rattle.xmt_cli.specs.JobOf.{Beginning}

-- the texts that were given
abbrev pub seen : Given → Texts
seen g = record {
  file = option_map (λ t. t.now) g.file;
  units = option_map (λ t. t.now) g.units;
  budget = option_map (λ t. t.now) g.budget;
  seed = option_map (λ t. t.now) g.seed;
  out = option_map (λ t. t.now) g.out;
  map = option_map (λ t. t.now) g.map;
  dump = option_map (λ t. t.now) g.dump;
}

abbrev pub seen_state : State → Walk
seen_state s = record { waits = s.waits; given = seen s.given }

-- what a run begins with
abbrev pub seen_start : Start → Beginning
seen_start s = record { file = s.file.now; options = s.options; map = option_map (λ t. t.now) s.map; dump = option_map (λ t. t.now) s.dump }
