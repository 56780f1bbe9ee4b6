-- Which job some words are.
use Rattle.std.specs.Prelude.{⊤, ◌≡◌, ◌≤◌, ◌^◌, ◌&&◌, Bool, true, false, if◌then◌else◌, List, [], ◌∷◌, codes, string_bytes}
use Rattle.std.specs.declared.option.Option.{Option}
use Rattle.std.specs.declared.option.Option.TheVariants.{Some, None}
use Rattle.std.specs.Option.{option_and_then, option_map}
use Rattle.run_options.specs.declared.options.SimOptions.{SimOptions}
use Rattle.xmt_cli.specs.declared.job.Command.{Command}
use Rattle.xmt_cli.specs.declared.job.Command.TheVariants.{Compile, Simulate, Run}
use Rattle.xmt_cli.specs.declared.job.Job.{Job}
use Rattle.xmt_cli.specs.declared.job.Job.TheVariants as job
use Rattle.xmt_cli.specs.declared.job.WordsRefusal.{WordsRefusal}
use Rattle.xmt_cli.specs.declared.job.WordsRefusal.TheVariants.{NotAJob, NoMemory}
use Rattle.xmt_cli.specs.Given.{Text, Texts, nothing, walk, called, is_file_name}
use Rattle.xmt_cli.specs.Numbers.{number_or, seed_of}

-- a job with plain texts
pub data Task : Type 0 where
  -- file, and where its image goes
  compile : Text → Text → Task
  -- file, options, map, dump
  simulate : Text → SimOptions → Option Text → Option Text → Task
  run : Text → SimOptions → Option Text → Option Text → Task

-- the word of a command
abbrev pub word_of : Command → Text
word_of Compile = codes "cc"
word_of Simulate = codes "sim"
word_of Run = codes "run"

abbrev pub all_commands : List Command
all_commands = Compile ∷ Simulate ∷ Run ∷ []

-- the command that a word is
abbrev pub command_of : Text → Option Command
command_of word = called word_of all_commands word

-- 1 to 64 units, usually 4; a budget of 1 to 2 ^ 40 steps, usually 100,000,000
abbrev pub options_of : Texts → Option SimOptions
options_of w =
    option_and_then (λ units.
    option_and_then (λ budget.
    option_map (λ seed. record { units = units; budget = budget; seed = seed }) (seed_of w.seed)) (number_or 100000000 1 (2 ^ 40) w.budget)) (number_or 4 1 64 w.units)

-- a name that may be given, and then is a file's
abbrev pub may_name : Option Text → Option (Option Text)
may_name None = Some None
may_name (Some text) = if is_file_name text then Some (Some text) else None

-- what a run begins with
pub record Beginning : Type 0 where
  pub file : Text
  pub options : SimOptions
  pub map : Option Text
  pub dump : Option Text

-- a file and options, and the files of a map and a dump that may be given
abbrev pub beginning : Texts → Option Beginning
beginning w =
    option_and_then (λ file.
    option_and_then (λ options.
    option_and_then (λ map.
    option_map (λ dump. record { file = file; options = options; map = map; dump = dump }) (may_name w.dump)) (may_name w.map)) (options_of w)) w.file

abbrev pub is_absent : Option Text → Bool
is_absent None = true
is_absent (Some text) = false

-- a run has no file for an image
abbrev pub start_of : Texts → Option Beginning
start_of w = if is_absent w.out then beginning w else None

-- no option of a run is given
abbrev pub has_no_run_option : Texts → Bool
has_no_run_option w = is_absent w.units && is_absent w.budget && is_absent w.seed && is_absent w.map && is_absent w.dump

-- a file and a name for its image
abbrev pub compilation : Texts → Option Task
compilation w =
    option_and_then (λ file.
    option_and_then (λ name. option_map (λ out. compile file out) name) (may_name w.out)) w.file

-- a compilation has no option of a run
abbrev pub compile_of : Texts → Option Task
compile_of w = if has_no_run_option w then compilation w else None

abbrev pub simulated : Beginning → Task
simulated b = simulate b.file b.options b.map b.dump

abbrev pub ran : Beginning → Task
ran b = run b.file b.options b.map b.dump

-- the task of what was given behind a command
abbrev pub task : Command → Texts → Option Task
task Compile w = compile_of w
task Simulate w = option_map simulated (start_of w)
task Run w = option_map ran (start_of w)

-- the task of a command and the words behind it
abbrev pub task_behind : List Text → Command → Option Task
task_behind words command = option_and_then (task command) (walk (record { waits = None; given = nothing }) words)

-- the task that the words are
abbrev pub task_of : List Text → Option Task
task_of [] = None
task_of (word ∷ words) = option_and_then (task_behind words) (command_of word)

-- a job is seen as its task
abbrev pub seen_job : Job → Task
seen_job (job.Compile file out) = compile (string_bytes file) (string_bytes out)
seen_job (job.Simulate file options map dump) = simulate (string_bytes file) options (option_map string_bytes map) (option_map string_bytes dump)
seen_job (job.Run file options map dump) = run (string_bytes file) options (option_map string_bytes map) (option_map string_bytes dump)

-- the words are this job
abbrev pub IsJobOf : List Text → Job → Type 0
IsJobOf words j = task_of words ≡ Some (seen_job j)

-- 1 to 64 units, and a budget of 1 to 2 ^ 40 steps
abbrev pub AreInRange : SimOptions → Type 0
AreInRange o = (1 ≤ o.units) × (o.units ≤ 64) × (1 ≤ o.budget) × (o.budget ≤ 2 ^ 40)

-- the options of a job are in their ranges
abbrev pub HasRange : Job → Type 0
HasRange (job.Compile file out) = ⊤
HasRange (job.Simulate file options map dump) = AreInRange options
HasRange (job.Run file options map dump) = AreInRange options

-- words are refused as no job only where they are none
abbrev pub Refuses : WordsRefusal → List Text → Type 0
Refuses NotAJob words = task_of words ≡ None
Refuses NoMemory words = ⊤
