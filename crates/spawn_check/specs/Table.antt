-- The table of spawn blocks, and the order of its refusals.
use Rattle.std.specs.Prelude.{ℕ, ◌==◌, ◌≡◌, nat_lt, ◌&&◌, ◌||◌, Bool, true, false}
use Rattle.xmt_base.specs.declared.Place.{Place}
use Rattle.source_meaning.specs.declared.tree.Program.{Program}
use Rattle.spawn_check.specs.declared.refusal.SpawnKind.{SpawnKind}
use Rattle.spawn_check.specs.declared.refusal.SpawnKind.TheVariants.{DollarOutside, ReturnInside, JumpOut, Nested, PrintInside, CallReachesSpawn}
use Rattle.spawn_check.specs.declared.refusal.SpawnRefusal.{SpawnRefusal}
use Rattle.spawn_check.specs.declared.things.Thing.TheVariants as thing
use Rattle.spawn_check.specs.declared.things.Sought.TheVariants as sought
use Rattle.spawn_check.specs.Things.{Stands}
use Rattle.spawn_check.specs.Calls.{Reaches}

-- the program meets a line of the table at a place, which is that of `$`, `return`, `break` or `continue`, `spawn`, `printf`, or the called name
pub data Meets (program : Program) : SpawnKind → Place → Type 0 where
  -- `$` outside every spawn block
  dollar_outside : {place : Place} {looped : Bool} → Stands program thing.Dollar place false looped → Meets program DollarOutside place
  -- `return` inside a block
  return_inside : {place : Place} {looped : Bool} → Stands program thing.Return place true looped → Meets program ReturnInside place
  -- `break` or `continue` with no loop around it inside the same block or, outside blocks, in the same function
  jump_out : {place : Place} {inside : Bool} → Stands program thing.Jump place inside false → Meets program JumpOut place
  -- `spawn` inside a block
  nested : {place : Place} {looped : Bool} → Stands program thing.Spawn place true looped → Meets program Nested place
  -- `printf` inside a block
  print_inside : {place : Place} {looped : Bool} → Stands program thing.Print place true looped → Meets program PrintInside place
  -- a call inside a block of a function from which a `printf` is reached
  call_prints : {place : Place} {looped : Bool} {f : ℕ} → Stands program (thing.Call f) place true looped → Reaches program.functions sought.Print f → Meets program PrintInside place
  -- a call inside a block of a function from which a `spawn` is reached
  call_spawns : {place : Place} {looped : Bool} {f : ℕ} → Stands program (thing.Call f) place true looped → Reaches program.functions sought.Spawn f → Meets program CallReachesSpawn place

-- the number of the line in the table
abbrev pub line_of : SpawnKind → ℕ
line_of DollarOutside = 0
line_of ReturnInside = 1
line_of JumpOut = 2
line_of Nested = 3
line_of PrintInside = 4
line_of CallReachesSpawn = 5

-- refusals are in order of their places, and at one place in the order of the table
abbrev pub is_before : SpawnRefusal → SpawnRefusal → Bool
is_before a b =
    nat_lt a.place.line b.place.line ||
    (a.place.line == b.place.line &&
    (nat_lt a.place.column b.place.column || (a.place.column == b.place.column && nat_lt (line_of a.kind) (line_of b.kind))))

abbrev pub MeetsNone : Program → Type 0
MeetsNone program = (kind : SpawnKind) (place : Place) → Meets program kind place → ⊥

-- the program meets this line at this place, and none before it
pub record IsFirst (program : Program) (refusal : SpawnRefusal) : Type 0 where
  pub met : Meets program refusal.kind refusal.place
  pub none_before : (kind : SpawnKind) (place : Place) → Meets program kind place → is_before (record { kind = kind; place = place }) refusal ≡ false
