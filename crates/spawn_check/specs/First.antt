-- The first refusal, found one thing after the other, when it is marked which functions reach a `printf` and which a `spawn`.
use Rattle.std.specs.Prelude.{Bool, true, false, if◌then◌else◌, List, Option, Some, None, slice_index_or}
use Rattle.xmt_base.specs.declared.Place.{Place}
use Rattle.source_meaning.specs.declared.tree.Expr.{Expr}
use Rattle.source_meaning.specs.declared.tree.ExprKind.{ExprKind}
use Rattle.source_meaning.specs.declared.tree.Spot.{Spot}
use Rattle.source_meaning.specs.declared.tree.Stmt.{Stmt}
use Rattle.source_meaning.specs.declared.tree.StmtKind.{StmtKind}
use Rattle.source_meaning.specs.declared.tree.Function.{Function}
use Rattle.spawn_check.specs.declared.refusal.SpawnKind.{SpawnKind}
use Rattle.spawn_check.specs.declared.refusal.SpawnKind.TheVariants.{DollarOutside, ReturnInside, JumpOut, Nested, PrintInside, CallReachesSpawn}
use Rattle.spawn_check.specs.declared.refusal.SpawnRefusal.{SpawnRefusal}
use Rattle.spawn_check.specs.declared.things.Thing.{Thing}
use Rattle.spawn_check.specs.declared.things.Thing.TheVariants as thing
use Rattle.spawn_check.specs.declared.things.Around.{Around}
use Rattle.spawn_check.specs.Things.{Occurrence}
use Rattle.spawn_check.specs.declared.things.Marks.{Marks}
use Rattle.spawn_check.specs.Things.{of_expression, of_spot, of_values, of_option, of_statement, of_statements, of_functions}
use Rattle.spawn_check.specs.Table.{is_before}

abbrev pub call_kind : (prints spawns : Bool) → Option SpawnKind
call_kind true spawns = Some PrintInside
call_kind false true = Some CallReachesSpawn
call_kind false false = None

-- the first line of the table that a thing meets
abbrev pub kind_of : Marks → Thing → (inside looped : Bool) → Option SpawnKind
kind_of marks thing.Dollar false looped = Some DollarOutside
kind_of marks thing.Return true looped = Some ReturnInside
kind_of marks thing.Jump inside false = Some JumpOut
kind_of marks thing.Spawn true looped = Some Nested
kind_of marks thing.Print true looped = Some PrintInside
kind_of marks (thing.Call f) true looped = call_kind (slice_index_or marks.prints f false) (slice_index_or marks.spawns f false)
kind_of marks _ _ _ = None

abbrev pub earlier : Option SpawnRefusal → SpawnRefusal → SpawnRefusal
earlier None b = b
earlier (Some a) b = if is_before b a then b else a

abbrev pub first_of_kind : Option SpawnRefusal → Place → Option SpawnKind → Option SpawnRefusal
first_of_kind first place None = first
first_of_kind first place (Some kind) = Some (earlier first (record { kind = kind; place = place }))

-- the first refusal, with one more thing
abbrev pub first_with : Marks → Option SpawnRefusal → Occurrence → Option SpawnRefusal
first_with marks first o = first_of_kind first o.place (kind_of marks o.thing o.around.inside o.around.looped)

-- ---- the same with all things of a tree

abbrev pub Change : Type 0
Change = Option SpawnRefusal → Option SpawnRefusal

abbrev pub unchanged : Change
unchanged first = first

abbrev pub one_behind_other : Change → Change → Change
one_behind_other f g first = g (f first)

abbrev pub by_thing : Marks → Occurrence → Change
by_thing marks o first = first_with marks first o

abbrev pub first_in_expression : Marks → Around → Place → ExprKind → Change
first_in_expression marks = of_expression unchanged one_behind_other (by_thing marks)

abbrev pub first_in_spot : Marks → Around → Spot → Change
first_in_spot marks = of_spot unchanged one_behind_other (by_thing marks)

abbrev pub first_in_values : Marks → Around → List Expr → Change
first_in_values marks = of_values unchanged one_behind_other (by_thing marks)

abbrev pub first_in_option : Marks → Around → Option Expr → Change
first_in_option marks = of_option unchanged one_behind_other (by_thing marks)

abbrev pub first_in_statement : Marks → Around → Place → StmtKind → Change
first_in_statement marks = of_statement unchanged one_behind_other (by_thing marks)

abbrev pub first_in_statements : Marks → Around → List Stmt → Change
first_in_statements marks = of_statements unchanged one_behind_other (by_thing marks)

abbrev pub first_in_functions : Marks → List Function → Change
first_in_functions marks = of_functions unchanged one_behind_other (by_thing marks)
