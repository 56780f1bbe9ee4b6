-- What the table of spawn blocks leaves for single statements, by the region in which they stand.
use Rattle.std.proofs.Common.{◌≡◌, refl, arith, ℕ, Bool, true, false, List, [], ◌∷◌, ◌++◌, Option, Some, ◌⊎◌, inl, inr}
use Rattle.std.proofs.lemmas.Bool.{true≢false, false≢true, not-false}
use Rattle.std.specs.Prelude.{Contains, not, ◌||◌, IsTrue, slice_get}
use Rattle.std.proofs.lemmas.List.Elements.{Contains-append_left, Contains-append_right}
use Rattle.xmt_base.specs.declared.Place.{Place}
use Rattle.source_meaning.specs.declared.tree.Expr.{Expr}
use Rattle.source_meaning.specs.declared.tree.ExprKind.{ExprKind, Row_of-Expr}
use Rattle.source_meaning.specs.declared.tree.ExprKind.TheVariants as expr
use Rattle.source_meaning.specs.declared.tree.Spot.{Spot}
use Rattle.source_meaning.specs.declared.tree.Stmt.{Stmt}
use Rattle.source_meaning.specs.declared.tree.StmtKind.{StmtKind, Row_of-Stmt, Held-StmtKind-If-2}
use Rattle.source_meaning.specs.declared.tree.StmtKind.TheVariants as stmt
use Rattle.source_meaning.specs.declared.tree.Function.{Function}
use Rattle.source_meaning.specs.declared.tree.Program.{Program}
use Rattle.source_meaning.specs.Inside.{some_of_statement, some_in_list}
use Rattle.spawn_check.specs.declared.refusal.SpawnKind.TheVariants.{ReturnInside, JumpOut, Nested, PrintInside, CallReachesSpawn}
use Rattle.spawn_check.specs.Table.{MeetsNone, return_inside, jump_out, nested, print_inside, call_prints, call_spawns}
use Rattle.spawn_check.specs.Things.{in_loop, in_block, serial, single, of_expression, of_spot, of_row, of_values, of_option, of_statement, of_body, of_other, of_statements, occurrences}
use Rattle.spawn_check.specs.Calls as table
use Rattle.spawn_check.specs.Calls.{has, calls}
use Rattle.spawn_check.proofs.Lifting.{Leads, leads_in_list}
use Rattle.quad_code.specs.Known.{Region, Serial, Inner, InBlock, MayReturn}
use Rattle.quad_code.specs.Whole.{HasFunction, MayCall}
use Rattle.checked_quads.specs.Inner.{is_print, is_spawn, is_serial, Reaches, itself, by_call, AreInner}

-- ---- types of spawn_check that have no name here

abbrev first_type : {A B : Type 0} → (A → B) → Type 0
first_type {A = a} f = a

abbrev pub Around : Type 0
Around = first_type in_loop

abbrev pub Occurrence : Type 0
Occurrence = first_type single

abbrev pub inside_of : Region → Bool
inside_of InBlock = true
inside_of _ = false

-- what stands around a statement of the region, with a loop or without
abbrev pub around_at : Region → (loop : Bool) → Around
around_at region loop = record { inside = inside_of region; looped = loop }

serial_start : around_at Serial false ≡ serial
serial_start = refl

block_start : around_at InBlock false ≡ in_block
block_start = refl

loop_start : (region : Region) (loop : Bool) → in_loop (around_at region loop) ≡ around_at region true
loop_start region loop = refl

abbrev pub in_expression : Around → Place → ExprKind → List Occurrence
in_expression = of_expression [] (λ before behind. before ++ behind) single

abbrev pub in_spot : Around → Spot → List Occurrence
in_spot = of_spot [] (λ before behind. before ++ behind) single

abbrev pub in_row : Around → {n : _} → Row_of-Expr n → List Occurrence
in_row around row = of_row [] (λ before behind. before ++ behind) single around row

abbrev pub in_values : Around → List Expr → List Occurrence
in_values = of_values [] (λ before behind. before ++ behind) single

abbrev pub in_option : Around → Option Expr → List Occurrence
in_option = of_option [] (λ before behind. before ++ behind) single

abbrev pub in_rows : Around → {n : _} → Row_of-Stmt n → List Occurrence
in_rows around row = of_body [] (λ before behind. before ++ behind) single around row

abbrev pub in_else : Around → Held-StmtKind-If-2 → List Occurrence
in_else = of_other [] (λ before behind. before ++ behind) single

abbrev pub in_list : Around → List Stmt → List Occurrence
in_list = of_statements [] (λ before behind. before ++ behind) single

abbrev pub in_statement : Around → Place → StmtKind → List Occurrence
in_statement = of_statement [] (λ before behind. before ++ behind) single

-- ---- lists that stand in others

pub record Within {X : Type 0} (part whole : List X) : Type 0 where
  pub holds : (x : X) → Contains part x → Contains whole x

pub left_within : {X : Type 0} (a b : List X) {w : List X} → Within (a ++ b) w → Within a w
left_within a b within = record { holds = λ x found. within.holds x (Contains-append_left a b x found) }

pub right_within : {X : Type 0} (a b : List X) {w : List X} → Within (a ++ b) w → Within b w
right_within a b within = record { holds = λ x found. within.holds x (Contains-append_right a b x found) }

pub tail_within : {X : Type 0} (x : X) (rest : List X) {w : List X} → Within (x ∷ rest) w → Within rest w
tail_within x rest within = record { holds = λ y found. within.holds y (Contains-append_right (x ∷ []) rest y found) }

first_found : {X : Type 0} (x : X) (rest : List X) → Contains (x ∷ rest) x
first_found x rest = (0, omega arith, refl)

-- ---- which prints, spawns and calls a region has

-- in a function that blocks may call no print and no spawn
abbrev pub serial_in : Region → StmtKind → Bool
serial_in Inner s = is_serial s
serial_in _ s = false

-- a call of a function that blocks may not call
abbrev pub is_outside : (inner : (function : ℕ) → Bool) → ExprKind → Bool
is_outside inner (expr.Call' f shape values) = not (inner f)
is_outside inner _ = false

abbrev pub outside_in : (inner : (function : ℕ) → Bool) → Region → ExprKind → Bool
outside_in inner Inner e = is_outside inner e
outside_in inner _ e = false

-- what does not stand in the region
abbrev pub is_barred : (inner : (function : ℕ) → Bool) → Region → StmtKind → Bool
is_barred inner region s = serial_in region s || some_of_statement (outside_in inner region) s

-- ---- the rules

module _ (p : Program) (blocks : MeetsNone p) where
  pub jump_rule : (region : Region) (loop : Bool) (place : Place) → Within (in_statement (around_at region loop) place stmt.Break) (occurrences p) → loop ≡ true
  jump_rule region true place within = refl
  jump_rule region false place within = absurd (blocks JumpOut place (jump_out (record { found = within.holds _ (first_found _ []) })))

  pub return_rule : (region : Region) (loop : Bool) (place : Place) (value : Option Expr) → Within (in_statement (around_at region loop) place (stmt.Return value)) (occurrences p) → MayReturn region
  return_rule Serial loop place value within = tt
  return_rule Inner loop place value within = tt
  return_rule InBlock loop place value within = blocks ReturnInside place (return_inside (record { found = within.holds _ (first_found _ _) }))

  pub print_rule : (region : Region) (loop : Bool) (place : Place) (text : List ℕ) (values : List Expr) →
      Within (in_statement (around_at region loop) place (stmt.Print text values)) (occurrences p) → serial_in region (stmt.Print text values) ≡ false → region ≡ Serial
  print_rule Serial loop place text values within none = refl
  print_rule Inner loop place text values within none = absurd (true≢false none)
  print_rule InBlock loop place text values within none = absurd (blocks PrintInside place (print_inside (record { found = within.holds _ (first_found _ _) })))

  pub spawn_rule : (region : Region) (loop : Bool) (place : Place) (low high : Expr) (shape : _) (block : _) →
      Within (in_statement (around_at region loop) place (stmt.Spawn' low high shape block)) (occurrences p) → serial_in region (stmt.Spawn' low high shape block) ≡ false → region ≡ Serial
  spawn_rule Serial loop place low high shape block within none = refl
  spawn_rule Inner loop place low high shape block within none = absurd (true≢false none)
  spawn_rule InBlock loop place low high shape block within none = absurd (blocks Nested place (nested (record { found = within.holds _ (first_found _ _) })))

  -- ---- calls

  -- what the table of spawn blocks says of reaching follows, for a test that it knows too
  as_table : {what : _} (test : StmtKind → Bool) → ((body : List Stmt) → some_in_list test body ≡ true → IsTrue (has what body)) → (f : ℕ) → Reaches p.functions test f → table.Reaches p.functions what f
  as_table test same f (itself function found here) = table.itself function found (same function.body here)
  as_table test same f (by_call function found called behind) = table.by_call function found called (as_table test same _ behind)

  -- a print or a spawn is one of the two
  abbrev kind_test : Bool → StmtKind → Bool
  kind_test true = is_print
  kind_test false = is_spawn

  each_serial : (s : StmtKind) → Leads (λ (b : Bool). Unit {0}) (is_serial s) (λ b. kind_test b s)
  each_serial stmt.Empty is = absurd (false≢true is)
  each_serial (stmt.Value e) is = absurd (false≢true is)
  each_serial (stmt.Declare slot value) is = absurd (false≢true is)
  each_serial (stmt.Block' shape body) is = absurd (false≢true is)
  each_serial (stmt.If' test shape body other) is = absurd (false≢true is)
  each_serial (stmt.While' test shape body) is = absurd (false≢true is)
  each_serial (stmt.Do' shape body test) is = absurd (false≢true is)
  each_serial (stmt.For' first_shape first test third shape body) is = absurd (false≢true is)
  each_serial stmt.Break is = absurd (false≢true is)
  each_serial stmt.Continue is = absurd (false≢true is)
  each_serial (stmt.Return value) is = absurd (false≢true is)
  each_serial (stmt.Spawn' low high shape block) is = (false, tt, refl)
  each_serial (stmt.Ps v r) is = absurd (false≢true is)
  each_serial (stmt.Psm v x) is = absurd (false≢true is)
  each_serial (stmt.Print text values) is = (true, tt, refl)

  carried : {f g : ℕ} (function : Function) → slice_get p.functions f ≡ Some function → calls g function.body ≡ true →
      Reaches p.functions is_print g ⊎ Reaches p.functions is_spawn g → Reaches p.functions is_print f ⊎ Reaches p.functions is_spawn f
  carried function found called (inl reached) = inl (by_call function found called reached)
  carried function found called (inr reached) = inr (by_call function found called reached)

  either_reached : (f : ℕ) → Reaches p.functions is_serial f → Reaches p.functions is_print f ⊎ Reaches p.functions is_spawn f
  either_reached f (itself function found here) = chosen (leads_in_list (λ (b : Bool). Unit {0}) is_serial kind_test each_serial function.body here)
    where
      chosen : (b : Bool) × Unit {0} × (some_in_list (kind_test b) function.body ≡ true) → Reaches p.functions is_print f ⊎ Reaches p.functions is_spawn f
      chosen (true, u, is) = inl (itself function found is)
      chosen (false, u, is) = inr (itself function found is)
  either_reached f (by_call {g = g} function found called behind) = carried function found called (either_reached g behind)

  module _ (inner : (function : ℕ) → Bool) (are_inner : AreInner p inner) where
    -- a function that a block calls reaches neither
    in_block_inner : (loop : Bool) (place : Place) (f : ℕ) (shape : _) (values : _) → Within (in_expression (around_at InBlock loop) place (expr.Call' f shape values)) (occurrences p) → inner f ≡ true
    in_block_inner loop place f shape values within = (are_inner f).1 (λ reached. refused (either_reached f reached))
      where
        refused : Reaches p.functions is_print f ⊎ Reaches p.functions is_spawn f → ⊥
        refused (inl reached) = blocks PrintInside place (call_prints (record { found = within.holds _ (first_found _ _) }) (as_table is_print (λ body is. is) f reached))
        refused (inr reached) = blocks CallReachesSpawn place (call_spawns (record { found = within.holds _ (first_found _ _) }) (as_table is_spawn (λ body is. is) f reached))

    pub call_rule : (region : Region) (loop : Bool) (place : Place) (f : ℕ) (shape : _) (values : _) → Within (in_expression (around_at region loop) place (expr.Call' f shape values)) (occurrences p) →
        outside_in inner region (expr.Call' f shape values) ≡ false → (count : ℕ) → HasFunction p f count → MayCall p inner region f count
    call_rule Serial loop place f shape values within none count has = has
    call_rule Inner loop place f shape values within none count has = (has, not-false (inner f) none)
    call_rule InBlock loop place f shape values within none count has = (has, in_block_inner loop place f shape values within)
