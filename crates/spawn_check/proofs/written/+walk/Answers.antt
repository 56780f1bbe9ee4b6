use Rattle.std.proofs.Common.{ℕ, ◌≡◌, ◌+◌, ◌-◌, ◌<◌, ◌∙◌, ap, sym, arith, List, [], ◌∷◌, ◌++◌, length, drop}
use Rattle.std.specs.Prelude.{slice_get}
use Rattle.std.proofs.lemmas.List.{at_drop_all}
use Rattle.source_meaning.specs.declared.tree.Stmt.{Stmt}
use Rattle.source_meaning.specs.declared.tree.StmtKind.{StmtKind}
use Rattle.source_meaning.specs.declared.tree.StmtKind.TheVariants as stmt
use Rattle.spawn_check.specs.declared.written.Walk.TheVariants.{Found, Passed}
use Rattle.spawn_check.specs.Sharing.{spawns_of, spawns_of_option, spawns_in}
use Rattle.spawn_check.proofs.Walks.{nth_behind, nth_same, spawns_of_block, spawns_of_if, spawns_of_for, spawns_of_spawn, spawns_in-drop}
use Rattle.source_meaning.proofs.Commute.{slice_get-append}
use Rattle.spawn_check.proofs.written.+walk.Goals as goal

pub walk_statement-returns-in-Block : goal.walk_statement-returns-in-Block
walk_statement-returns-in-Block t c =
    let same : spawns_of c.args.s.now.kind ≡ spawns_in c.as_slice.result.now = ap spawns_of c.in-Block.is ∙ spawns_of_block c.in-Block.body ∙ sym (ap spawns_in c.as_slice.ensures) in
    nth_same c.walk_statements.result (spawns_of c.args.s.now.kind) (spawns_in c.as_slice.result.now) c.args.number same c.walk_statements.ensures

pub walk_statement-returns-in-Found : goal.walk_statement-returns-in-Found
walk_statement-returns-in-Found t c =
    let arm = c.in-If in
    let before : List StmtKind = spawns_of c.get.result.now.kind in
    let all : spawns_of c.args.s.now.kind ≡ before ++ spawns_of_option arm.other =
    ap spawns_of arm.is ∙ spawns_of_if arm.field-0 arm.body arm.other ∙ sym (ap (λ (s : Stmt). spawns_of s.kind ++ spawns_of_option arm.other) c.get.ensures)
    in
    ap (λ (xs : List StmtKind). slice_get xs c.args.number) all ∙
    slice_get-append before (spawns_of_option arm.other) c.args.number c.in-Found.spawn.now.kind c.in-Found.ensures

pub walk_statement-returns-in-Passed : goal.walk_statement-returns-in-Passed
walk_statement-returns-in-Passed t c =
    let arm = c.in-If in
    let before : List StmtKind = spawns_of c.get.result.now.kind in
    let all : spawns_of c.args.s.now.kind ≡ before ++ spawns_of_option arm.other =
    ap spawns_of arm.is ∙ spawns_of_if arm.field-0 arm.body arm.other ∙ sym (ap (λ (s : Stmt). spawns_of s.kind ++ spawns_of_option arm.other) c.get.ensures)
    in
    nth_same c.walk_other.result (spawns_of c.args.s.now.kind) (before ++ spawns_of_option arm.other) c.args.number all
    (nth_behind c.walk_other.result before (spawns_of_option arm.other) c.args.number c.in-Passed.left c.in-Passed.ensures c.walk_other.ensures)

pub walk_statement-returns-in-Found-walk_statements : goal.walk_statement-returns-in-Found-walk_statements
walk_statement-returns-in-Found-walk_statements t c =
    let arm = c.in-For in
    let before : List StmtKind = spawns_in c.as_slice-in-For.result.now in
    let all : spawns_of c.args.s.now.kind ≡ before ++ spawns_of arm.body.kind =
    ap spawns_of arm.is ∙ spawns_of_for arm.first arm.field-1 arm.field-2 arm.body ∙
    sym (ap (λ (body : List Stmt). spawns_in body ++ spawns_of arm.body.kind) c.as_slice-in-For.ensures)
    in
    ap (λ (xs : List StmtKind). slice_get xs c.args.number) all ∙
    slice_get-append before (spawns_of arm.body.kind) c.args.number c.in-Found-walk_statements.spawn.now.kind c.in-Found-walk_statements.ensures

pub walk_statement-returns-in-Passed-walk_statements : goal.walk_statement-returns-in-Passed-walk_statements
walk_statement-returns-in-Passed-walk_statements t c =
    let arm = c.in-For in
    let before : List StmtKind = spawns_in c.as_slice-in-For.result.now in
    let behind : List StmtKind = spawns_of c.get-in-Passed-walk_statements.result.now.kind in
    let all : spawns_of c.args.s.now.kind ≡ before ++ behind =
    ap spawns_of arm.is ∙ spawns_of_for arm.first arm.field-1 arm.field-2 arm.body ∙
    sym (ap (λ (body : List Stmt). spawns_in body ++ spawns_of arm.body.kind) c.as_slice-in-For.ensures) ∙
    sym (ap (λ (s : Stmt). before ++ spawns_of s.kind) c.get-in-Passed-walk_statements.ensures)
    in
    nth_same c.walk_statement-in-Passed-walk_statements.result (spawns_of c.args.s.now.kind) (before ++ behind) c.args.number all
    (nth_behind c.walk_statement-in-Passed-walk_statements.result before behind c.args.number c.in-Passed-walk_statements.left c.in-Passed-walk_statements.ensures
    c.walk_statement-in-Passed-walk_statements.ensures)

pub walk_statement-returns-else-number-eq0 : goal.walk_statement-returns-else-number-eq0
walk_statement-returns-else-number-eq0 t c =
    let arm = c.in-Spawn in
    let itself : List StmtKind = stmt.Spawn arm.field-0 arm.field-1 arm.block ∷ [] in
    let inside : List StmtKind = spawns_in c.as_slice-else-number-eq0.result.now in
    let all : spawns_of c.args.s.now.kind ≡ itself ++ inside =
    ap spawns_of arm.is ∙ spawns_of_spawn arm.field-0 arm.field-1 arm.block ∙ sym (ap (λ (body : List Stmt). itself ++ spawns_in body) c.as_slice-else-number-eq0.ensures)
    in
    let passed : c.args.number ≡ (c.args.number - 1) + length itself = omega arith in
    nth_same c.walk_statements-else-number-eq0.result (spawns_of c.args.s.now.kind) (itself ++ inside) c.args.number all
    (nth_behind c.walk_statements-else-number-eq0.result itself inside c.args.number (c.args.number - 1) passed c.walk_statements-else-number-eq0.ensures)

pub walk_statements-returns-in-Found : goal.walk_statements-returns-in-Found
walk_statements-returns-in-Found t c =
    let body : List Stmt = c.args.body.now in
    let i : ℕ = c.loop-s.s-index in
    let within : i < length body = omega arith in
    let front = spawns_in-drop body i c.s-item.result within c.s-item.is in
    c.loop-s.invariant (Found c.in-Found.spawn)
    (ap (λ (xs : List StmtKind). slice_get xs c.loop-s.number) front ∙
    slice_get-append (spawns_of c.s-item.result.kind) (spawns_in (drop (i + 1) body)) c.loop-s.number c.in-Found.spawn.now.kind c.in-Found.ensures)

pub walk_statements-returns : goal.walk_statements-returns
walk_statements-returns t c =
    let none : spawns_in (drop c.loop-s.s-index c.args.body.now) ≡ [] = at_drop_all spawns_in c.args.body.now c.loop-s.s-index c.loop-s-test.false in
    let nothing : length (spawns_in (drop c.loop-s.s-index c.args.body.now)) ≡ 0 = ap length none in
    c.loop-s.invariant (Passed c.loop-s.number) (omega (arith, nothing))

pub walk_statements-loop-s-preserved : goal.walk_statements-loop-s-preserved
walk_statements-loop-s-preserved t c = λ w rest.
    let body : List Stmt = c.args.body.now in
    let i : ℕ = c.loop-s.s-index in
    let within : i < length body = omega arith in
    let front = spawns_in-drop body i c.s-item.result within c.s-item.is in
    let here : List StmtKind = spawns_of c.s-item.result.kind in
    let behind : List StmtKind = spawns_in (drop (i + 1) body) in
    c.loop-s.invariant w
    (nth_same w (spawns_in (drop i body)) (here ++ behind) c.loop-s.number front
    (nth_behind w here behind c.loop-s.number c.in-Passed.left c.in-Passed.ensures rest))
