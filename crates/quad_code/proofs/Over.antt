-- A thread of quads whose last action is its end is over.
use Rattle.std.proofs.Common.{◌≡◌, refl, sym, ◌∙◌, ap, subst, ℕ, zero, suc, true, false, if◌then◌else◌, List, [], ◌∷◌, ◌++◌, length, Option, Some, None}
use Rattle.std.specs.Prelude.{Bool, nat_lt}
use Rattle.xmt_base.specs.declared.values.TrapKind.TheVariants.{Index, PsIncrement, CallDepth, Address}
use Rattle.xmt_base.specs.Operators.{binary_value}
use Rattle.xmt_base.specs.Action.{Action, Load, Store, Add, Ended}
use Rattle.interleaving.specs.Actors.{Move, Rests, Alone, Acts, Entry, DoesThen}
use Rattle.interleaving.specs.Parts.{actions_of}
use Rattle.xmt_quads.specs.declared.code.Where.{Where}
use Rattle.xmt_quads.specs.declared.code.Quad.{Quad}
use Rattle.xmt_quads.specs.declared.code.Quad.TheVariants as quad
use Rattle.xmt_quads.specs.declared.code.QuadProgram.{QuadProgram}
use Rattle.xmt_quads.specs.Program.{quad_at}
use Rattle.xmt_quads.specs.Meaning.{QuadThread, Caller, Next, Traps, next_at, move_of, move, cost, quad_of, operand_value, is_inside, may_increment, assigns_option, returns, goes, acts, ends, enters, with_next, with_register, shared_place, accesses}
use Rattle.xmt_quads.specs.Traces.{DoesWith}

-- what ends a thread leaves it ended
abbrev EndsBy : Move QuadThread Action → Type 0
EndsBy m = (left : ℕ → QuadThread) → m ≡ Acts Ended left → (reply : ℕ) → (left reply).ended ≡ true

module _ (program : QuadProgram) where
  alone_ends_not : (t : QuadThread) → EndsBy (move_of program (goes t))
  alone_ends_not t left is reply = cc

  trap_ends_not : (kind : _) → EndsBy (move_of program (Traps kind))
  trap_ends_not kind left is reply = cc

  ends_ends : (t : QuadThread) → EndsBy (move_of program (ends t))
  ends_ends t left is reply = let same : (λ reply. record t { ended = true }) ≡ left = cc in sym (ap (λ (l : ℕ → QuadThread). (l reply).ended) same)

  by_option : (t : QuadThread) (r : ℕ) (o : Option ℕ) → EndsBy (move_of program (assigns_option t r o))
  by_option t r None left is reply = cc
  by_option t r (Some v) left is reply = cc

  by_callers : (t : QuadThread) (v : ℕ) (callers : List Caller) → EndsBy (move_of program (returns t v callers))
  by_callers t v [] = ends_ends t
  by_callers t v (caller ∷ callers) = λ left is reply. cc

  by_choice : (b : Bool) (x y : Next) → EndsBy (move_of program x) → EndsBy (move_of program y) → EndsBy (move_of program (if b then x else y))
  by_choice true x y first second = first
  by_choice false x y first second = second

  by_access : (t : QuadThread) (place : Where) (access : Next) → EndsBy (move_of program access) → EndsBy (move_of program (accesses program t place access))
  by_access t place access is = by_choice (is_inside (length program.words) t.registers place) access (Traps Address) is (trap_ends_not Address)

  by_quad : (t : QuadThread) (q : Option Quad) → EndsBy (move_of program (next_at program t q))
  by_quad t None = λ left is reply. cc
  by_quad t (Some (quad.Copy r o)) = alone_ends_not _
  by_quad t (Some (quad.Unary op r o)) = alone_ends_not _
  by_quad t (Some (quad.Binary op r a b)) = by_option t r (binary_value op (operand_value t.registers a) (operand_value t.registers b))
  by_quad t (Some (quad.Dollar r)) = alone_ends_not _
  by_quad t (Some (quad.Test o size)) = by_choice (nat_lt (operand_value t.registers o) size) (goes _) (Traps Index) (alone_ends_not _) (trap_ends_not Index)
  by_quad t (Some (quad.Load r place)) = by_access t place (acts (Load (shared_place program t place)) (λ reply. with_next t (with_register t.registers r reply))) (λ left is reply. cc)
  by_quad t (Some (quad.Store place o)) = by_access t place (acts (Store (shared_place program t place) (operand_value t.registers o)) (λ reply. with_next t t.registers)) (λ left is reply. cc)
  by_quad t (Some (quad.Add r place o)) =
      let add = acts (Add (shared_place program t place) (operand_value t.registers o)) (λ reply. with_next t (with_register t.registers r reply)) in
      by_access t place (if may_increment place (operand_value t.registers o) then add else Traps PsIncrement)
      (by_choice (may_increment place (operand_value t.registers o)) add (Traps PsIncrement) (λ left is reply. cc) (trap_ends_not PsIncrement))
  by_quad t (Some (quad.Jump to)) = alone_ends_not _
  by_quad t (Some (quad.IfZero o to)) = alone_ends_not _
  by_quad t (Some (quad.IfNot o to)) = alone_ends_not _
  by_quad t (Some (quad.Argument place o)) = alone_ends_not _
  by_quad t (Some (quad.Parameter r place)) = alone_ends_not _
  by_quad t (Some (quad.Call f)) = by_choice (nat_lt (length t.callers) 256) (goes (enters t f)) (Traps CallDepth) (alone_ends_not (enters t f)) (trap_ends_not CallDepth)
  by_quad t (Some (quad.Result r)) = alone_ends_not _
  by_quad t (Some (quad.Return o)) = by_callers t (operand_value t.registers o) t.callers
  by_quad t (Some (quad.Print text)) = λ left is reply. cc
  by_quad t (Some (quad.Spawn low high)) = λ left is reply. cc
  by_quad t (Some quad.Join) = ends_ends t

  -- a thread that is over takes no step
  rests : (t : QuadThread) → t.ended ≡ true → move program t ≡ Rests
  rests t ended = ap (λ b. move_of program (next_at program t (if b then None else quad_at program t.function t.at))) ended

  stays_over : (n : ℕ) (t : QuadThread) (part : List (Entry Action)) (end : QuadThread) (work : ℕ) → t.ended ≡ true → DoesWith (move program) (cost program) n t part end work → end.ended ≡ true
  stays_over zero t part end work ended does = subst (λ x. x.ended ≡ true) (sym does.1) ended
  stays_over (suc n) t part end work ended does = absurd (subst (λ m. DoesThen (λ s part end. DoesWith (move program) (cost program) n s part end does.0) m part end) (rests t ended) does.2)

  no_end : (before : List Action) → [] ≡ before ++ (Ended ∷ []) → ⊥
  no_end [] e = cc
  no_end (b ∷ before) e = cc

  first_is : (x : Action) (xs : List Action) (y : Action) (ys : List Action) → x ∷ xs ≡ y ∷ ys → x ≡ y
  first_is x xs y ys e = cc

  rest_is : (x : Action) (xs : List Action) (y : Action) (ys : List Action) → x ∷ xs ≡ y ∷ ys → xs ≡ ys
  rest_is x xs y ys e = cc

  pub last_is_over : (n : ℕ) (t : QuadThread) (part : List (Entry Action)) (end : QuadThread) (work : ℕ) (before : List Action) → DoesWith (move program) (cost program) n t part end work → actions_of part ≡ before ++ (Ended ∷ []) → end.ended ≡ true
  last_is_over zero t part end work before does is = absurd (no_end before (sym (ap actions_of does.0) ∙ is))
  last_is_over (suc n) t part end work before does is = by_move (λ s rest before. last_is_over n s rest end does.0 before) (move program t) refl part is does.2
    where
      Goes : QuadThread → List (Entry Action) → Type 0
      Goes s part = DoesWith (move program) (cost program) n s part end does.0

      by_before : ((s : QuadThread) (rest : List (Entry Action)) (before : List Action) → DoesWith (move program) (cost program) n s rest end does.0 → actions_of rest ≡ before ++ (Ended ∷ []) → end.ended ≡ true) → (action : Action) (left : ℕ → QuadThread) → move program t ≡ Acts action left →
          (e : Entry Action) (rest : List (Entry Action)) → e.action ≡ action → DoesWith (move program) (cost program) n (left e.reply) rest end does.0 → (before : List Action) → e.action ∷ actions_of rest ≡ before ++ (Ended ∷ []) → end.ended ≡ true
      by_before on action left moves e rest same goes [] is =
          let ended : action ≡ Ended = sym same ∙ first_is e.action (actions_of rest) Ended [] is in
          stays_over n (left e.reply) rest end does.0 (by_quad t (quad_of program t) left (moves ∙ ap (λ x. Acts x left) ended) e.reply) goes
      by_before on action left moves e rest same goes (b ∷ before) is = on (left e.reply) rest before goes (rest_is e.action (actions_of rest) b (before ++ (Ended ∷ [])) is)

      by_move : ((s : QuadThread) (rest : List (Entry Action)) (before : List Action) → DoesWith (move program) (cost program) n s rest end does.0 → actions_of rest ≡ before ++ (Ended ∷ []) → end.ended ≡ true) → (m : Move QuadThread Action) → move program t ≡ m →
          (part : List (Entry Action)) → actions_of part ≡ before ++ (Ended ∷ []) → DoesThen (λ s part end. DoesWith (move program) (cost program) n s part end does.0) m part end → end.ended ≡ true
      by_move on Rests moves part is goes = absurd goes
      by_move on (Alone s) moves part is goes = on s part before goes is
      by_move on (Acts action left) moves [] is goes = absurd goes
      by_move on (Acts action left) moves (e ∷ rest) is goes = by_before on action left moves e rest goes.0 goes.1 before is

-- the last of two lists that are the same
pub snoc_last : (xs ys : List Action) (x y : Action) → xs ++ (x ∷ []) ≡ ys ++ (y ∷ []) → x ≡ y
snoc_last [] [] x y e = cc
snoc_last [] (b ∷ ys) x y e = absurd (never ys (tail e))
  where
    tail : x ∷ [] ≡ b ∷ (ys ++ (y ∷ [])) → [] ≡ ys ++ (y ∷ [])
    tail e = cc

    never : (ys : List Action) → [] ≡ ys ++ (y ∷ []) → ⊥
    never [] e = cc
    never (c ∷ ys) e = cc
snoc_last (a ∷ xs) [] x y e = absurd (never xs (tail e))
  where
    tail : a ∷ (xs ++ (x ∷ [])) ≡ y ∷ [] → xs ++ (x ∷ []) ≡ []
    tail e = cc

    never : (xs : List Action) → xs ++ (x ∷ []) ≡ [] → ⊥
    never [] e = cc
    never (c ∷ xs) e = cc
snoc_last (a ∷ xs) (b ∷ ys) x y e = snoc_last xs ys x y (tail e)
  where
    tail : a ∷ (xs ++ (x ∷ [])) ≡ b ∷ (ys ++ (y ∷ [])) → xs ++ (x ∷ []) ≡ ys ++ (y ∷ [])
    tail e = cc
