-- The end of a thread of an image.
use Rattle.std.proofs.Common.{◌≡◌, refl, sym, ◌∙◌, ap, subst, ℕ, zero, suc, List, [], ◌∷◌, ◌++◌, true, false}
use Rattle.std.specs.Prelude.{Bool, if◌then◌else◌}
use Rattle.xmt_base.specs.Action.{Action, Load, Store, Add, Ended}
use Rattle.interleaving.specs.Actors.{Move, Rests, Alone, Acts, Entry, DoesThen, Does}
use Rattle.interleaving.specs.Parts.{actions_of}
use Rattle.xmt_isa.specs.declared.image.Image.{Image}
use Rattle.xmt_isa.specs.declared.unit.UnitState.{UnitState}
use Rattle.xmt_isa.specs.declared.unit.UnitState.TheVariants.{Draws, Runs, Stopped, Halted}
use Rattle.xmt_isa.specs.declared.unit.Request.{Request}
use Rattle.xmt_isa.specs.declared.unit.Request.TheVariants as request
use Rattle.xmt_isa.specs.declared.unit.Next as unit_next
use Rattle.xmt_isa.specs.declared.unit.Next.TheVariants as does_next
use Rattle.xmt_isa.specs.Step.{next_of, local_of}
use Rattle.xmt_isa.specs.Picked.{is_live}
use Rattle.xmt_isa.specs.Places.{shared_at}
use Rattle.xmt_isa.specs.Threads.{Actor, action_of, answered, goes_alone, move_alone, move, move_by, is_running}
use Rattle.quad_image_law.proofs.Keeps.{Log, IsOver}

over_of_live : (s : UnitState) → is_live s ≡ false → is_running s ≡ false
over_of_live Draws h = refl
over_of_live Runs h = cc
over_of_live Stopped h = refl
over_of_live Halted h = refl

ends_by_request : (image : Image) (a : Actor) (ask : Request) (goes : ℕ → Actor) → Acts (action_of image a.unit ask) (answered image a ask) ≡ Acts Ended goes → (reply : ℕ) → IsOver (goes reply)
ends_by_request image a (request.Load word) goes e = absurd (let never : Load (shared_at image word) ≡ Ended = cc in cc)
ends_by_request image a (request.Store word value) goes e = absurd (let never : Store (shared_at image word) value ≡ Ended = cc in cc)
ends_by_request image a (request.Add word value) goes e = absurd (let never : Add (shared_at image word) value ≡ Ended = cc in cc)
ends_by_request image a (request.Print text) goes e = absurd (let never : action_of image a.unit (request.Print text) ≡ Ended = cc in cc)
ends_by_request image a (request.Spawn ask) goes e = absurd (let never : action_of image a.unit (request.Spawn ask) ≡ Ended = cc in cc)
ends_by_request image a request.Draw goes e = λ reply. let same : answered image a request.Draw ≡ goes = cc in ap (λ f. is_running (f reply).unit.state) (sym same)

-- what ends a thread leaves it over
ends_by : (image : Image) (a : Actor) (goes : ℕ → Actor) → move image a ≡ Acts Ended goes → (reply : ℕ) → IsOver (goes reply)
ends_by image a goes e reply = by_running (is_running a.unit.state) e
  where
    by_live : (live : Bool) → is_live (local_of image a.start a.unit).state ≡ live → move_alone image a live ≡ Acts Ended goes → IsOver (goes reply)
    by_live true h e = cc
    by_live false h e =
        let same : goes_alone image a ≡ goes reply = same_reply e in
        ap (λ x. is_running x.unit.state) (sym same) ∙ over_of_live (local_of image a.start a.unit).state h
      where
        same_reply : Acts Ended (λ reply. goes_alone image a) ≡ Acts Ended goes → goes_alone image a ≡ goes reply
        same_reply e = let f : (λ (r : ℕ). goes_alone image a) ≡ goes = cc in ap (λ f. f reply) f

    by_next : (n : unit_next.Next) → move_by image a n ≡ Acts Ended goes → IsOver (goes reply)
    by_next does_next.Local e = by_live (is_live (local_of image a.start a.unit).state) refl e
    by_next (does_next.Trap kind) e = cc
    by_next (does_next.Ask ask) e = ends_by_request image a ask goes e reply

    by_running : (running : Bool) → (if running then move_by image a (next_of image a.start a.unit) else Rests) ≡ Acts Ended goes → IsOver (goes reply)
    by_running true e = by_next (next_of image a.start a.unit) e
    by_running false e = cc

-- a thread that is over takes no step
rests : (image : Image) (a : Actor) → IsOver a → move image a ≡ Rests
rests image a ended = ap (λ running. if running then move_by image a (next_of image a.start a.unit) else Rests) ended

stays_over : (image : Image) (n : ℕ) (a : Actor) (part : Log) (end : Actor) → IsOver a → Does (move image) n a part end → IsOver end
stays_over image zero a part end ended does = subst (λ x. IsOver x) (sym does.1) ended
stays_over image (suc n) a part end ended does = absurd (subst (λ m. DoesThen (Does (move image) n) m part end) (rests image a ended) does)

-- whose last action is its end is over
pub last_is_over : (image : Image) (n : ℕ) (a : Actor) (part : Log) (end : Actor) (before : List Action) → Does (move image) n a part end → actions_of part ≡ before ++ (Ended ∷ []) → IsOver end
last_is_over image zero a part end before does is =
    let none : [] ≡ before ++ (Ended ∷ []) = sym (ap actions_of does.0) ∙ is in
    absurd (never before none)
  where
    never : (before : List Action) → [] ≡ before ++ (Ended ∷ []) → ⊥
    never [] e = cc
    never (b ∷ before) e = cc
last_is_over image (suc n) a part end before does is = by_move (λ s rest before. last_is_over image n s rest end before) (move image a) refl part is does
  where
    behind : (goes : ℕ → Actor) → move image a ≡ Acts Ended goes → (e : Entry Action) (rest : Log) → Does (move image) n (goes e.reply) rest end → IsOver end
    behind goes moves e rest does = stays_over image n (goes e.reply) rest end (ends_by image a goes moves e.reply) does

    by_before : ((s : Actor) (rest : Log) (before : List Action) → Does (move image) n s rest end → actions_of rest ≡ before ++ (Ended ∷ []) → IsOver end) → (action : Action) (goes : ℕ → Actor) → move image a ≡ Acts action goes → (e : Entry Action) (rest : Log) → e.action ≡ action → Does (move image) n (goes e.reply) rest end → (before : List Action) → e.action ∷ actions_of rest ≡ before ++ (Ended ∷ []) → IsOver end
    by_before on action goes moves e rest same does [] is =
        let ended : action ≡ Ended = sym same ∙ first e.action (actions_of rest) Ended [] is in
        behind goes (moves ∙ ap (λ x. Acts x goes) ended) e rest does
      where
        first : (x : Action) (xs : List Action) (y : Action) (ys : List Action) → x ∷ xs ≡ y ∷ ys → x ≡ y
        first x xs y ys e = cc
    by_before on action goes moves e rest same does (b ∷ before) is = on (goes e.reply) rest before does (tail e.action (actions_of rest) b (before ++ (Ended ∷ [])) is)
      where
        tail : (x : Action) (xs : List Action) (y : Action) (ys : List Action) → x ∷ xs ≡ y ∷ ys → xs ≡ ys
        tail x xs y ys e = cc

    by_move : ((s : Actor) (rest : Log) (before : List Action) → Does (move image) n s rest end → actions_of rest ≡ before ++ (Ended ∷ []) → IsOver end) → (m : Move Actor Action) → move image a ≡ m → (part : Log) → actions_of part ≡ before ++ (Ended ∷ []) → DoesThen (Does (move image) n) m part end → IsOver end
    by_move on Rests moves part is does = absurd does
    by_move on (Alone s) moves part is does = on s part before does is
    by_move on (Acts action goes) moves [] is does = absurd does
    by_move on (Acts action goes) moves (e ∷ rest) is does = by_before on action goes moves e rest does.0 does.1 before is

pub snoc_last : (xs ys : List Action) (x y : Action) → xs ++ (x ∷ []) ≡ ys ++ (y ∷ []) → x ≡ y
snoc_last [] [] x y e = cc
snoc_last [] (b ∷ ys) x y e = absurd (never ys (tail e))
  where
    tail : x ∷ [] ≡ b ∷ (ys ++ (y ∷ [])) → [] ≡ ys ++ (y ∷ [])
    tail e = cc

    never : (ys : List Action) → [] ≡ ys ++ (y ∷ []) → ⊥
    never [] e = cc
    never (c ∷ ys) e = cc
snoc_last (a ∷ xs) [] x y e = absurd (never xs (tail e))
  where
    tail : a ∷ (xs ++ (x ∷ [])) ≡ y ∷ [] → xs ++ (x ∷ []) ≡ []
    tail e = cc

    never : (xs : List Action) → xs ++ (x ∷ []) ≡ [] → ⊥
    never [] e = cc
    never (c ∷ xs) e = cc
snoc_last (a ∷ xs) (b ∷ ys) x y e = snoc_last xs ys x y (tail e)
  where
    tail : a ∷ (xs ++ (x ∷ [])) ≡ b ∷ (ys ++ (y ∷ [])) → xs ++ (x ∷ []) ≡ ys ++ (y ∷ [])
    tail e = cc
