-- What a thread does as an actor is a trace of it; and of each trace there is a first one that does as much.
use Rattle.std.proofs.Common.{◌≡◌, refl, sym, ◌∙◌, ap, ap₂, subst, ℕ, suc, zero, ◌≤◌, inl, true, false, if◌then◌else◌, List, [], ◌∷◌, ◌++◌, append-nil, Option, Some, None}
use Rattle.xmt_base.specs.Action.{Shared, Action, Start, Main, Block}
use Rattle.xmt_base.specs.Action as action
use Rattle.source_meaning.specs.declared.tree.Program.{Program}
use Rattle.source_meaning.specs.Store.{Word, Register, Outer, Private}
use Rattle.source_meaning.specs.Term.{Code}
use Rattle.source_meaning.specs.Next.{Ask, Quietly, Loading, Storing, Adding, Printing, Spawning, Joining, Ending, Next, Is, Asks, Traps}
use Rattle.source_meaning.specs.Run.{next_of_rest, store_after}
use Rattle.source_meaning.specs.Trace.{Local, action_of, next_reply, reply_to, step_with_reply, step_of, trace_then, and_then, local_run, main_in, main_of, traces_in}
use Rattle.interleaving.specs.Actors.{Acts, Entry, Does, DoesThen, IsPrompt}
use Rattle.interleaving.proofs.Interleave.{prompt_run}
use Rattle.source_log.specs.Log.{Log}
use Rattle.interleaving.specs.Parts.{actions_of, takes_reply, replies_of}
use Rattle.source_log.specs.Threads.{Actor, actor_after, own_reply, move_by, move_of, move, actor_of, main_actor}
use Rattle.source_log.proofs.ByItself.{ArePlain, ByItself, by_itself}

module _ (program : Program) (t number : ℕ) where
  -- a run that does this part and comes to this actor
  abbrev pub Run : (work : ℕ) → Local (Option Code) → Log → Actor → Type 0
  Run work l part end = (to : Local (Option Code)) × (local_run (next_of_rest program t number) work l ≡ Some (actions_of part, to)) × (actor_of number to ≡ end)

  abbrev pub StepRun : (work : ℕ) → Local (Option Code) → Next (Option Code) (Unit {0}) → Log → Actor → Type 0
  StepRun work l n part end = (to : Local (Option Code)) × (and_then (step_of l.store l.replies n) (local_run (next_of_rest program t number) work) ≡ Some (actions_of part, to)) × (actor_of number to ≡ end)

  abbrev pub SoFar : (work : ℕ) → Type 0
  SoFar work = (l : Local (Option Code)) (part : Log) (end : Actor) → l.replies ≡ replies_of part → ArePlain part → Does (move program t) work (actor_of number l) part end → Run work l part end

  quiet_run : (work : ℕ) → SoFar work → (l : Local (Option Code)) (part : Log) (end : Actor) (a : Ask) (left : ℕ → Option Code) → action_of a ≡ [] → reply_to l.store l.replies a ≡ Some (own_reply l.store a, l.replies) → l.replies ≡ replies_of part → ArePlain part →
      DoesThen (Does (move program t) work) (move_by (actor_of number l) a left (action_of a)) part end → StepRun work l (Asks a left) part end
  quiet_run work so l part end a left acted told replies plain does =
      let l1 : Local (Option Code) = record { code = left (own_reply l.store a); store = store_after l.store a; replies = l.replies } in
      let rest : Run work l1 part end = so l1 part end replies plain (subst (λ acts. DoesThen (Does (move program t) work) (move_by (actor_of number l) a left acts) part end) acted does) in (
        rest.0,
        ap (λ x. and_then (step_with_reply l.store a left x) (local_run (next_of_rest program t number) work)) told ∙ ap (trace_then (action_of a)) rest.1 ∙ ap (λ acts. Some (acts ++ actions_of part, rest.0)) acted,
        rest.2,
      )

  seen_run : (work : ℕ) → SoFar work → (l : Local (Option Code)) (part : Log) (end : Actor) (a : Ask) (left : ℕ → Option Code) (g : Action) → action_of a ≡ g ∷ [] →
      ((e : Entry Action) (p : Log) → e.action ≡ g → l.replies ≡ replies_of (e ∷ p) → ArePlain (e ∷ p) → reply_to l.store l.replies a ≡ Some (e.reply, replies_of p)) → l.replies ≡ replies_of part → ArePlain part →
      DoesThen (Does (move program t) work) (move_by (actor_of number l) a left (action_of a)) part end → StepRun work l (Asks a left) part end
  seen_run work so l part end a left g acted told replies plain does = by_part part replies plain (subst (λ acts. DoesThen (Does (move program t) work) (move_by (actor_of number l) a left acts) part end) acted does)
    where
      by_part : (part : Log) → l.replies ≡ replies_of part → ArePlain part → DoesThen (Does (move program t) work) (Acts g (λ reply. actor_after (actor_of number l) a (left reply))) part end → StepRun work l (Asks a left) part end
      by_part [] replies plain does = absurd does
      by_part (e ∷ p) replies plain does =
          let l1 : Local (Option Code) = record { code = left e.reply; store = store_after l.store a; replies = replies_of p } in
          let rest : Run work l1 p end = so l1 p end refl plain.2 does.1 in (
            rest.0,
            ap (λ x. and_then (step_with_reply l.store a left x) (local_run (next_of_rest program t number) work)) (told e p does.0 replies plain) ∙ ap (trace_then (action_of a)) rest.1 ∙
                ap (λ acts. Some (acts ++ actions_of p, rest.0)) acted ∙ ap (λ x. Some (x ∷ actions_of p, rest.0)) (sym does.0),
            rest.2,
          )

  told_reply : (l : Local (Option Code)) (a : Ask) (g : Action) → takes_reply g ≡ true → ((replies : List ℕ) → reply_to l.store replies a ≡ next_reply replies) →
      (e : Entry Action) (p : Log) → e.action ≡ g → l.replies ≡ replies_of (e ∷ p) → ArePlain (e ∷ p) → reply_to l.store l.replies a ≡ Some (e.reply, replies_of p)
  told_reply l a g takes asks e p is_g replies plain =
      let takes_here : takes_reply e.action ≡ true = ap takes_reply is_g ∙ takes in
      asks l.replies ∙ ap next_reply (replies ∙ ap (λ b. if b then e.reply ∷ replies_of p else replies_of p) takes_here)

  plain_reply : (l : Local (Option Code)) (a : Ask) (g : Action) → takes_reply g ≡ false → reply_to l.store l.replies a ≡ Some (0, l.replies) →
      (e : Entry Action) (p : Log) → e.action ≡ g → l.replies ≡ replies_of (e ∷ p) → ArePlain (e ∷ p) → reply_to l.store l.replies a ≡ Some (e.reply, replies_of p)
  plain_reply l a g takes asks e p is_g replies plain =
      let takes_here : takes_reply e.action ≡ false = ap takes_reply is_g ∙ takes in
      asks ∙ ap₂ (λ n rs. Some (n, rs)) (sym (plain.0 takes_here)) (replies ∙ ap (λ b. if b then e.reply ∷ replies_of p else replies_of p) takes_here)

  by_ask : (work : ℕ) → SoFar work → (l : Local (Option Code)) (part : Log) (end : Actor) (a : Ask) (left : ℕ → Option Code) → l.replies ≡ replies_of part → ArePlain part →
      DoesThen (Does (move program t) work) (move_by (actor_of number l) a left (action_of a)) part end → StepRun work l (Asks a left) part end
  by_ask work so l part end Quietly left = quiet_run work so l part end Quietly left refl refl
  by_ask work so l part end (Loading (Word n)) left = seen_run work so l part end (Loading (Word n)) left (action.Load (action.Word n)) refl (told_reply l (Loading (Word n)) (action.Load (action.Word n)) refl (λ rs. refl))
  by_ask work so l part end (Loading (Register n)) left = seen_run work so l part end (Loading (Register n)) left (action.Load (action.Register n)) refl (told_reply l (Loading (Register n)) (action.Load (action.Register n)) refl (λ rs. refl))
  by_ask work so l part end (Loading (Outer o d n)) left = seen_run work so l part end (Loading (Outer o d n)) left (action.Load (action.Outer d n)) refl (told_reply l (Loading (Outer o d n)) (action.Load (action.Outer d n)) refl (λ rs. refl))
  by_ask work so l part end (Loading (Private o d n)) left = quiet_run work so l part end (Loading (Private o d n)) left refl refl
  by_ask work so l part end (Storing (Word n) v) left = seen_run work so l part end (Storing (Word n) v) left (action.Store (action.Word n) v) refl (plain_reply l (Storing (Word n) v) (action.Store (action.Word n) v) refl refl)
  by_ask work so l part end (Storing (Register n) v) left = seen_run work so l part end (Storing (Register n) v) left (action.Store (action.Register n) v) refl (plain_reply l (Storing (Register n) v) (action.Store (action.Register n) v) refl refl)
  by_ask work so l part end (Storing (Outer o d n) v) left = seen_run work so l part end (Storing (Outer o d n) v) left (action.Store (action.Outer d n) v) refl (plain_reply l (Storing (Outer o d n) v) (action.Store (action.Outer d n) v) refl refl)
  by_ask work so l part end (Storing (Private o d n) v) left = quiet_run work so l part end (Storing (Private o d n) v) left refl refl
  by_ask work so l part end (Adding (Word n) v) left = seen_run work so l part end (Adding (Word n) v) left (action.Add (action.Word n) v) refl (told_reply l (Adding (Word n) v) (action.Add (action.Word n) v) refl (λ rs. refl))
  by_ask work so l part end (Adding (Register n) v) left = seen_run work so l part end (Adding (Register n) v) left (action.Add (action.Register n) v) refl (told_reply l (Adding (Register n) v) (action.Add (action.Register n) v) refl (λ rs. refl))
  by_ask work so l part end (Adding (Outer o d n) v) left = seen_run work so l part end (Adding (Outer o d n) v) left (action.Add (action.Outer d n) v) refl (told_reply l (Adding (Outer o d n) v) (action.Add (action.Outer d n) v) refl (λ rs. refl))
  by_ask work so l part end (Adding (Private o d n) v) left = quiet_run work so l part end (Adding (Private o d n) v) left refl refl
  by_ask work so l part end (Printing text) left = seen_run work so l part end (Printing text) left (action.Print text) refl (plain_reply l (Printing text) (action.Print text) refl refl)
  by_ask work so l part end (Spawning site low high block) left = seen_run work so l part end (Spawning site low high block) left (action.Spawn site low high) refl (plain_reply l (Spawning site low high block) (action.Spawn site low high) refl refl)
  by_ask work so l part end Joining left = quiet_run work so l part end Joining left refl refl
  by_ask work so l part end Ending left = seen_run work so l part end Ending left action.Ended refl (plain_reply l Ending action.Ended refl refl)

  pub done_is_run : (work : ℕ) → SoFar work
  done_is_run zero l part end replies plain does = (l, ap (λ p. Some (actions_of p, l)) (sym does.0), sym does.1)
  done_is_run (suc work) l part end replies plain does = by_next (next_of_rest program t number l.code) (done_is_run work) does
    where
      by_next : (n : Next (Option Code) (Unit {0})) → SoFar work → DoesThen (Does (move program t) work) (move_of (actor_of number l) n) part end → StepRun work l n part end
      by_next (Is result) so h = absurd h
      by_next (Traps kind line) so h = absurd h
      by_next (Asks a left) so h = by_ask work so l part end a left replies plain h

-- Of each trace of the serial code there is a first one that does as much, whose last step is its last action.
pub prompt_trace : (program : Program) (part : Log) (work : ℕ) → ArePlain part → traces_in program 0 Main (replies_of part) (actions_of part) work →
    (less : ℕ) × (less ≤ work) × traces_in program 0 Main (replies_of part) (actions_of part) less × ((fewer : ℕ) → less ≡ suc fewer → traces_in program 0 Main (replies_of part) (actions_of part) fewer → ⊥)
prompt_trace program part work plain h =
    let r : ByItself program 0 Main part None work = by_itself program 0 Main part None work plain (subst (λ acts. traces_in program 0 Main (replies_of part) acts work) (sym (append-nil (actions_of part))) h) in
    let does : Does (move program 0) work (main_actor program) part r.to = subst (λ a. Does (move program 0) work a part r.to) r.begins r.does in
    let found : (m : ℕ) × (there : Actor) × (m ≤ work) × Does (move program 0) m (main_actor program) part there × IsPrompt (move program 0) m (main_actor program) part = prompt_run (move program 0) work (main_actor program) part r.to does in
    let run : Run program 0 0 found.0 (main_of program (replies_of part)) part found.1 = done_is_run program 0 0 found.0 (main_of program (replies_of part)) part found.1 refl plain found.3 in (
      found.0,
      found.2,
      (actions_of part, run.0, run.1, inl refl),
      λ fewer is_more trace.
          let again : ByItself program 0 Main part None fewer = by_itself program 0 Main part None fewer plain (subst (λ acts. traces_in program 0 Main (replies_of part) acts fewer) (sym (append-nil (actions_of part))) trace) in
          found.4 fewer is_more again.to (subst (λ a. Does (move program 0) fewer a part again.to) again.begins again.does),
    )

-- A thread that begins at a start may as well have done nothing yet, as one that no unit has drawn.
pub not_begun : (program : Program) (t : ℕ) (begin : Start) (replies : List ℕ) (trace : List Action) (work : ℕ) → traces_in program t begin replies trace work → traces_in program t begin replies [] 0
not_begun program t Main replies trace work h = ([], main_in program t replies, refl, inl refl)
not_begun program t (Block before serial_replies number) replies trace work (steps, done, serial, block, run, is_before, spawned, is_block, h) = (steps, done, serial, block, run, is_before, spawned, is_block, ([], block, refl, inl refl))
