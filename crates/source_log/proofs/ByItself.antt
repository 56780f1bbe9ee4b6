-- The trace of a thread by itself is what it does as an actor.
use Rattle.std.proofs.Common.{◌≡◌, refl, sym, ◌∙◌, ap, ap₂, subst, ℕ, suc, zero, ◌||◌, ◌⊎◌, inl, inr, Bool, true, false, if◌then◌else◌, List, [], ◌∷◌, ◌++◌, arith, append-nil, Option, Some, None}
use Rattle.xmt_base.specs.declared.values.TrapKind.{TrapKind}
use Rattle.xmt_base.specs.Action.{Shared, Action, Start, Main, Block}
use Rattle.xmt_base.specs.Action as action
use Rattle.source_meaning.specs.declared.tree.Program.{Program}
use Rattle.source_meaning.specs.Store.{Word, Register, Outer, Private, Store}
use Rattle.source_meaning.specs.Term.{Code}
use Rattle.source_meaning.specs.Next.{Ask, Quietly, Loading, Storing, Adding, Printing, Spawning, Joining, Ending, Next, Is, Asks, Traps}
use Rattle.source_meaning.specs.Run.{next_of_rest, store_after}
use Rattle.source_meaning.specs.Trace.{Local, action_of, next_reply, reply_to, step_with_reply, step_of, trace_then, and_then, local_run, trap_action as trap_of, HasTrace, main_in, block_of, serial_next, traces_in}
use Rattle.interleaving.specs.Actors.{Acts, Entry, Does, DoesThen}
use Rattle.source_log.specs.Log.{Log, IsLogged, trap_action}
use Rattle.interleaving.specs.Parts.{actions_of, takes_reply, replies_of}
use Rattle.source_log.specs.FromLog.{Begins}
use Rattle.source_log.specs.Threads.{Actor, next_of_actor, actor_after, own_reply, move_by, move_of, move, actor_of}

-- an action that takes no reply has the reply 0
abbrev pub ArePlain : Log → Type 0
ArePlain [] = Unit {0}
ArePlain (e ∷ part) = (takes_reply e.action ≡ false → e.reply ≡ 0) × IsLogged e.actor e.action × ArePlain part

-- ---- lists of actions

trace_then-some : {X : Type 0} (first acts : List Action) (end : X) (outcome : Option (List Action × X)) → trace_then first outcome ≡ Some (acts, end) → (rest : List Action) × (outcome ≡ Some (rest, end)) × (acts ≡ first ++ rest)
trace_then-some first acts end None h = cc
trace_then-some {X} first acts end (Some outcome) h =
    let pair : ◌≡◌ {A = List Action × X} (first ++ outcome.0, outcome.1) (acts, end) = cc in
    (outcome.0, ap (λ x. Some (outcome.0, x)) (ap (λ q. q.1) pair), sym (ap (λ q. q.0) pair))

abbrev pub has_trap : List Action → Bool
has_trap [] = false
has_trap (action.Trap kind line ∷ rest) = true
has_trap (_ ∷ rest) = has_trap rest

has_trap-append : (first second : List Action) → has_trap (first ++ second) ≡ (has_trap first || has_trap second)
has_trap-append [] second = grind arith
has_trap-append (action.Load place ∷ first) second = has_trap-append first second
has_trap-append (action.Store place v ∷ first) second = has_trap-append first second
has_trap-append (action.Add place v ∷ first) second = has_trap-append first second
has_trap-append (action.Print text ∷ first) second = has_trap-append first second
has_trap-append (action.Spawn site low high ∷ first) second = has_trap-append first second
has_trap-append (action.Trap kind line ∷ first) second = grind arith
has_trap-append (action.Ended ∷ first) second = has_trap-append first second

no_trap_logged : (part : Log) → ArePlain part → has_trap (actions_of part) ≡ false
no_trap_logged [] plain = refl
no_trap_logged (e ∷ part) plain = by_action e.action plain.1 (no_trap_logged part plain.2)
  where
    by_action : (x : Action) → IsLogged e.actor x → has_trap (actions_of part) ≡ false → has_trap (x ∷ actions_of part) ≡ false
    by_action (action.Load place) logged h = h
    by_action (action.Store place v) logged h = h
    by_action (action.Add place v) logged h = h
    by_action (action.Print text) logged h = h
    by_action (action.Spawn site low high) logged h = h
    by_action (action.Trap kind line) logged h = absurd logged
    by_action action.Ended logged h = h

no_trap_asked : (a : Ask) → has_trap (action_of a) ≡ false
no_trap_asked Quietly = refl
no_trap_asked (Loading (Word place)) = refl
no_trap_asked (Loading (Register number)) = refl
no_trap_asked (Loading (Outer o d n)) = refl
no_trap_asked (Loading (Private o d n)) = refl
no_trap_asked (Storing (Word place) v) = refl
no_trap_asked (Storing (Register number) v) = refl
no_trap_asked (Storing (Outer o d n) v) = refl
no_trap_asked (Storing (Private o d n) v) = refl
no_trap_asked (Adding (Word place) v) = refl
no_trap_asked (Adding (Register number) v) = refl
no_trap_asked (Adding (Outer o d n) v) = refl
no_trap_asked (Adding (Private o d n) v) = refl
no_trap_asked (Printing text) = refl
no_trap_asked (Spawning site low high block) = refl
no_trap_asked Joining = refl
no_trap_asked Ending = refl

-- ---- a run is what the actor does

-- the reply and the replies that are left, as the part of the log has them
abbrev Links : Action → (x : ℕ) → (rest replies : List ℕ) → Type 0
Links g x rest replies = (e : Entry Action) (part : Log) → e.action ≡ g → replies ≡ replies_of (e ∷ part) → ArePlain (e ∷ part) → (x ≡ e.reply) × (rest ≡ replies_of part)

links_told : (g : Action) (x : ℕ) (rest : List ℕ) → takes_reply g ≡ true → Links g x rest (x ∷ rest)
links_told g x rest takes e part is_g h plain =
    let takes_here : takes_reply e.action ≡ true = ap takes_reply is_g ∙ takes in
    let both : (x ∷ rest) ≡ (e.reply ∷ replies_of part) = h ∙ ap (λ b. if b then e.reply ∷ replies_of part else replies_of part) takes_here in
    (cc, cc)

links_plain : (g : Action) (replies : List ℕ) → takes_reply g ≡ false → Links g 0 replies replies
links_plain g replies takes e part is_g h plain =
    let takes_here : takes_reply e.action ≡ false = ap takes_reply is_g ∙ takes in
    (sym (plain.0 takes_here), h ∙ ap (λ b. if b then e.reply ∷ replies_of part else replies_of part) takes_here)

module _ (program : Program) (t number : ℕ) (end : Local (Option Code)) where
  -- what is to be shown of runs of so many steps
  abbrev IsSoFor : (work : ℕ) → Type 0
  IsSoFor work = (l : Local (Option Code)) (acts : List Action) (part : Log) → local_run (next_of_rest program t number) work l ≡ Some (acts, end) → acts ≡ actions_of part → l.replies ≡ replies_of part → ArePlain part → Does (move program t) work (actor_of number l) part (actor_of number end)

  quiet_case : (work : ℕ) → IsSoFor work → (l : Local (Option Code)) (acts : List Action) (part : Log) (a : Ask) (left : ℕ → Option Code) → action_of a ≡ [] → reply_to l.store l.replies a ≡ Some (own_reply l.store a, l.replies) →
      and_then (step_of {R = Unit {0}} l.store l.replies (Asks a left)) (local_run (next_of_rest program t number) work) ≡ Some (acts, end) → acts ≡ actions_of part → l.replies ≡ replies_of part → ArePlain part →
      DoesThen (Does (move program t) work) (move_by (actor_of number l) a left (action_of a)) part (actor_of number end)
  quiet_case work so l acts part a left acted told h are replies plain =
      let l1 : Local (Option Code) = record { code = left (own_reply l.store a); store = store_after l.store a; replies = l.replies } in
      let run : trace_then (action_of a) (local_run (next_of_rest program t number) work l1) ≡ Some (acts, end) = ap (λ x. and_then (step_with_reply l.store a left x) (local_run (next_of_rest program t number) work)) (sym told) ∙ h in
      let rest : (rest : List Action) × (local_run (next_of_rest program t number) work l1 ≡ Some (rest, end)) × (acts ≡ action_of a ++ rest) = trace_then-some (action_of a) acts end (local_run (next_of_rest program t number) work l1) run in
      let same : rest.0 ≡ actions_of part = sym (ap (λ x. x ++ rest.0) acted) ∙ sym rest.2 ∙ are in
      subst (λ x. DoesThen (Does (move program t) work) (move_by (actor_of number l) a left x) part (actor_of number end)) (sym acted) (so l1 rest.0 part rest.1 same replies plain)

  seen_case : (work : ℕ) → IsSoFor work → (l : Local (Option Code)) (acts : List Action) (part : Log) (a : Ask) (left : ℕ → Option Code) (g : Action) (x : ℕ) (after : List ℕ) → action_of a ≡ g ∷ [] → reply_to l.store l.replies a ≡ Some (x, after) → Links g x after l.replies →
      and_then (step_of {R = Unit {0}} l.store l.replies (Asks a left)) (local_run (next_of_rest program t number) work) ≡ Some (acts, end) → acts ≡ actions_of part → l.replies ≡ replies_of part → ArePlain part →
      DoesThen (Does (move program t) work) (move_by (actor_of number l) a left (action_of a)) part (actor_of number end)
  seen_case work so l acts part a left g x after acted told links h are replies plain =
      let l1 : Local (Option Code) = record { code = left x; store = store_after l.store a; replies = after } in
      let run : trace_then (action_of a) (local_run (next_of_rest program t number) work l1) ≡ Some (acts, end) = ap (λ x. and_then (step_with_reply l.store a left x) (local_run (next_of_rest program t number) work)) (sym told) ∙ h in
      let rest : (rest : List Action) × (local_run (next_of_rest program t number) work l1 ≡ Some (rest, end)) × (acts ≡ action_of a ++ rest) = trace_then-some (action_of a) acts end (local_run (next_of_rest program t number) work l1) run in
      let same : (g ∷ rest.0) ≡ actions_of part = sym (ap (λ x. x ++ rest.0) acted) ∙ sym rest.2 ∙ are in
      subst (λ x. DoesThen (Does (move program t) work) (move_by (actor_of number l) a left x) part (actor_of number end)) (sym acted) (by_part part rest.0 same replies plain rest.1)
    where
      by_part : (part : Log) → (rest : List Action) → (g ∷ rest) ≡ actions_of part → l.replies ≡ replies_of part → ArePlain part → local_run (next_of_rest program t number) work (record { code = left x; store = store_after l.store a; replies = after }) ≡ Some (rest, end) →
          DoesThen (Does (move program t) work) (Acts g (λ reply. actor_after (actor_of number l) a (left reply))) part (actor_of number end)
      by_part [] rest h replies plain run = cc
      by_part (e ∷ part) rest h replies plain run =
          let is_g : e.action ≡ g = cc in
          let are_rest : rest ≡ actions_of part = cc in
          let linked : (x ≡ e.reply) × (after ≡ replies_of part) = links e part is_g replies plain in (
            is_g,
            subst (λ n. Does (move program t) work (actor_after (actor_of number l) a (left n)) part (actor_of number end)) linked.0
                (so (record { code = left x; store = store_after l.store a; replies = after }) rest part run are_rest linked.1 plain.2),
          )

  -- a load or an add of a shared place: the next reply is taken
  told_case : (work : ℕ) → IsSoFor work → (l : Local (Option Code)) (acts : List Action) (part : Log) (a : Ask) (left : ℕ → Option Code) (g : Action) (replies : List ℕ) → l.replies ≡ replies → takes_reply g ≡ true → action_of a ≡ g ∷ [] → reply_to l.store replies a ≡ next_reply replies →
      and_then (step_of {R = Unit {0}} l.store l.replies (Asks a left)) (local_run (next_of_rest program t number) work) ≡ Some (acts, end) → acts ≡ actions_of part → l.replies ≡ replies_of part → ArePlain part →
      DoesThen (Does (move program t) work) (move_by (actor_of number l) a left (action_of a)) part (actor_of number end)
  told_case work so l acts part a left g [] has takes acted told h are replies plain =
      let none : reply_to l.store l.replies a ≡ None = ap (λ rs. reply_to l.store rs a) has ∙ told in
      let never : ◌≡◌ {A = Option (List Action × Local (Option Code))} None (Some (acts, end)) = ap (λ x. and_then (step_with_reply l.store a left x) (local_run (next_of_rest program t number) work)) (sym none) ∙ h in
      cc
  told_case work so l acts part a left g (x ∷ rest) has takes acted told h are replies plain =
      seen_case work so l acts part a left g x rest acted (ap (λ rs. reply_to l.store rs a) has ∙ told) (subst (λ rs. Links g x rest rs) (sym has) (links_told g x rest takes)) h are replies plain

  plain_case : (work : ℕ) → IsSoFor work → (l : Local (Option Code)) (acts : List Action) (part : Log) (a : Ask) (left : ℕ → Option Code) (g : Action) → takes_reply g ≡ false → action_of a ≡ g ∷ [] → reply_to l.store l.replies a ≡ Some (0, l.replies) →
      and_then (step_of {R = Unit {0}} l.store l.replies (Asks a left)) (local_run (next_of_rest program t number) work) ≡ Some (acts, end) → acts ≡ actions_of part → l.replies ≡ replies_of part → ArePlain part →
      DoesThen (Does (move program t) work) (move_by (actor_of number l) a left (action_of a)) part (actor_of number end)
  plain_case work so l acts part a left g takes acted told h are replies plain =
      seen_case work so l acts part a left g 0 l.replies acted told (links_plain g l.replies takes) h are replies plain

  by_ask : (work : ℕ) → IsSoFor work → (l : Local (Option Code)) (acts : List Action) (part : Log) (a : Ask) (left : ℕ → Option Code) →
      and_then (step_of {R = Unit {0}} l.store l.replies (Asks a left)) (local_run (next_of_rest program t number) work) ≡ Some (acts, end) → acts ≡ actions_of part → l.replies ≡ replies_of part → ArePlain part →
      DoesThen (Does (move program t) work) (move_by (actor_of number l) a left (action_of a)) part (actor_of number end)
  by_ask work so l acts part Quietly left = quiet_case work so l acts part Quietly left refl refl
  by_ask work so l acts part (Loading (Word place)) left = told_case work so l acts part (Loading (Word place)) left (action.Load (action.Word place)) l.replies refl refl refl refl
  by_ask work so l acts part (Loading (Register number)) left = told_case work so l acts part (Loading (Register number)) left (action.Load (action.Register number)) l.replies refl refl refl refl
  by_ask work so l acts part (Loading (Outer o d n)) left = told_case work so l acts part (Loading (Outer o d n)) left (action.Load (action.Outer d n)) l.replies refl refl refl refl
  by_ask work so l acts part (Loading (Private o d n)) left = quiet_case work so l acts part (Loading (Private o d n)) left refl refl
  by_ask work so l acts part (Storing (Word place) v) left = plain_case work so l acts part (Storing (Word place) v) left (action.Store (action.Word place) v) refl refl refl
  by_ask work so l acts part (Storing (Register number) v) left = plain_case work so l acts part (Storing (Register number) v) left (action.Store (action.Register number) v) refl refl refl
  by_ask work so l acts part (Storing (Outer o d n) v) left = plain_case work so l acts part (Storing (Outer o d n) v) left (action.Store (action.Outer d n) v) refl refl refl
  by_ask work so l acts part (Storing (Private o d n) v) left = quiet_case work so l acts part (Storing (Private o d n) v) left refl refl
  by_ask work so l acts part (Adding (Word place) v) left = told_case work so l acts part (Adding (Word place) v) left (action.Add (action.Word place) v) l.replies refl refl refl refl
  by_ask work so l acts part (Adding (Register number) v) left = told_case work so l acts part (Adding (Register number) v) left (action.Add (action.Register number) v) l.replies refl refl refl refl
  by_ask work so l acts part (Adding (Outer o d n) v) left = told_case work so l acts part (Adding (Outer o d n) v) left (action.Add (action.Outer d n) v) l.replies refl refl refl refl
  by_ask work so l acts part (Adding (Private o d n) v) left = quiet_case work so l acts part (Adding (Private o d n) v) left refl refl
  by_ask work so l acts part (Printing text) left = plain_case work so l acts part (Printing text) left (action.Print text) refl refl refl
  by_ask work so l acts part (Spawning site low high block) left = plain_case work so l acts part (Spawning site low high block) left (action.Spawn site low high) refl refl refl
  by_ask work so l acts part Joining left = quiet_case work so l acts part Joining left refl refl
  by_ask work so l acts part Ending left = plain_case work so l acts part Ending left action.Ended refl refl refl

  no_actions : (part : Log) → [] ≡ actions_of part → part ≡ []
  no_actions [] h = refl
  no_actions (e ∷ part) h = cc

  pub run_is_done : (work : ℕ) → IsSoFor work
  run_is_done zero l acts part h are replies plain =
      let pair : ◌≡◌ {A = List Action × Local (Option Code)} ([], l) (acts, end) = cc in
      (no_actions part (ap (λ q. q.0) pair ∙ are), sym (ap (λ q. actor_of number q.1) pair))
  run_is_done (suc work) l acts part h are replies plain = by_next (next_of_rest program t number l.code) (run_is_done work) h
    where
      by_next : (n : Next (Option Code) (Unit {0})) → IsSoFor work → and_then (step_of l.store l.replies n) (local_run (next_of_rest program t number) work) ≡ Some (acts, end) → DoesThen (Does (move program t) work) (move_of (actor_of number l) n) part (actor_of number end)
      by_next (Is result) so h = cc
      by_next (Traps kind line) so h = cc
      by_next (Asks a left) so h = by_ask work so l acts part a left h are replies plain

  -- what is done in a run has no trap
  no_trap_done : (work : ℕ) (l : Local (Option Code)) (acts : List Action) → local_run (next_of_rest program t number) work l ≡ Some (acts, end) → has_trap acts ≡ false
  no_trap_done zero l acts h =
      let pair : ◌≡◌ {A = List Action × Local (Option Code)} ([], l) (acts, end) = cc in
      sym (ap (λ q. has_trap q.0) pair)
  no_trap_done (suc work) l acts h = by_next (next_of_rest program t number l.code) (no_trap_done work) h
    where
      by_next : (n : Next (Option Code) (Unit {0})) → ((l : Local (Option Code)) (acts : List Action) → local_run (next_of_rest program t number) work l ≡ Some (acts, end) → has_trap acts ≡ false) → and_then (step_of l.store l.replies n) (local_run (next_of_rest program t number) work) ≡ Some (acts, end) → has_trap acts ≡ false
      by_next (Is result) so h = cc
      by_next (Traps kind line) so h = cc
      by_next (Asks a left) so h = by_reply (reply_to l.store l.replies a) h
        where
          by_reply : (r : Option (ℕ × List ℕ)) → and_then (step_with_reply l.store a left r) (local_run (next_of_rest program t number) work) ≡ Some (acts, end) → has_trap acts ≡ false
          by_reply None h = cc
          by_reply (Some r) h =
              let rest : (rest : List Action) × (local_run (next_of_rest program t number) work (record { code = left r.0; store = store_after l.store a; replies = r.1 }) ≡ Some (rest, end)) × (acts ≡ action_of a ++ rest) = trace_then-some (action_of a) acts end (local_run (next_of_rest program t number) work (record { code = left r.0; store = store_after l.store a; replies = r.1 })) h in
              ap has_trap rest.2 ∙ has_trap-append (action_of a) rest.0 ∙ ap₂ (λ b d. b || d) (no_trap_asked a) (so (record { code = left r.0; store = store_after l.store a; replies = r.1 }) rest.0 rest.1)

-- ---- traps

pub snoc_same : (xs ys : List Action) (a b : Action) → xs ++ (a ∷ []) ≡ ys ++ (b ∷ []) → (xs ≡ ys) × (a ≡ b)
snoc_same [] [] a b h = (refl, cc)
snoc_same [] (y ∷ []) a b h = cc
snoc_same [] (y ∷ (z ∷ ys)) a b h = cc
snoc_same (x ∷ []) [] a b h = cc
snoc_same (x ∷ (z ∷ xs)) [] a b h = cc
snoc_same (x ∷ xs) (y ∷ ys) a b h =
    let same : x ≡ y = cc in
    let rest : xs ++ (a ∷ []) ≡ ys ++ (b ∷ []) = cc in
    let both : (xs ≡ ys) × (a ≡ b) = snoc_same xs ys a b rest in
    (ap₂ (λ z zs. z ∷ zs) same both.0, both.1)

-- a thread stands at that trap, if one is named
abbrev pub IsAt : Option (TrapKind × ℕ) → Next (Option Code) (Unit {0}) → Type 0
IsAt None n = Unit {0}
IsAt (Some trap) n = n ≡ Traps trap.0 trap.1

no_trap_here : (acts : List Action) (kind : TrapKind) (line : ℕ) (done : List Action) → has_trap done ≡ false → acts ++ (action.Trap kind line ∷ []) ≡ done → ⊥
no_trap_here acts kind line done none h =
    let told : has_trap (acts ++ (action.Trap kind line ∷ [])) ≡ (has_trap acts || true) = has_trap-append acts (action.Trap kind line ∷ []) in
    let same : has_trap (acts ++ (action.Trap kind line ∷ [])) ≡ false = ap has_trap h ∙ none in
    grind (arith, told, same)

pub at_trap : (acts done : List Action) (stop : Option (TrapKind × ℕ)) (n : Next (Option Code) (Unit {0})) → has_trap acts ≡ false → has_trap done ≡ false → (acts ++ trap_action stop ≡ done) ⊎ (acts ++ trap_action stop ≡ done ++ trap_of n) → (done ≡ acts) × IsAt stop n
at_trap acts done None n clear none (inl h) = (sym h ∙ append-nil acts, tt)
at_trap acts done None (Is result) clear none (inr h) = (sym (append-nil done) ∙ sym h ∙ append-nil acts, tt)
at_trap acts done None (Asks a left) clear none (inr h) = (sym (append-nil done) ∙ sym h ∙ append-nil acts, tt)
at_trap acts done None (Traps kind line) clear none (inr h) = absurd (no_trap_here done kind line acts clear (sym h ∙ append-nil acts))
at_trap acts done (Some trap) n clear none (inl h) = absurd (no_trap_here acts trap.0 trap.1 done none h)
at_trap acts done (Some trap) (Is result) clear none (inr h) = absurd (no_trap_here acts trap.0 trap.1 done none (h ∙ append-nil done))
at_trap acts done (Some trap) (Asks a left) clear none (inr h) = absurd (no_trap_here acts trap.0 trap.1 done none (h ∙ append-nil done))
at_trap acts done (Some trap) (Traps kind line) clear none (inr h) =
    let both : (acts ≡ done) × (action.Trap trap.0 trap.1 ≡ action.Trap kind line) = snoc_same acts done (action.Trap trap.0 trap.1) (action.Trap kind line) h in
    let same : action.Trap trap.0 trap.1 ≡ action.Trap kind line = both.1 in
    let same_kind : trap.0 ≡ kind = cc in
    let same_line : trap.1 ≡ line = cc in
    (sym both.0, ap₂ (λ k l. Traps k l) (sym same_kind) (sym same_line))

-- ---- from a start

-- what a thread does by itself, as an actor
pub record ByItself (program : Program) (t : ℕ) (start : Start) (part : Log) (stop : Option (TrapKind × ℕ)) (work : ℕ) : Type 0 where
  pub from : Actor
  pub to : Actor
  pub begins : Begins program t start from
  pub does : Does (move program t) work from part to
  pub is_at : IsAt stop (next_of_actor program t to)

traced : (program : Program) (t number : ℕ) (l : Local (Option Code)) (part : Log) (stop : Option (TrapKind × ℕ)) (work : ℕ) → l.replies ≡ replies_of part → ArePlain part → HasTrace program t number l (actions_of part ++ trap_action stop) work →
    (end : Actor) × Does (move program t) work (actor_of number l) part end × IsAt stop (next_of_actor program t end)
traced program t number l part stop work replies plain h =
    let at : (h.0 ≡ actions_of part) × IsAt stop (next_of_rest program t number h.1.code) = at_trap (actions_of part) h.0 stop (next_of_rest program t number h.1.code) (no_trap_logged part plain) (no_trap_done program t number h.1 work l h.0 h.2) h.3 in
    (actor_of number h.1, run_is_done program t number h.1 work l h.0 part h.2 at.0 replies plain, at.1)

-- a block begins with the replies that it is given
block_replies : (n : Next (Option Code) (Unit {0})) (t : ℕ) (store : Store) (replies : List ℕ) (block : Local (Option Code)) → block_of n t store replies ≡ Some block → (block.replies ≡ replies) × (block_of n t store [] ≡ Some (record { code = block.code; store = block.store; replies = [] }))
block_replies (Is result) t store replies block h = cc
block_replies (Traps kind line) t store replies block h = cc
block_replies (Asks Quietly left) t store replies block h = cc
block_replies (Asks (Loading cell) left) t store replies block h = cc
block_replies (Asks (Storing cell v) left) t store replies block h = cc
block_replies (Asks (Adding cell v) left) t store replies block h = cc
block_replies (Asks (Printing text) left) t store replies block h = cc
block_replies (Asks Joining left) t store replies block h = cc
block_replies (Asks Ending left) t store replies block h = cc
block_replies (Asks (Spawning site low high code) left) t store replies block h =
    let same : ◌≡◌ {A = Local (Option Code)} (record { code = Some (code t); store = store; replies = replies }) block = cc in
    (sym (ap (λ l. l.replies) same), ap (λ l. Some (record { code = l.code; store = l.store; replies = [] })) same)

pub by_itself : (program : Program) (t : ℕ) (start : Start) (part : Log) (stop : Option (TrapKind × ℕ)) (work : ℕ) → ArePlain part → traces_in program t start (replies_of part) (actions_of part ++ trap_action stop) work → ByItself program t start part stop work
by_itself program t Main part stop work plain h =
    let r : (end : Actor) × Does (move program t) work (actor_of 0 (main_in program t (replies_of part))) part end × IsAt stop (next_of_actor program t end) = traced program t 0 (main_in program t (replies_of part)) part stop work refl plain h in
    record { from = actor_of 0 (main_in program t []); to = r.0; begins = refl; does = r.1; is_at = r.2 }
by_itself program t (Block before serial_replies number) part stop work plain (steps, done, serial, block, run, is_before, spawned, is_block, trace) =
    let told : (block.replies ≡ replies_of part) × (block_of (serial_next program serial) t serial.store [] ≡ Some (record { code = block.code; store = block.store; replies = [] })) = block_replies (serial_next program serial) t serial.store (replies_of part) block is_block in
    let r : (end : Actor) × Does (move program t) work (actor_of number block) part end × IsAt stop (next_of_actor program t end) = traced program t number block part stop work told.0 plain trace in
    record { from = actor_of number block; to = r.0; begins = (steps, done, serial, record { code = block.code; store = block.store; replies = [] }, run, is_before, spawned, told.1, refl); does = r.1; is_at = r.2 }
