-- An actor whose steps have costs, as a thread of quads, keeps to a thread of the source: whatever it does, the source does, in so many steps that the work is paid for.
use Rattle.std.proofs.Common.{◌≡◌, refl, sym, ◌∙◌, ap, subst, arith, ℕ, suc, zero, ◌+◌, ◌*◌, ◌≤◌, List, [], ◌∷◌, ◌++◌, Option, Some, None, true, false}
use Rattle.xmt_base.specs.Action.{Action}
use Rattle.source_meaning.specs.Store.{Store}
use Rattle.source_meaning.specs.Next.{Ask, Next, Asks}
use Rattle.source_meaning.specs.Run.{store_after}
use Rattle.source_meaning.specs.Trace.{Local, action_of, reply_to, step_of, step_with_reply, and_then, trace_then, local_step, local_run}
use Rattle.interleaving.specs.Actors.{Move, Rests, Alone, Acts, Entry, DoesThen}
use Rattle.interleaving.specs.Parts.{actions_of, takes_reply, replies_of}
use Rattle.xmt_quads.specs.Traces.{DoesWith}

-- what is there, or this
value_or : {X : Type 0} → X → Option X → X
value_or x None = x
value_or x (Some y) = y

same_value : {X : Type 0} (a b : X) → Some a ≡ Some b → a ≡ b
unfolding value_or
same_value a b h = ap (value_or a) h

-- a thread of the source by itself, with the replies of this part of a log and others behind them
abbrev pub told : {U : Type 0} → U → Store → List (Entry Action) → (others : List ℕ) → Local U
told code store part others = record { code = code; store = store; replies = replies_of part ++ others }

abbrev pub Log : Type 0
Log = List (Entry Action)

-- The target: what it does next, what that costs, when it is over, and how it must stand to the source's store and next step. The source: what code does next.
module _ {T : Type 0} (move : T → Move T Action) (cost : T → ℕ) (IsOver : T → Type 0) {U S : Type 0} (Stands : T → Store → Next U S → Type 0) (next : U → Next U S) where
  -- What the target did with so much work, the source does from here. The work is at most 64 a step beyond the credit; at the end of the thread, 40 of the credit are left over.
  pub record Matched (work : ℕ) (part : Log) (there : T) (l : Local U) (credit : ℕ) : Type 0 where
    pub steps : ℕ
    pub end : Local U
    pub runs : local_run next steps l ≡ Some (actions_of part, end)
    pub pays : work ≤ 64 * steps + credit
    pub ended : IsOver there → work + 40 ≤ 64 * steps + credit
    pub stands : Stands there end.store (next end.code)

  -- so it is for each run of the target of at most so many steps
  pub record Keeps (n credit : ℕ) (a : T) (code : U) (store : Store) : Type 0 where
    pub by : (m : ℕ) → m ≤ n → (part : Log) (there : T) (others : List ℕ) (work : ℕ) → DoesWith move cost m a part there work → Matched work part there (told code store part others) credit

  -- what the target does behind its next step
  abbrev pub Behind : (m : ℕ) → Move T Action → Log → T → (rest : ℕ) → Type 0
  Behind m moved part there rest = DoesThen (λ s part end. DoesWith move cost m s part end rest) moved part there

  -- ---- no step of the target

  -- a run of no step
  no_step : (credit : ℕ) (a : T) (code : U) (store : Store) (part : Log) (there : T) (others : List ℕ) (work : ℕ) → (part ≡ []) × (there ≡ a) × (work ≡ 0) →
      (IsOver a → 40 ≤ credit) → Stands a store (next code) → Matched work part there (told code store part others) credit
  no_step credit a code store part there others work here ended stands =
      subst (λ part. Matched work part there (told code store part others) credit) (sym here.0)
      (subst (λ there. Matched work [] there (told code store [] others) credit) (sym here.1)
      (subst (λ work. Matched work [] a (told code store [] others) credit) (sym here.2)
      (record { steps = 0; end = told code store [] others; runs = refl; pays = omega arith; ended = λ over. omega (arith, ended over); stands = stands })))

  -- the target has no step here
  pub keeps_still : (n credit : ℕ) (a : T) (code : U) (store : Store) → move a ≡ Rests → (IsOver a → 40 ≤ credit) → Stands a store (next code) → Keeps n credit a code store
  keeps_still n credit a code store still ended stands = record { by = still_by }
    where
      still_by : (m : ℕ) → m ≤ n → (part : Log) (there : T) (others : List ℕ) (work : ℕ) → DoesWith move cost m a part there work → Matched work part there (told code store part others) credit
      still_by zero le part there others work h = no_step credit a code store part there others work h ended stands
      still_by (suc m) le part there others work h = absurd (subst (λ x. Behind m x part there h.0) still h.2)

  -- nothing is to be shown of runs without a step
  pub keeps_zero : (credit : ℕ) (a : T) (code : U) (store : Store) → (IsOver a → ⊥) → Stands a store (next code) → Keeps 0 credit a code store
  keeps_zero credit a code store lives stands = record { by = zero_by }
    where
      no_more : (m : ℕ) → suc m ≤ 0 → ⊥
      no_more m le = omega (arith, le)

      zero_by : (m : ℕ) → m ≤ 0 → (part : Log) (there : T) (others : List ℕ) (work : ℕ) → DoesWith move cost m a part there work → Matched work part there (told code store part others) credit
      zero_by zero le part there others work h = no_step credit a code store part there others work h (λ over. absurd (lives over)) stands
      zero_by (suc m) le part there others work h = absurd (no_more m le)

  -- ---- one step of the target, of the source, or of both

  -- behind a step of the source, with these actions
  behind_source : (work more credit left : ℕ) (acts : List Action) (part rest : Log) (there : T) (l l' : Local U) → local_step next l ≡ Some (acts, l') → acts ++ actions_of rest ≡ actions_of part → left + more ≤ credit + 64 →
      Matched work rest there l' left → Matched (more + work) part there l credit
  behind_source work more credit left acts part rest there l l' goes joins pays m =
      record {
        steps = suc m.steps;
        end = m.end;
        runs = ap (λ s. and_then s (local_run next m.steps)) goes ∙ ap (trace_then acts) m.runs ∙ ap (λ trace. Some (trace, m.end)) joins;
        pays = omega (arith, m.pays, pays);
        ended = λ over. omega (arith, m.ended over, pays);
        stands = m.stands;
      }

  -- no step of the target, or one behind which the rest keeps to the source
  keeps_step : (n credit : ℕ) (a : T) (code : U) (store : Store) → (IsOver a → ⊥) → Stands a store (next code) →
      ((m : ℕ) → m ≤ n → (part : Log) (there : T) (others : List ℕ) (rest : ℕ) → Behind m (move a) part there rest → Matched (cost a + rest) part there (told code store part others) credit) →
      Keeps (suc n) credit a code store
  keeps_step n credit a code store lives stands go = record { by = step_by }
    where
      step_by : (m : ℕ) → m ≤ suc n → (part : Log) (there : T) (others : List ℕ) (work : ℕ) → DoesWith move cost m a part there work → Matched work part there (told code store part others) credit
      step_by zero le part there others work h = no_step credit a code store part there others work h (λ over. absurd (lives over)) stands
      step_by (suc m) le part there others work h =
          subst (λ work. Matched work part there (told code store part others) credit) (sym h.1) (go m (omega (arith, le)) part there others h.0 h.2)

  -- a step of the target that nobody sees, which the credit pays
  pub keeps_alone : (n credit left : ℕ) (a a' : T) (code : U) (store : Store) → (IsOver a → ⊥) → Stands a store (next code) → move a ≡ Alone a' → left + cost a ≤ credit → Keeps n left a' code store → Keeps (suc n) credit a code store
  keeps_alone n credit left a a' code store lives stands moves pays k =
      keeps_step n credit a code store lives stands
      (λ m le part there others rest h.
      let found = k.by m le part there others rest (subst (λ x. Behind m x part there rest) moves h) in
      record { steps = found.steps; end = found.end; runs = found.runs; pays = omega (arith, found.pays, pays); ended = λ over. omega (arith, found.ended over, pays); stands = found.stands })

  -- a step of both that nobody sees
  pub keeps_beside : (n credit left : ℕ) (a a' : T) (code code' : U) (store store' : Store) → (IsOver a → ⊥) → Stands a store (next code) → move a ≡ Alone a' →
      ((replies : List ℕ) → step_of store replies (next code) ≡ Some ([], record { code = code'; store = store'; replies = replies })) → left + cost a ≤ credit + 64 → Keeps n left a' code' store' → Keeps (suc n) credit a code store
  keeps_beside n credit left a a' code code' store store' lives stands moves steps pays k =
      keeps_step n credit a code store lives stands
      (λ m le part there others rest h.
      behind_source rest (cost a) credit left [] part part there (told code store part others) (told code' store' part others)
      (steps (replies_of part ++ others)) refl pays (k.by m le part there others rest (subst (λ x. Behind m x part there rest) moves h)))

  -- the source's step alone
  pub keeps_source : (n credit left : ℕ) (a : T) (code code' : U) (store store' : Store) →
      ((replies : List ℕ) → step_of store replies (next code) ≡ Some ([], record { code = code'; store = store'; replies = replies })) → left ≤ credit + 64 → Keeps n left a code' store' → Keeps n credit a code store
  keeps_source n credit left a code code' store store' steps pays k =
      record {
        by = λ m le part there others work h.
            let none : 0 + work ≡ work = omega arith in
            subst (λ work. Matched work part there (told code store part others) credit) none
            (behind_source work 0 credit left [] part part there (told code store part others) (told code' store' part others)
            (steps (replies_of part ++ others)) refl (omega (arith, pays)) (k.by m le part there others work h));
      }

  -- an action of both: whatever its entry in the log, the source takes a reply with which the rest keeps
  keeps_act : (n credit left : ℕ) (a : T) (code : U) (store : Store) → (IsOver a → ⊥) → Stands a store (next code) →
      (action : Action) (goes : ℕ → T) → move a ≡ Acts action goes → (ask : Ask) (leads : ℕ → U) → next code ≡ Asks ask leads → action_of ask ≡ action ∷ [] → left + cost a ≤ credit + 64 →
      ((e : Entry Action) (rest : Log) (others : List ℕ) → e.action ≡ action →
      (reply : ℕ) × (reply_to store (replies_of (e ∷ rest) ++ others) ask ≡ Some (reply, replies_of rest ++ others)) × Keeps n left (goes e.reply) (leads reply) (store_after store ask)) →
      Keeps (suc n) credit a code store
  keeps_act n credit left a code store lives stands action goes moves ask leads asks seen pays answers =
      keeps_step n credit a code store lives stands (λ m le part there others rest h. by_part m le part there others rest (subst (λ x. Behind m x part there rest) moves h))
    where
      by_entry : (m : ℕ) → m ≤ n → (e : Entry Action) (part : Log) (there : T) (others : List ℕ) (rest : ℕ) → e.action ≡ action → DoesWith move cost m (goes e.reply) part there rest →
          ((reply : ℕ) × (reply_to store (replies_of (e ∷ part) ++ others) ask ≡ Some (reply, replies_of part ++ others)) × Keeps n left (goes e.reply) (leads reply) (store_after store ask)) →
          Matched (cost a + rest) (e ∷ part) there (told code store (e ∷ part) others) credit
      by_entry m le e part there others rest same h answer =
          behind_source rest (cost a) credit left (action ∷ []) (e ∷ part) part there (told code store (e ∷ part) others) (told (leads answer.0) (store_after store ask) part others)
          (ap (step_of store (replies_of (e ∷ part) ++ others)) asks ∙ ap (step_with_reply store ask leads) answer.1 ∙
          ap (λ acts. Some (acts, told (leads answer.0) (store_after store ask) part others)) seen)
          (ap (λ x. x ∷ actions_of part) (sym same)) pays (answer.2.by m le part there others rest h)

      by_part : (m : ℕ) → m ≤ n → (part : Log) (there : T) (others : List ℕ) (rest : ℕ) → Behind m (Acts action goes) part there rest → Matched (cost a + rest) part there (told code store part others) credit
      by_part m le [] there others rest h = absurd h
      by_part m le (e ∷ part) there others rest h = by_entry m le e part there others rest h.0 h.1 (answers e part others h.0)

  -- an action of both that takes no reply
  pub keeps_tells : (n credit left : ℕ) (a : T) (code : U) (store : Store) → (IsOver a → ⊥) → Stands a store (next code) →
      (action : Action) (goes : ℕ → T) → move a ≡ Acts action goes → (ask : Ask) (leads : ℕ → U) → next code ≡ Asks ask leads → action_of ask ≡ action ∷ [] → takes_reply action ≡ false → ((replies : List ℕ) → reply_to store replies ask ≡ Some (0, replies)) →
      left + cost a ≤ credit + 64 → ((reply : ℕ) → Keeps n left (goes reply) (leads 0) (store_after store ask)) → Keeps (suc n) credit a code store
  keeps_tells n credit left a code store lives stands action goes moves ask leads asks seen takes_none replied pays k =
      keeps_act n credit left a code store lives stands action goes moves ask leads asks seen pays
      (λ e rest others same. (0, replied (replies_of (e ∷ rest) ++ others) ∙ ap (λ replies. Some (0, replies ++ others)) (rest_of e rest (ap takes_reply same ∙ takes_none)), k e.reply))
    where
      rest_of : (e : Entry Action) (rest : Log) → takes_reply e.action ≡ false → replies_of (e ∷ rest) ≡ replies_of rest
      rest_of e rest none = rw none refl

  -- a load or an add of both
  pub keeps_told : (n credit left : ℕ) (a : T) (code : U) (store : Store) → (IsOver a → ⊥) → Stands a store (next code) →
      (action : Action) (goes : ℕ → T) → move a ≡ Acts action goes → (ask : Ask) (leads : ℕ → U) → next code ≡ Asks ask leads → action_of ask ≡ action ∷ [] → takes_reply action ≡ true → ((reply : ℕ) (replies : List ℕ) → reply_to store (reply ∷ replies) ask ≡ Some (reply, replies)) →
      left + cost a ≤ credit + 64 → ((reply : ℕ) → Keeps n left (goes reply) (leads reply) (store_after store ask)) → Keeps (suc n) credit a code store
  keeps_told n credit left a code store lives stands action goes moves ask leads asks seen takes replied pays k =
      keeps_act n credit left a code store lives stands action goes moves ask leads asks seen pays
      (λ e rest others same. (e.reply, ap (λ replies. reply_to store (replies ++ others) ask) (one_more e rest (ap takes_reply same ∙ takes)) ∙ replied e.reply (replies_of rest ++ others), k e.reply))
    where
      one_more : (e : Entry Action) (rest : Log) → takes_reply e.action ≡ true → replies_of (e ∷ rest) ≡ e.reply ∷ replies_of rest
      one_more e rest more = rw more refl

  -- ---- weaker claims, and other states

  -- fewer steps, and more credit
  pub keeps_less : (n m credit more : ℕ) (a : T) (code : U) (store : Store) → m ≤ n → credit ≤ more → Keeps n credit a code store → Keeps m more a code store
  keeps_less n m credit more a code store le rich k =
      record {
        by = λ i fits part there others work h.
            let found = k.by i (omega (arith, fits, le)) part there others work h in
            record { steps = found.steps; end = found.end; runs = found.runs; pays = omega (arith, found.pays, rich); ended = λ over. omega (arith, found.ended over, rich); stands = found.stands };
      }

  -- what a thread of the source does goes by its next step alone
  matched_same : (work credit : ℕ) (part : Log) (there : T) (x y : U) (store : Store) (replies : List ℕ) → next x ≡ next y → Matched work part there (record { code = y; store = store; replies = replies }) credit → Matched work part there (record { code = x; store = store; replies = replies }) credit
  matched_same work credit part there x y store replies same m = by_steps m.steps m.end m.runs m.pays m.ended m.stands
    where
      by_steps : (steps : ℕ) (end : Local U) → local_run next steps (record { code = y; store = store; replies = replies }) ≡ Some (actions_of part, end) → work ≤ 64 * steps + credit → (IsOver there → work + 40 ≤ 64 * steps + credit) → Stands there end.store (next end.code) → Matched work part there (record { code = x; store = store; replies = replies }) credit
      by_steps zero end runs pays ended stands =
          let pairs = same_value ([], record { code = y; store = store; replies = replies }) (actions_of part, end) runs in
          let none : [] ≡ actions_of part = ap (λ pair. pair.0) pairs in
          let there_is : record { code = y; store = store; replies = replies } ≡ end = ap (λ pair. pair.1) pairs in
          record {
            steps = 0;
            end = record { code = x; store = store; replies = replies };
            runs = ap (λ acts. Some (acts, record { code = x; store = store; replies = replies })) none;
            pays = pays;
            ended = ended;
            stands = subst (Stands there store) (sym same) (subst (λ l. Stands there l.store (next l.code)) (sym there_is) stands);
          }
      by_steps (suc steps) end runs pays ended stands =
          record {
            steps = suc steps;
            end = end;
            runs = ap (λ n. and_then (step_of store replies n) (local_run next steps)) same ∙ runs;
            pays = pays;
            ended = ended;
            stands = stands;
          }

  pub keeps_same : (n credit : ℕ) (a : T) (x y : U) (store : Store) → next x ≡ next y → Keeps n credit a y store → Keeps n credit a x store
  keeps_same n credit a x y store same k = record { by = λ m le part there others work h. matched_same work credit part there x y store (replies_of part ++ others) same (k.by m le part there others work h) }
