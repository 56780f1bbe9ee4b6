-- A log that grows at its end, and actors that take one more step.
use Rattle.std.proofs.Common.{◌≡◌, refl, sym, ◌∙◌, ap, subst, ℕ, suc, zero, ◌==◌, Bool, true, false, if◌then◌else◌, List, [], ◌∷◌, ◌++◌, arith, ◌⊎◌, inl, inr}
use Rattle.interleaving.proofs.Interleave.{eq_of}
use Rattle.interleaving.specs.Actors.{Move, Rests, Alone, Acts, Entry, part_of, DoesThen, Does, IsPrompt, with_state, world_after, IsLawfulBy}

pub eq_refl : (t : ℕ) → (t == t) ≡ true
eq_refl t = grind arith

pub eq_comm : (t u : ℕ) (b : Bool) → (t == u) ≡ b → (u == t) ≡ b
eq_comm t u true h = let e : t ≡ u = eq_of t u h in rw e (eq_refl u)
eq_comm t u false h = grind (arith, h)

pub differ_of : (t u : ℕ) → (t ≡ u → ⊥) → (t == u) ≡ false
differ_of t u n = grind (arith, n)

pub differs : (t u : ℕ) → (t == u) ≡ false → t ≡ u → ⊥
differs t u h e = grind (arith, h, e)

module _ {X : Type 0} where
  pub with-other : (f : ℕ → X) (t u : ℕ) (x : X) → (t ≡ u → ⊥) → with_state f t x u ≡ f u
  with-other f t u x n = rw (differ_of t u n) refl

  -- what holds of the new value at its place, and of the old ones elsewhere, holds at every place
  pub with-at : (P : ℕ → X → Type 0) (f : ℕ → X) (t u : ℕ) (x : X) → (t ≡ u → P u x) → ((t ≡ u → ⊥) → P u (f u)) → P u (with_state f t x u)
  with-at P f t u x here there = by_test (t == u) refl
    where
      by_test : (b : Bool) → (t == u) ≡ b → P u (if b then x else f u)
      by_test true e = here (eq_of t u e)
      by_test false e = there (differs t u e)

module _ {State Action : Type 0} (next : State → Move State Action) where
  -- one more step that nobody else sees
  pub does_alone : (n : ℕ) (s : State) (part : List (Entry Action)) (mid end : State) → Does next n s part mid → next mid ≡ Alone end → Does next (suc n) s part end
  does_alone zero s part mid end does goes =
      let here : next s ≡ Alone end = ap next (sym does.1) ∙ goes in
      subst (λ m. DoesThen (Does next zero) m part end) (sym here) (does.0, refl)
  does_alone (suc n) s part mid end does goes = by_move (λ s1 p h. does_alone n s1 p mid end h goes) (next s) part does
    where
      by_move : ((s1 : State) (p : List (Entry Action)) → Does next n s1 p mid → Does next (suc n) s1 p end) → (m : Move State Action) (part : List (Entry Action)) → DoesThen (Does next n) m part mid → DoesThen (Does next (suc n)) m part end
      by_move go_on Rests part h = absurd h
      by_move go_on (Alone s1) part h = go_on s1 part h
      by_move go_on (Acts a left) [] h = absurd h
      by_move go_on (Acts a left) (e ∷ part) h = (h.0, go_on (left e.reply) part h.1)

  -- one more action
  pub does_act : (n : ℕ) (s : State) (part : List (Entry Action)) (mid : State) (e : Entry Action) (left : ℕ → State) → Does next n s part mid → next mid ≡ Acts e.action left → Does next (suc n) s (part ++ (e ∷ [])) (left e.reply)
  does_act zero s part mid e left does goes =
      let here : next s ≡ Acts e.action left = ap next (sym does.1) ∙ goes in
      subst (λ p. DoesThen (Does next zero) (next s) (p ++ (e ∷ [])) (left e.reply)) (sym does.0)
      (subst (λ m. DoesThen (Does next zero) m (e ∷ []) (left e.reply)) (sym here) (refl, (refl, refl)))
  does_act (suc n) s part mid e left does goes = by_move (λ s1 p h. does_act n s1 p mid e left h goes) (next s) part does
    where
      by_move : ((s1 : State) (p : List (Entry Action)) → Does next n s1 p mid → Does next (suc n) s1 (p ++ (e ∷ [])) (left e.reply)) → (m : Move State Action) (part : List (Entry Action)) → DoesThen (Does next n) m part mid → DoesThen (Does next (suc n)) m (part ++ (e ∷ [])) (left e.reply)
      by_move go_on Rests part h = absurd h
      by_move go_on (Alone s1) part h = go_on s1 part h
      by_move go_on (Acts a f) [] h = absurd h
      by_move go_on (Acts a f) (d ∷ part) h = (h.0, go_on (f d.reply) part h.1)

  -- in as many steps it does not do one action more
  pub not_more : (n : ℕ) (s : State) (part : List (Entry Action)) (mid end : State) (e : Entry Action) → Does next n s part mid → Does next n s (part ++ (e ∷ [])) end → ⊥
  not_more zero s part mid end e first second = let all : [] ++ (e ∷ []) ≡ [] = ap (λ p. p ++ (e ∷ [])) (sym first.0) ∙ second.0 in cc
  not_more (suc n) s part mid end e first second = by_move (λ s1 p h g. not_more n s1 p mid end e h g) (next s) part first second
    where
      by_move : ((s1 : State) (p : List (Entry Action)) → Does next n s1 p mid → Does next n s1 (p ++ (e ∷ [])) end → ⊥) → (m : Move State Action) (part : List (Entry Action)) → DoesThen (Does next n) m part mid → DoesThen (Does next n) m (part ++ (e ∷ [])) end → ⊥
      by_move go Rests part h g = absurd h
      by_move go (Alone s1) part h g = go s1 part h g
      by_move go (Acts a f) [] h g = absurd h
      by_move go (Acts a f) (d ∷ part) h g = go (f d.reply) part h.1 g.1

  pub prompt_act : (n : ℕ) (s : State) (part : List (Entry Action)) (mid : State) (e : Entry Action) → Does next n s part mid → IsPrompt next (suc n) s (part ++ (e ∷ []))
  prompt_act n s part mid e does less is_more end h = let same : less ≡ n = omega (arith, is_more) in not_more n s part mid end e does (subst (λ k. Does next k s (part ++ (e ∷ [])) end) same h)

module _ {Action : Type 0} where
  pub part_of-own : (e : Entry Action) (log : List (Entry Action)) (t : ℕ) → t ≡ e.actor → part_of t (log ++ (e ∷ [])) ≡ part_of t log ++ (e ∷ [])
  part_of-own e [] t here = rw (here, eq_refl e.actor) refl
  part_of-own e (d ∷ log) t here = by_test (t == d.actor) (part_of-own e log t here)
    where
      by_test : (b : Bool) → part_of t (log ++ (e ∷ [])) ≡ part_of t log ++ (e ∷ []) → (if b then d ∷ part_of t (log ++ (e ∷ [])) else part_of t (log ++ (e ∷ []))) ≡ (if b then d ∷ part_of t log else part_of t log) ++ (e ∷ [])
      by_test true h = ap (λ p. d ∷ p) h
      by_test false h = h

  pub part_of-other : (e : Entry Action) (log : List (Entry Action)) (t : ℕ) → (t ≡ e.actor → ⊥) → part_of t (log ++ (e ∷ [])) ≡ part_of t log
  part_of-other e [] t other = rw (differ_of t e.actor other) refl
  part_of-other e (d ∷ log) t other = by_test (t == d.actor) (part_of-other e log t other)
    where
      by_test : (b : Bool) → part_of t (log ++ (e ∷ [])) ≡ part_of t log → (if b then d ∷ part_of t (log ++ (e ∷ [])) else part_of t (log ++ (e ∷ []))) ≡ (if b then d ∷ part_of t log else part_of t log)
      by_test true h = ap (λ p. d ∷ p) h
      by_test false h = h

  -- an entry inside a log with one more is inside the log, or is the last
  pub inside_more : (log before after : List (Entry Action)) (e x : Entry Action) → log ++ (e ∷ []) ≡ before ++ (x ∷ after) → ((log ≡ before) × (e ≡ x)) ⊎ ((rest : List (Entry Action)) × (log ≡ before ++ (x ∷ rest)))
  inside_more [] [] after e x eq = inl (refl, cc)
  inside_more [] (b ∷ []) after e x eq = let never : [] ≡ x ∷ after = cc in cc
  inside_more [] (b ∷ (c ∷ before)) after e x eq = let never : [] ≡ c ∷ (before ++ (x ∷ after)) = cc in cc
  inside_more (d ∷ log) [] after e x eq = let here : d ≡ x = cc in inr (log, ap (λ y. y ∷ log) here)
  inside_more (d ∷ log) (b ∷ before) after e x eq =
      let here : d ≡ b = cc in
      let there : log ++ (e ∷ []) ≡ before ++ (x ∷ after) = cc in
      elim (inside_more log before after e x there) [
        | inl h ↦ let same : d ∷ log ≡ b ∷ before = cc in inl (same, h.1)
        | inr h ↦ let same : log ≡ before ++ (x ∷ h.0) = h.1 in let all : d ∷ log ≡ b ∷ (before ++ (x ∷ h.0)) = cc in inr (h.0, all)
      ]

module _ {World Action : Type 0} (after_entry : World → Entry Action → World) (Lawful : World → Entry Action → Type 0) where
  pub world_after-more : (w : World) (log : List (Entry Action)) (e : Entry Action) → world_after after_entry w (log ++ (e ∷ [])) ≡ after_entry (world_after after_entry w log) e
  world_after-more w [] e = refl
  world_after-more w (d ∷ log) e = world_after-more (after_entry w d) log e

  pub lawful_more : (w : World) (log : List (Entry Action)) (e : Entry Action) → IsLawfulBy after_entry Lawful w log → Lawful (world_after after_entry w log) e → IsLawfulBy after_entry Lawful w (log ++ (e ∷ []))
  lawful_more w [] e h here = (here, tt)
  lawful_more w (d ∷ log) e h here = (h.0, lawful_more (after_entry w d) log e h.1 here)
