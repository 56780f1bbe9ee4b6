-- An actor by itself: its last step, and how much sooner it does less.
use Rattle.std.proofs.Common.{◌≡◌, refl, sym, ap, subst, ℕ, suc, zero, ◌<◌, List, [], ◌∷◌, ◌++◌, arith, ◌⊎◌, inl, inr}
use Rattle.interleaving.specs.Actors.{Move, Rests, Alone, Acts, Entry, Does, DoesThen, IsPrompt}

module _ {State Action : Type 0} (next : State → Move State Action) where
  -- one step before an action that is the last of a part
  pub record Before (steps : ℕ) (s : State) (part : List (Entry Action)) : Type 0 where
    pub front : List (Entry Action)
    pub last : Entry Action
    pub at : State
    pub is_part : part ≡ front ++ (last ∷ [])
    pub does : Does next steps s front at

  abbrev Less : (steps : ℕ) → State → List (Entry Action) → Type 0
  Less steps s part = ((x : State) × Does next steps s part x) ⊎ Before steps s part

  -- one step less does the same, or the last step is the last action
  pub last_step : (n : ℕ) (s : State) (part : List (Entry Action)) (end : State) → Does next (suc n) s part end → Less n s part
  last_step zero s part end does = by_move (next s) part does
    where
      by_move : (m : Move State Action) (part : List (Entry Action)) → DoesThen (Does next 0) m part end → Less 0 s part
      by_move Rests part h = absurd h
      by_move (Alone x) part h = inl (s, (h.0, refl))
      by_move (Acts action left) [] h = absurd h
      by_move (Acts action left) (e ∷ part) h = inr (record { front = []; last = e; at = s; is_part = ap (λ p. e ∷ p) h.1.0; does = (refl, refl) })
  last_step (suc n) s part end does = by_move (λ x part h. last_step n x part end h) (next s) refl part does
    where
      by_move : ((x : State) (part : List (Entry Action)) → Does next (suc n) x part end → Less n x part) → (m : Move State Action) → next s ≡ m → (part : List (Entry Action)) → DoesThen (Does next (suc n)) m part end → Less (suc n) s part
      by_move go Rests is part h = absurd h
      by_move go (Alone x) is part h = elim (go x part h) [
        | inl r ↦ inl (r.0, subst (λ m. DoesThen (Does next n) m part r.0) (sym is) r.1)
        | inr b ↦ inr (record { front = b.front; last = b.last; at = b.at; is_part = b.is_part; does = subst (λ m. DoesThen (Does next n) m b.front b.at) (sym is) b.does })
      ]
      by_move go (Acts action left) is [] h = absurd h
      by_move go (Acts action left) is (e ∷ part) h = elim (go (left e.reply) part h.1) [
        | inl r ↦ inl (r.0, subst (λ m. DoesThen (Does next n) m (e ∷ part) r.0) (sym is) (h.0, r.1))
        | inr b ↦ inr (record { front = e ∷ b.front; last = b.last; at = b.at; is_part = ap (λ p. e ∷ p) b.is_part; does = subst (λ m. DoesThen (Does next n) m (e ∷ b.front) b.at) (sym is) (h.0, b.does) })
      ]

  -- where no step less does the same
  pub prompt_step : (n : ℕ) (s : State) (part : List (Entry Action)) (end : State) → Does next n s part end → IsPrompt next n s part → (n ≡ 0) ⊎ ((m : ℕ) × (n ≡ suc m) × Before m s part)
  prompt_step zero s part end does prompt = inl refl
  prompt_step (suc n) s part end does prompt = elim (last_step n s part end does) [
    | inl r ↦ absurd (prompt n refl r.0 r.1)
    | inr b ↦ inr (n, refl, b)
  ]

  never_none : (front : List (Entry Action)) (e : Entry Action) → front ++ (e ∷ []) ≡ [] → ⊥
  never_none [] e h = cc
  never_none (f ∷ front) e h = cc

  -- a part with an action more takes more steps
  pub sooner : (a b : ℕ) (s x y : State) (front : List (Entry Action)) (e : Entry Action) → Does next a s front x → Does next b s (front ++ (e ∷ [])) y → a < b
  sooner a zero s x y front e first second = absurd (never_none front e second.0)
  sooner zero (suc b) s x y front e first second = omega arith
  sooner (suc a) (suc b) s x y front e first second = by_move (λ s front f g. sooner a b s x y front e f g) (next s) front first second
    where
      by_move : ((s : State) (front : List (Entry Action)) → Does next a s front x → Does next b s (front ++ (e ∷ [])) y → a < b) → (m : Move State Action) (front : List (Entry Action)) → DoesThen (Does next a) m front x → DoesThen (Does next b) m (front ++ (e ∷ [])) y → suc a < suc b
      by_move go Rests front f g = absurd f
      by_move go (Alone s) front f g = (let less : a < b = go s front f g in omega (arith, less))
      by_move go (Acts action left) [] f g = absurd f
      by_move go (Acts action left) (d ∷ front) f g = (let less : a < b = go (left d.reply) front f.1 g.1 in omega (arith, less))
