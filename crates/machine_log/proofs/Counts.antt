-- Sums of steps.
use Rattle.std.proofs.Common.{◌≡◌, refl, sym, ◌∙◌, ap, subst, ℕ, suc, zero, ◌+◌, ◌<◌, ◌≤◌, ◌==◌, Bool, true, false, if◌then◌else◌, [], ◌∷◌, ◌++◌, arith}
use Rattle.xmt_base.specs.Action.{Action}
use Rattle.xmt_isa.specs.declared.unit.Start.{Start}
use Rattle.interleaving.specs.Actors.{Entry, with_state}
use Rattle.machine_log.specs.Log.{Log}
use Rattle.xmt_isa.specs.Threads.{Actor}
use Rattle.machine_log.specs.Done.{Parts, owned, is_spawn, spawns_of}
use Rattle.machine_log.proofs.Follows.{Tallies, Counted, goes, begins_on, spawns_from, took, drew}
use Rattle.interleaving.proofs.Interleave.{eq_of, with_state-same}
use Rattle.interleaving.proofs.Grows.{eq_refl, differs, differ_of, with-other, with-at}

pub spawns_more : (log : Log) (e : Entry Action) → spawns_of (log ++ (e ∷ [])) ≡ spawns_of log + (if is_spawn e.action then 1 else 0)
spawns_more [] e = omega arith
spawns_more (d ∷ log) e = let rest : spawns_of (log ++ (e ∷ [])) ≡ spawns_of log + (if is_spawn e.action then 1 else 0) = spawns_more log e in omega (arith, rest)

abbrev term : (owner steps : ℕ → ℕ) → (place actor : ℕ) → ℕ
term owner steps place actor = if owner actor == place then steps actor else 0

owned_same : (owner steps others more : ℕ → ℕ) (place n : ℕ) → ((a : ℕ) → 0 < a → a ≤ n → term others more place a ≡ term owner steps place a) → owned others more place n ≡ owned owner steps place n
owned_same owner steps others more place zero same = refl
owned_same owner steps others more place (suc n) same =
    let rest : owned others more place n ≡ owned owner steps place n = owned_same owner steps others more place n (λ a later less. same a later (omega (arith, less))) in
    let last : term others more place (suc n) ≡ term owner steps place (suc n) = same (suc n) (omega arith) (omega arith) in
    omega (arith, rest, last)

owned_step : (owner steps : ℕ → ℕ) (place n a : ℕ) → 0 < a → a ≤ n → owner a ≡ place → owned owner (with_state steps a (1 + steps a)) place n ≡ 1 + owned owner steps place n
owned_step owner steps place zero a later inside own = absurd (omega (arith, later, inside))
owned_step owner steps place (suc n) a later inside own = by_test (a == suc n) refl (λ less. owned_step owner steps place n a later less own)
  where
    by_test : (b : Bool) → (a == suc n) ≡ b → (a ≤ n → owned owner (with_state steps a (1 + steps a)) place n ≡ 1 + owned owner steps place n) →
        owned owner (with_state steps a (1 + steps a)) place n + term owner (with_state steps a (1 + steps a)) place (suc n) ≡ 1 + (owned owner steps place n + term owner steps place (suc n))
    by_test true e go =
        let here : a ≡ suc n = eq_of a (suc n) e in
        let rest : owned owner (with_state steps a (1 + steps a)) place n ≡ owned owner steps place n =
        owned_same owner steps owner (with_state steps a (1 + steps a)) place n (λ b later less. let other : with_state steps a (1 + steps a) b ≡ steps b = with-other steps a b (1 + steps a) (λ same. omega (arith, same, here, less)) in rw other refl) in
        let mine : owner (suc n) ≡ place = ap owner (sym here) ∙ own in
        let test : (owner (suc n) == place) ≡ true = ap (λ x. x == place) mine ∙ eq_refl place in
        let new : with_state steps a (1 + steps a) (suc n) ≡ 1 + steps (suc n) = ap (with_state steps a (1 + steps a)) (sym here) ∙ with_state-same steps a (1 + steps a) ∙ ap (λ x. 1 + steps x) here in
        let first : term owner (with_state steps a (1 + steps a)) place (suc n) ≡ 1 + steps (suc n) = rw (test, new) refl in
        let second : term owner steps place (suc n) ≡ steps (suc n) = rw test refl in
        omega (arith, rest, first, second)
    by_test false e go =
        let rest : owned owner (with_state steps a (1 + steps a)) place n ≡ 1 + owned owner steps place n = go (grind (arith, e, inside)) in
        let other : with_state steps a (1 + steps a) (suc n) ≡ steps (suc n) = with-other steps a (suc n) (1 + steps a) (differs a (suc n) e) in
        let last : term owner (with_state steps a (1 + steps a)) place (suc n) ≡ term owner steps place (suc n) = rw other refl in
        omega (arith, rest, last)

owned_other : (owner steps : ℕ → ℕ) (place n a x : ℕ) → (owner a ≡ place → ⊥) → owned owner (with_state steps a x) place n ≡ owned owner steps place n
owned_other owner steps place n a x not_own = owned_same owner steps owner (with_state steps a x) place n (λ b later less. by_test b (a == b) refl)
  where
    by_test : (b : ℕ) (c : Bool) → (a == b) ≡ c → (if owner b == place then (if c then x else steps b) else 0) ≡ term owner steps place b
    by_test b true e = let test : (owner b == place) ≡ false = differ_of (owner b) place (λ h. not_own (ap owner (eq_of a b e) ∙ h)) in rw test refl
    by_test b false e = refl

owned_zero : (owner steps : ℕ → ℕ) (place n x : ℕ) → owned owner (with_state steps 0 x) place n ≡ owned owner steps place n
owned_zero owner steps place n x = owned_same owner steps owner (with_state steps 0 x) place n (λ b later less. let other : with_state steps 0 x b ≡ steps b = with-other steps 0 b x (λ e. omega (arith, e, later)) in rw other refl)

owned_begins : (owner steps : ℕ → ℕ) (place n a by : ℕ) → steps a ≡ 0 → owned (with_state owner a by) steps place n ≡ owned owner steps place n
owned_begins owner steps place n a by none = owned_same owner steps (with_state owner a by) steps place n (λ b later less. by_test b (a == b) refl)
  where
    zeros : (b : Bool) (x : ℕ) → x ≡ 0 → (if b then x else 0) ≡ 0
    zeros true x h = h
    zeros false x h = refl

    by_test : (b : ℕ) (c : Bool) → (a == b) ≡ c → (if (if c then by else owner b) == place then steps b else 0) ≡ term owner steps place b
    by_test b true e = let here : steps b ≡ 0 = ap steps (sym (eq_of a b e)) ∙ none in zeros (by == place) (steps b) here ∙ sym (zeros (owner b == place) (steps b) here)
    by_test b false e = refl

owned_more : (owner steps : ℕ → ℕ) (place n c : ℕ) → ((a : ℕ) → n ≤ a → steps a ≡ 0) → owned owner steps place (c + n) ≡ owned owner steps place n
owned_more owner steps place n zero none = ap (owned owner steps place) (let e : 0 + n ≡ n = omega arith in e)
owned_more owner steps place n (suc c) none =
    let more : suc c + n ≡ suc (c + n) = omega arith in
    let rest : owned owner steps place (c + n) ≡ owned owner steps place n = owned_more owner steps place n c none in
    let zero_here : steps (suc (c + n)) ≡ 0 = none (suc (c + n)) (omega arith) in
    ap (owned owner steps place) more ∙ last (owner (suc (c + n)) == place) (steps (suc (c + n))) zero_here rest
  where
    last : (b : Bool) (x : ℕ) → x ≡ 0 → owned owner steps place (c + n) ≡ owned owner steps place n → owned owner steps place (c + n) + (if b then x else 0) ≡ owned owner steps place n
    last true x h rest = omega (arith, h, rest)
    last false x h rest = omega (arith, rest)

-- ---- tallies

module _ (log : Log) (threads : ℕ) (p : Parts) (t : Tallies) (c : Counted log threads p t) where
  pub counted_entry : (e : Entry Action) → Counted (log ++ (e ∷ [])) threads p t
  counted_entry e = record { serial = c.serial; units = c.units; bound = λ place. let more : spawns_of (log ++ (e ∷ [])) ≡ spawns_of log + (if is_spawn e.action then 1 else 0) = spawns_more log e in let old : t.draws place ≤ spawns_of log = c.bound place in omega (arith, more, old) }

  pub counted_serial : (s : Actor) → Counted log threads (goes p 0 s) (took t 0)
  counted_serial s =
      record {
        serial = with_state-same t.turns 0 (1 + t.turns 0) ∙ ap (λ n. 1 + n) c.serial ∙ sym (with_state-same p.steps 0 (1 + p.steps 0));
        units = λ place. with-other t.turns 0 (suc place) (1 + t.turns 0) (λ e. omega (arith, e)) ∙ c.units place ∙ ap (λ n. t.draws place + n) (sym (owned_zero p.owner p.steps place threads (1 + p.steps 0)));
        bound = c.bound;
      }

  pub counted_unit : (actor place : ℕ) (s : Actor) → 0 < actor → actor < threads → p.owner actor ≡ place → Counted log threads (goes p actor s) (took t (suc place))
  counted_unit actor place s later inside own =
      record {
        serial = with-other t.turns (suc place) 0 (1 + t.turns (suc place)) (λ e. omega (arith, e)) ∙ c.serial ∙ sym (with-other p.steps actor 0 (1 + p.steps actor) (λ e. omega (arith, e, later)));
        units = λ other. by_test other (place == other) refl;
        bound = c.bound;
      }
    where
      by_test : (other : ℕ) (b : Bool) → (place == other) ≡ b → with_state t.turns (suc place) (1 + t.turns (suc place)) (suc other) ≡ t.draws other + owned p.owner (with_state p.steps actor (1 + p.steps actor)) other threads
      by_test other true e =
          let same : place ≡ other = eq_of place other e in
          let turns : with_state t.turns (suc place) (1 + t.turns (suc place)) (suc other) ≡ 1 + t.turns (suc other) = ap (λ n. with_state t.turns (suc place) (1 + t.turns (suc place)) (suc n)) (sym same) ∙ with_state-same t.turns (suc place) (1 + t.turns (suc place)) ∙ ap (λ n. 1 + t.turns (suc n)) same in
          let old : t.turns (suc other) ≡ t.draws other + owned p.owner p.steps other threads = c.units other in
          let sum : owned p.owner (with_state p.steps actor (1 + p.steps actor)) other threads ≡ 1 + owned p.owner p.steps other threads = owned_step p.owner p.steps other threads actor later (omega (arith, inside)) (own ∙ same) in
          turns ∙ omega (arith, old, sum)
      by_test other false e =
          with-other t.turns (suc place) (suc other) (1 + t.turns (suc place)) (λ h. differs place other e (omega (arith, h))) ∙ c.units other
          ∙ ap (λ n. t.draws other + n) (sym (owned_other p.owner p.steps other threads actor (1 + p.steps actor) (λ h. differs place other e (sym own ∙ h))))

  pub counted_begins : (actor place : ℕ) (s : Actor) → p.steps actor ≡ 0 → Counted log threads (begins_on p actor place s) t
  counted_begins actor place s none =
      record {
        serial = c.serial;
        units = λ other. c.units other ∙ ap (λ n. t.draws other + n) (sym (owned_begins p.owner p.steps other threads actor place none));
        bound = c.bound;
      }

  pub counted_drew : (place : ℕ) → 1 + t.draws place ≤ spawns_of log → Counted log threads p (drew t place)
  counted_drew place room =
      record {
        serial = with-other t.turns (suc place) 0 (1 + t.turns (suc place)) (λ e. omega (arith, e)) ∙ c.serial;
        units = λ other. by_test other (place == other) refl;
        bound = λ other. with-at (λ u n. n ≤ spawns_of log) t.draws place other (1 + t.draws place) (λ same. room) (λ differ. c.bound other);
      }
    where
      by_test : (other : ℕ) (b : Bool) → (place == other) ≡ b → with_state t.turns (suc place) (1 + t.turns (suc place)) (suc other) ≡ with_state t.draws place (1 + t.draws place) other + owned p.owner p.steps other threads
      by_test other true e =
          let same : place ≡ other = eq_of place other e in
          subst (λ o. with_state t.turns (suc place) (1 + t.turns (suc place)) (suc o) ≡ with_state t.draws place (1 + t.draws place) o + owned p.owner p.steps o threads) same
          (let turns : with_state t.turns (suc place) (1 + t.turns (suc place)) (suc place) ≡ 1 + t.turns (suc place) = with_state-same t.turns (suc place) (1 + t.turns (suc place)) in
          let draws : with_state t.draws place (1 + t.draws place) place ≡ 1 + t.draws place = with_state-same t.draws place (1 + t.draws place) in
          let old : t.turns (suc place) ≡ t.draws place + owned p.owner p.steps place threads = c.units place in
          turns ∙ omega (arith, draws, old))
      by_test other false e =
          let draws : with_state t.draws place (1 + t.draws place) other ≡ t.draws other = with-other t.draws place other (1 + t.draws place) (differs place other e) in
          with-other t.turns (suc place) (suc other) (1 + t.turns (suc place)) (λ h. differs place other e (omega (arith, h))) ∙ c.units other ∙ ap (λ n. n + owned p.owner p.steps other threads) (sym draws)

  pub counted_spawns : (count : ℕ) (start : Start) → ((a : ℕ) → threads ≤ a → p.steps a ≡ 0) → Counted log (threads + count) (spawns_from p threads start) t
  counted_spawns count start none =
      record {
        serial = c.serial;
        units = λ place. c.units place ∙ ap (λ n. t.draws place + n) (sym (let more : threads + count ≡ count + threads = omega arith in ap (owned p.owner p.steps place) more ∙ owned_more p.owner p.steps place threads count none));
        bound = c.bound;
      }
