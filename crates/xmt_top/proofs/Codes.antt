-- Which codes there are.
use Rattle.std.proofs.Common.{◌≡◌, ◌⊎◌, ℕ, zero, suc, ◌≤◌, inl, inr, List, [], ◌∷◌, Contains, subst, sym, refl, arith}
use Rattle.xmt_jobs.specs.declared.outcome.Outcome.{Outcome}
use Rattle.xmt_jobs.specs.declared.outcome.Outcome.TheVariants.{Done, SourceRefused, ImageRefused, MapRefused, Trap, Spent, Fault, NoMemory}
use Rattle.xmt_top.specs.Shows.{code_of}

-- a code among these, or 7, which is one of them
pub code_or : (codes : List ℕ) (code found : ℕ) → Contains codes code → Contains codes 7 → (found ≡ code) ⊎ (found ≡ 7) → Contains codes found
code_or codes code found here seven which =
    elim which [ inl is ↦ subst (λ (c : ℕ). Contains codes c) (sym is) here | inr is ↦ subst (λ (c : ℕ). Contains codes c) (sym is) seven ]

-- each outcome has one of the codes
pub all_codes : (o : Outcome) → Contains (0 ∷ 1 ∷ 2 ∷ 3 ∷ 4 ∷ 5 ∷ 6 ∷ 7 ∷ []) (code_of o)
all_codes Done = (0, omega arith, refl)
all_codes (SourceRefused kind place) = (1, omega arith, refl)
all_codes (ImageRefused fault) = (3, omega arith, refl)
all_codes (MapRefused fault) = (3, omega arith, refl)
all_codes (Trap trap) = (4, omega arith, refl)
all_codes (Spent unit steps) = (5, omega arith, refl)
all_codes Fault = (6, omega arith, refl)
all_codes NoMemory = (7, omega arith, refl)

-- and never 2
pub never_two : (o : Outcome) (code : ℕ) → (code ≡ code_of o) ⊎ (code ≡ 7) → code ≡ 2 → ⊥
never_two o code (inr seven) two = absurd (omega (arith, seven, two))
never_two Done code (inl is) two = absurd (omega (arith, is, two))
never_two (SourceRefused kind place) code (inl is) two = absurd (omega (arith, is, two))
never_two (ImageRefused fault) code (inl is) two = absurd (omega (arith, is, two))
never_two (MapRefused fault) code (inl is) two = absurd (omega (arith, is, two))
never_two (Trap trap) code (inl is) two = absurd (omega (arith, is, two))
never_two (Spent unit steps) code (inl is) two = absurd (omega (arith, is, two))
never_two Fault code (inl is) two = absurd (omega (arith, is, two))
never_two NoMemory code (inl is) two = absurd (omega (arith, is, two))

pub fault_of_six : (o : Outcome) → code_of o ≡ 6 → o ≡ Fault
fault_of_six Done six = absurd (omega (arith, six))
fault_of_six (SourceRefused kind place) six = absurd (omega (arith, six))
fault_of_six (ImageRefused fault) six = absurd (omega (arith, six))
fault_of_six (MapRefused fault) six = absurd (omega (arith, six))
fault_of_six (Trap trap) six = absurd (omega (arith, six))
fault_of_six (Spent unit steps) six = absurd (omega (arith, six))
fault_of_six Fault six = refl
fault_of_six NoMemory six = absurd (omega (arith, six))

-- a code other than 7 is that of the outcome
pub code_is : (o : Outcome) (code k : ℕ) → (code ≡ code_of o) ⊎ (code ≡ 7) → code ≡ k → k ≤ 6 → code_of o ≡ k
code_is o code k (inl is) same small = omega (arith, is, same)
code_is o code k (inr seven) same small = absurd (omega (arith, seven, same, small))

-- what codes of such lists are
pub one_to_five : (code : ℕ) → Contains (1 ∷ 2 ∷ 3 ∷ 4 ∷ 5 ∷ []) code → (1 ≤ code) × (code ≤ 5)
one_to_five code (zero, less, at) = (omega (arith, at), omega (arith, at))
one_to_five code (suc zero, less, at) = (omega (arith, at), omega (arith, at))
one_to_five code (suc (suc zero), less, at) = (omega (arith, at), omega (arith, at))
one_to_five code (suc (suc (suc zero)), less, at) = (omega (arith, at), omega (arith, at))
one_to_five code (suc (suc (suc (suc zero))), less, at) = (omega (arith, at), omega (arith, at))
one_to_five code (suc (suc (suc (suc (suc k)))), less, at) = absurd (omega (arith, less))

pub one_to_three : (code : ℕ) → Contains (1 ∷ 2 ∷ 3 ∷ []) code → (1 ≤ code) × (code ≤ 3)
one_to_three code (zero, less, at) = (omega (arith, at), omega (arith, at))
one_to_three code (suc zero, less, at) = (omega (arith, at), omega (arith, at))
one_to_three code (suc (suc zero), less, at) = (omega (arith, at), omega (arith, at))
one_to_three code (suc (suc (suc k)), less, at) = absurd (omega (arith, less))
