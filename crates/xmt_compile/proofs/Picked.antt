-- Where a picked run ends, so has the source.
use Rattle.std.proofs.Common.{◌≡◌, ◌≢◌, ◌∙◌, refl, sym, ap, subst, ℕ, zero, suc, ◌+◌, ◌*◌, ◌==◌, ◌≤◌, ◌&&◌, cond, Bool, true, false, nat_lt, List, [], ◌∷◌, length, find, count_by, Option, Some, None, slice_get, arith}
use Rattle.std.specs.Prelude.{if◌then◌else◌}
use Rattle.interleaving.proofs.Interleave.{eq_of}
use Rattle.source_meaning.specs.declared.tree.Program.{Program}
use Rattle.source_meaning.specs.Layout.{all_words}
use Rattle.xmt_isa.specs.declared.image.Image.{Image}
use Rattle.xmt_isa.specs.declared.unit.Unit.{Unit}
use Rattle.xmt_isa.specs.declared.unit.Next.{Next}
use Rattle.xmt_isa.specs.declared.unit.Next.TheVariants as next
use Rattle.xmt_isa.specs.declared.run.Choice.{Choice}
use Rattle.xmt_isa.specs.declared.run.Choice.TheVariants as choice
use Rattle.xmt_isa.specs.Step.{next_of}
use Rattle.xmt_isa.specs.Machine.{Machine, after}
use Rattle.xmt_isa.specs.Opening.{opening}
use Rattle.xmt_isa.specs.Legal.{HasHalted, RunsTo}
use Rattle.xmt_isa.specs.Picked.{PickedRun, choice_of, choice_by, picks, place_of, trap_of, is_trap, is_trapped, is_spent, is_spawned, is_active}
use Rattle.xmt_base.specs.Picker as picker
use Rattle.machine_runs.proofs.Opens.{control_units-length}
use Rattle.machine_runs.proofs.Runs.{after-length, all_have_logs}
use Rattle.source_meaning.specs.Run.{words_held}
use Rattle.xmt_compile.specs.Implements.{Implements, Matches, data_words, reached}
use Rattle.xmt_compile.specs.Ended.{EndsSo, HasDone, HasPrinted}
use Rattle.xmt_compile.proofs.Drawn.{both_true}
use Rattle.xmt_compile.proofs.Lists.{count_cons}

-- ---- lists

-- what is found stands in some place, and the test holds of it
find_some : {A : Type 0} (p : A → Bool) (xs : List A) (x : A) → find p xs ≡ Some x → (k : ℕ) × (slice_get xs k ≡ Some x) × (p x ≡ true)
find_some p [] x h = cc
find_some p (y ∷ ys) x h = by_test (p y) refl h (λ g. find_some p ys x g)
  where
    by_test : (b : Bool) → p y ≡ b → cond b (Some y) (find p ys) ≡ Some x → (find p ys ≡ Some x → (k : ℕ) × (slice_get ys k ≡ Some x) × (p x ≡ true)) → (k : ℕ) × (slice_get (y ∷ ys) k ≡ Some x) × (p x ≡ true)
    by_test true e g go = let same : y ≡ x = cc in (0, ap (λ z. Some z) same, ap p (sym same) ∙ e)
    by_test false e g go = let r = go g in (suc r.0, r.1, r.2)

-- where none is counted, the test holds of none
count_none : {A : Type 0} (p : A → Bool) (xs : List A) (k : ℕ) (x : A) → count_by p xs ≡ 0 → slice_get xs k ≡ Some x → p x ≡ false
count_none p [] k x none there = cc
count_none p (y ∷ ys) k x none there = by_test (p y) refl (sym (count_cons p y ys) ∙ none) k there (λ k g at. count_none p ys k x g at)
  where
    by_test : (b : Bool) → p y ≡ b → cond b 1 0 + count_by p ys ≡ 0 → (k : ℕ) → slice_get (y ∷ ys) k ≡ Some x → ((k : ℕ) → count_by p ys ≡ 0 → slice_get ys k ≡ Some x → p x ≡ false) → p x ≡ false
    by_test true e g k at go = absurd (omega (arith, g))
    by_test false e g zero at go = let same : y ≡ x = cc in ap p (sym same) ∙ e
    by_test false e g (suc k) at go = go k (omega (arith, g)) at

-- ---- ends

module _ (program : Program) (image : Image) (implements : Implements program image) (memory : List ℕ) (n budget : ℕ)
    (size : length memory ≡ all_words program.globals) (some : 1 ≤ n) (most : n ≤ 64) (r : PickedRun) (runs : RunsTo image (opening image memory n) r.machine) where
  abbrev m : Machine
  m = r.machine

  abbrev IsIdle : Machine → Type 0
  IsIdle m = (k : ℕ) (u : Unit) → slice_get m.units k ≡ Some u → is_active (is_spawned m.units) u ≡ false

  -- where no unit is active, the machine has halted
  over : IsIdle m → HasHalted m
  over = subst (λ m. IsIdle m → HasHalted m) runs.2 reached_over
    where
      reached_over : IsIdle (after image (opening image memory n) runs.0) → HasHalted (after image (opening image memory n) runs.0)
      reached_over idle =
          let log = all_have_logs image implements.valid memory n runs.0 runs.1 in
          let count : length (after image (opening image memory n) runs.0).units ≡ suc n = after-length image (opening image memory n) runs.0 ∙ ap suc (control_units-length n) in
          log.2.over (omega (arith, count, some)) idle

  module _ (schedule : List ℕ) (matches : Matches program image memory n m schedule) where
    abbrev Ends : Choice → Type 0
    Ends = EndsSo program (reached program memory schedule) (length schedule) budget (data_words image m.words)

    at_trap : (k : ℕ) (u : Unit) → slice_get m.units k ≡ Some u → is_active (is_spawned m.units) u ≡ true → (x : Next) → next_of image m.start u ≡ x → is_trap x ≡ true → Ends (trap_of image u x)
    at_trap k u at active next.Local is h = cc
    at_trap k u at active (next.Trap kind) is h = matches.traps k u kind at active is
    at_trap k u at active (next.Ask request) is h = cc

    trapped : (u : Unit) → find (is_trapped image m.start budget (is_spawned m.units)) m.units ≡ Some u → Ends (trap_of image u (next_of image m.start u))
    trapped u found =
        let f = find_some (is_trapped image m.start budget (is_spawned m.units)) m.units u found in
        let both : (is_active (is_spawned m.units) u ≡ true) × ((nat_lt u.counts.steps budget && is_trap (next_of image m.start u)) ≡ true) = both_true (is_active (is_spawned m.units) u) (nat_lt u.counts.steps budget && is_trap (next_of image m.start u)) f.2 in
        at_trap f.0 u f.1 both.0 (next_of image m.start u) refl (both_true (nat_lt u.counts.steps budget) (is_trap (next_of image m.start u)) both.1).1

    spent : (u : Unit) → find (is_spent budget (is_spawned m.units)) m.units ≡ Some u → Ends (choice.Spent u.number u.counts.steps)
    spent u found =
        let f = find_some (is_spent budget (is_spawned m.units)) m.units u found in
        let same : u.counts.steps ≡ budget = eq_of u.counts.steps budget (both_true (is_active (is_spawned m.units) u) (u.counts.steps == budget) f.2).1 in
        (same, subst (λ s. s ≤ 64 * (length schedule + 1)) same (matches.steps f.0 u f.1))

    done : count_by (is_active (is_spawned m.units)) m.units ≡ 0 → Ends choice.Done
    done none =
        let halted = matches.halted (over (λ k u at. count_none (is_active (is_spawned m.units)) m.units k u none at)) in
        (halted.0, subst (λ n. words_held (reached program memory schedule).store n ≡ data_words image m.words) size halted.1)

    abbrev NoStep : Choice → Type 0
    NoStep end = (k : ℕ) → end ≢ choice.Step k

    chosen : (count : ℕ) → count_by (is_active (is_spawned m.units)) m.units ≡ count → (end : Choice) → picks (is_spawned m.units) m.units count r.state ≡ end → NoStep end → Ends end
    chosen count is end same not_on = by_test (count == 0) refl same
      where
        by_one : (b : Bool) → (if b then choice.Step (place_of (is_spawned m.units) m.units 0) else choice.Step (place_of (is_spawned m.units) m.units (picker.choice (picker.next_state r.state) count))) ≡ end → Ends end
        by_one true g = absurd (not_on _ (sym g))
        by_one false g = absurd (not_on _ (sym g))

        by_test : (b : Bool) → (count == 0) ≡ b → (if b then choice.Done else (if count == 1 then choice.Step (place_of (is_spawned m.units) m.units 0) else choice.Step (place_of (is_spawned m.units) m.units (picker.choice (picker.next_state r.state) count)))) ≡ end → Ends end
        by_test true e g = subst Ends g (done (is ∙ eq_of count 0 e))
        by_test false e g = by_one (count == 1) g

    by_finds : (t s : Option Unit) → find (is_trapped image m.start budget (is_spawned m.units)) m.units ≡ t → find (is_spent budget (is_spawned m.units)) m.units ≡ s → (end : Choice) → choice_by image m r.state t s ≡ end → NoStep end → Ends end
    by_finds (Some u) s is_t is_s end same not_on = subst Ends same (trapped u is_t)
    by_finds None (Some u) is_t is_s end same not_on = subst Ends same (spent u is_s)
    by_finds None None is_t is_s end same not_on = chosen (count_by (is_active (is_spawned m.units)) m.units) refl end same not_on

  -- where the run ends, the source has come to such an end
  pub picked_ends : (end : Choice) → choice_of image budget r ≡ end → ((k : ℕ) → end ≢ choice.Step k) → HasDone program memory n budget end r.machine.out (data_words image r.machine.words)
  picked_ends end same not_on =
      let s = subst (λ m. (schedule : List ℕ) × Matches program image memory n m schedule) runs.2 (implements.runs memory n runs.0 size some most runs.1) in
      record {
        schedule = s.0;
        legal = s.1.legal;
        printed = s.1.printed;
        ends = by_finds s.0 s.1 _ _ refl refl end same not_on;
        rising = s.1.rising;
      }

  -- wherever the run has come, the source has printed the same
  pub picked_prints : HasPrinted program memory n r.machine.out
  picked_prints =
      let s = subst (λ m. (schedule : List ℕ) × Matches program image memory n m schedule) runs.2 (implements.runs memory n runs.0 size some most runs.1) in
      record { schedule = s.0; legal = s.1.legal; printed = s.1.printed; rising = s.1.rising }
