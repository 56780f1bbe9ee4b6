-- The draws of a section count up.
use Rattle.std.proofs.Common.{◌≡◌, refl, ap, subst, ◌∙◌, ⊎_elim, ℕ, ◌+◌, ◌<◌, ◌≤◌, ◌^◌, ◌==◌, Bool, true, false, cond, if◌then◌else◌, List, [], ◌∷◌, length, Contains, slice_index, arith, ◌&&◌, nat_le}
use Rattle.spawn_join.specs.Own.{DoesOwn}
use Rattle.shared_words.specs.Sections.{OwnRun, AllOwnRuns}
use Rattle.std.proofs.lemmas.Bool.Decides.{nat_tests}
use Rattle.shared_words.specs.declared.log.Action.TheVariants as action
use Rattle.shared_words.specs.declared.log.Entry as accesses
use Rattle.shared_words.specs.History.{own, enrolment, words_after, AllReplied}
use Rattle.shared_words.proofs.Lists.{in_here, in_more}
use Rattle.prefix_sum.specs.Draws.{at_place, OnlyDraws, replies, late, CountsUp, DrawsCountUp}
use Rattle.xmt_isa.specs.declared.image.Image.{Image}
use Rattle.xmt_isa.specs.declared.unit.Start.{Start}
use Rattle.xmt_isa.specs.Machine.{is_stopped}
use Rattle.machine_histories.specs.Histories.{draws_in}
use Rattle.spawn_join.specs.declared.worker.Worker.{Worker}
use Rattle.spawn_join.specs.Own.{one_if}
use Rattle.spawn_join.specs.Ends.{AllStopped}
use Rattle.spawn_join.specs.Worked.{RanAtOnce, units_of}
use Rattle.spawn_join.proofs.Bridge.{entry_is, run_of}

draws_by : (image : Image) (start : Start) (words : List ℕ) (olds news : List Worker) (left : List ℕ) → (r : RanAtOnce image start words olds news left) → (e : accesses.Entry) → Contains r.history.entries e → e.place ≡ 1 → (e.action ≡ action.Add) × (e.operand ≡ 1)
draws_by image start words olds news left r e c is =
    ⊎_elim (λ (i : e ≡ enrolment e.number). let zero_is : e.place ≡ 0 = ap (λ (z : accesses.Entry). z.place) i in absurd (omega (arith, is, zero_is)))
    (λ a. ⊎_elim (λ x. let far = x.0 in absurd (omega (arith, is, far))) (λ x. (x.1, x.2)) a)
    (entry_is image start words olds news left r e c)

only_draws : (h : List accesses.Entry) → ((e : accesses.Entry) → Contains h e → e.place ≡ 1 → (e.action ≡ action.Add) × (e.operand ≡ 1)) → OnlyDraws 1 h
only_draws [] each = tt
only_draws (e ∷ h) each = (each e (in_here e h), only_draws h (λ x c. each x (in_more e h x c)))

one_small : (b : Bool) → one_if b ≤ 1
one_small true = omega arith
one_small false = omega arith

late_once : (image : Image) (start : Start) (words : List ℕ) (olds news : List Worker) (left : List ℕ) → (r : RanAtOnce image start words olds news left) → (n : ℕ) → Contains r.numbers n → late 1 start.count (own n r.history.entries) ≤ 1
late_once image start words olds news left r n c =
    let one = run_of image start r.history.entries r.numbers (units_of olds) (units_of news) r.runs n c in
    let run = one.2 in
    let is : late 1 start.count (own n r.history.entries) ≡ 0 + late 1 start.count run.made = ap (λ l. late 1 start.count l) run.are in
    let small = one_small (is_stopped one.1.state) in
    let own_late = run.steps.late_are in
    omega (arith, is, own_late, small)

-- the draws of a section get the numbers from 0 on, each once
pub draws_count : DrawsCountUp → (image : Image) (start : Start) (words : List ℕ) (olds news : List Worker) (left : List ℕ) → (r : RanAtOnce image start words olds news left) → 1 < length words → slice_index words 1 ≡ 0 → start.count + length r.numbers + 1 < 2 ^ 64
    → CountsUp 0 (replies (at_place 1 r.history.entries)) × (slice_index left 1 ≡ length (at_place 1 r.history.entries))
draws_count law image start words olds news left r long none few =
    let legal : AllReplied words r.history.entries = subst (λ (w : List ℕ). AllReplied w r.history.entries) r.opened r.legal in
    let all = law 1 start.count words r.history.entries r.numbers long none legal (only_draws r.history.entries (draws_by image start words olds news left r)) r.only (late_once image start words olds news left r) few in
    (all.0, ap (λ w. slice_index w 1) (r.left_are ∙ ap (λ (w : List ℕ). words_after w r.history.entries) r.opened) ∙ all.1)

-- ---- how many draws there were

drawn_by : (place : ℕ) (b : Bool) → (place == 1) ≡ b → (e : accesses.Entry) (l : List accesses.Entry) → length (cond b (e ∷ l) l) ≡ (if b then 1 else 0) + length l
drawn_by place true is e l = omega arith
drawn_by place false is e l = omega arith

pub draws_are : (h : List accesses.Entry) → length (at_place 1 h) ≡ draws_in h
draws_are [] = refl
draws_are (e ∷ h) = drawn_by e.place (e.place == 1) refl e (at_place 1 h) ∙ ap (λ n. (if e.place == 1 then 1 else 0) + n) (draws_are h)

-- the premise of the machine, where the words that are left are of 64 bits
pub draws_small : DrawsCountUp → (image : Image) (start : Start) (words : List ℕ) (olds news : List Worker) (left : List ℕ) → (r : RanAtOnce image start words olds news left) → 1 < length words → slice_index words 1 ≡ 0 → start.count + length r.numbers + 1 < 2 ^ 64 → slice_index left 1 < 2 ^ 64
    → slice_index words 1 + draws_in r.history.entries < 2 ^ 64
draws_small law image start words olds news left r long none few small =
    let all = (draws_count law image start words olds news left r long none few).1 in
    let same = draws_are r.history.entries in
    omega (arith, none, all, same, small)

-- ---- a draw that stopped a unit came behind all numbers below the count

own_late_by : (count n : ℕ) (b c : Bool) (e : accesses.Entry) (l : List accesses.Entry) (k : ℕ) → late 1 count l ≤ k → late 1 count (cond c (e ∷ l) l) ≤ cond ((e.place == 1) && nat_le count e.reply) 1 0 + k
own_late_by count n b true e l k small = omega (arith, small)
own_late_by count n b false e l k small = omega (arith, small)

own_late : (count n : ℕ) (h : List accesses.Entry) → late 1 count (own n h) ≤ late 1 count h
own_late count n [] = omega arith
own_late count n (e ∷ h) = own_late_by count n true (e.number == n) e (own n h) (late 1 count h) (own_late count n h)

past_by : (count first : ℕ) (a b : Bool) (e : accesses.Entry) (l : List accesses.Entry) (k : ℕ) → nat_le count e.reply ≡ b → CountsUp first (replies (cond a (e ∷ l) l)) → 1 ≤ cond (a && nat_le count e.reply) 1 0 + k
    → ((first : ℕ) → CountsUp first (replies l) → 1 ≤ k → count < first + length l) → count < first + length (cond a (e ∷ l) l)
past_by count first false b e l k is up some go = go first up (omega (arith, some))
past_by count first true true e l k is up some go = let reply = up.0 in let le : count ≤ e.reply = grind (arith, nat_tests, is) in omega (arith, reply, le)
past_by count first true false e l k is up some go =
    let some' : 1 ≤ cond false 1 0 + k = subst (λ (t : Bool). 1 ≤ cond t 1 0 + k) is some in
    let rest = go (first + 1) up.1 (omega (arith, some')) in omega (arith, rest)

pub past : (count : ℕ) (h : List accesses.Entry) (first : ℕ) → CountsUp first (replies (at_place 1 h)) → 1 ≤ late 1 count h → count < first + length (at_place 1 h)
past count [] first up some = absurd (omega (arith, some))
past count (e ∷ h) first up some = past_by count first (e.place == 1) (nat_le count e.reply) e (at_place 1 h) (late 1 count h) refl up some (past count h)

late_first : (image : Image) (start : Start) (h : List accesses.Entry) (ns : List ℕ) (olds news : List Worker) → AllOwnRuns (DoesOwn image start) h ns (units_of olds) (units_of news) → AllStopped news → 0 < length olds → 1 ≤ late 1 start.count h
late_first image start h (n ∷ ns) (o ∷ olds) (w ∷ news) runs stopped some =
    let run : OwnRun (DoesOwn image start) h n o.unit w.unit = runs.0 in
    let is : late 1 start.count (own n h) ≡ 0 + late 1 start.count run.made = ap (λ l. late 1 start.count l) run.are in
    let one : late 1 start.count run.made ≡ 1 = run.steps.late_are ∙ ap (λ s. one_if (is_stopped s)) (stopped 0 w (omega arith)) in
    let less = own_late start.count n h in
    omega (arith, is, one, less)
late_first image start h ns [] news runs stopped some = absurd (omega (arith, some))
late_first image start h [] (o ∷ olds) news runs stopped some = absurd runs
late_first image start h (n ∷ ns) (o ∷ olds) [] runs stopped some = absurd runs

-- where all have stopped, more numbers were drawn than the count
pub all_drawn : (image : Image) (start : Start) (words : List ℕ) (olds news : List Worker) (left : List ℕ) → (r : RanAtOnce image start words olds news left) → CountsUp 0 (replies (at_place 1 r.history.entries)) → AllStopped news → 0 < length olds
    → start.count < length (at_place 1 r.history.entries)
all_drawn image start words olds news left r up stopped some =
    let l = past start.count r.history.entries 0 up (late_first image start r.history.entries r.numbers olds news r.runs stopped some) in
    omega (arith, l)
