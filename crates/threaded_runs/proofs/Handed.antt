-- What the parts of a section hand on to each other.
use Rattle.std.proofs.Common.{◌≡◌, refl, sym, ap, ◌∙◌, subst, ℕ, zero, suc, ◌+◌, ◌^◌, ◌<◌, ◌≤◌, false, List, [], ◌∷◌, ◌++◌, length, map, take, drop, slice_index, arith, Some, slice_get}
use Rattle.std.specs.Option.{IfSome}
use Rattle.xmt_isa.specs.declared.image.Image.{Image}
use Rattle.xmt_isa.specs.declared.unit.Start.{Start}
use Rattle.xmt_isa.specs.declared.unit.SpawnAsk.{SpawnAsk}
use Rattle.xmt_isa.specs.Machine.{broadcast}
use Rattle.shared_words.specs.declared.log.Entry.{Entry}
use Rattle.shared_words.specs.History.{words_after, words_after_entry}
use Rattle.prefix_sum.proofs.Drawing.{long_by}
use Rattle.tcu_engine.specs.declared.ask.Ask.TheVariants as ask
use Rattle.machine_turns.specs.declared.machine.Machine as kept
use Rattle.machine_turns.specs.declared.seats.Seat.{Seat}
use Rattle.machine_turns.specs.Kept.{Kept, IsAt, MayGo}
use Rattle.spawn_join.specs.declared.worker.Worker.{Worker}
use Rattle.spawn_join.specs.Worked.{RanAtOnce, AllFinished, IsDue}
use Rattle.threaded_runs.specs.Sections.{AreNumbered}
use Rattle.threaded_runs.specs.Units.{due_worker, seat_again}
use Rattle.threaded_runs.specs.Words.{Widens}
use Rattle.threaded_runs.proofs.Spawned.{master, workers, workers_size, may_go}
use Rattle.threaded_runs.proofs.Led.{HasRun}

words_long : (words : List ℕ) (entries : List Entry) → length (words_after words entries) ≡ length words
words_long words [] = refl
words_long words (e ∷ entries) = words_long (words_after_entry words e) entries ∙ long_by e.action e.place e.operand words

pub left_long : (image : Image) (start : Start) (wide : List ℕ) (olds news : List Worker) (left : List ℕ) → RanAtOnce image start wide olds news left → length left ≡ length wide
left_long image start wide olds news left r = ap length r.left_are ∙ words_long r.history.opened r.history.entries ∙ ap length r.opened

-- a vector's part that was lent comes back whole
lent_back : (n : ℕ) (news : List Worker) → n ≡ length news → take n (news ++ []) ≡ news
lent_back zero [] is = refl
lent_back zero (w ∷ news) is = absurd (omega (arith, is))
lent_back (suc n) [] is = absurd (omega (arith, is))
lent_back (suc n) (w ∷ news) is = ap (λ xs. w ∷ xs) (lent_back n news (omega (arith, is)))

none_behind : (n : ℕ) (xs : List Worker) → n ≡ length xs → drop n xs ≡ []
none_behind zero [] is = refl
none_behind zero (x ∷ xs) is = absurd (omega (arith, is))
none_behind (suc n) [] is = refl
none_behind (suc n) (x ∷ xs) is = none_behind n xs (omega (arith, is))

pub whole_again : (n : ℕ) (news items : List Worker) → n ≡ length items → length news ≡ length items → take n (news ++ drop (length news) items) ≡ news
whole_again n news items is size = ap (λ xs. take n (news ++ xs)) (none_behind (length news) items size) ∙ lent_back n news (omega (arith, is, size))

seats_by : (first : Seat) (others mid : List Seat) (news : List Worker) → mid ≡ take 1 (first ∷ others) → mid ++ map seat_again news ≡ first ∷ map seat_again news
seats_by first others mid news is = ap (λ xs. xs ++ map seat_again news) is

-- the seats with the control units put back
pub put_back : (seats put left : List Seat) (first : Seat) (others : List Seat) (news items : List Worker) (n : ℕ) → seats ≡ first ∷ others → left ≡ take 1 seats → n ≡ length items → length news ≡ length items
    → put ≡ left ++ map seat_again (take n (news ++ drop (length news) items)) → put ≡ first ∷ map seat_again news
put_back seats put left first others news items n are is count size made =
    made ∙ ap (λ ws. left ++ map seat_again ws) (whole_again n news items count size) ∙ seats_by first others left news (is ∙ ap (take 1) are)

pub due_at : (image : Image) (start : Start) (budget : ℕ) (ws : List Worker) → ((k : ℕ) (w : Worker) → slice_get ws k ≡ Some w → IsDue image start budget w.unit) → (xs : List Worker) → xs ≡ ws
    → (k : ℕ) (w : Worker) → slice_get xs k ≡ Some w → IsDue image start budget w.unit
due_at image start budget ws due xs is k w there = due k w (ap (λ ys. slice_get ys k) (sym is) ∙ there)

module _ (image : Image) (budget : ℕ) (old : kept.Machine) (spawn : SpawnAsk) (kept_old : Kept image budget old) (serial : old.spawned ≡ false) (is_at : IsAt old 0 (ask.Spawn spawn)) where
  pub taken_are : (items : List Worker) → items ≡ map due_worker (drop 1 old.seats.items) → items ≡ workers image budget old spawn kept_old serial is_at
  taken_are items taken = taken ∙ ap (λ xs. map due_worker (drop 1 xs)) kept_old.are

  pub may_go_on : (start : Start) (put : List Seat) (news : List Worker) → put ≡ kept_old.master ∷ map seat_again news → IfSome (slice_get put 0) (MayGo image start budget)
  may_go_on start put news is = subst (λ xs. IfSome (slice_get xs 0) (MayGo image start budget)) (sym is) (may_go image budget old spawn kept_old serial is_at start)

  pub has_run : (start : Start) (wide : List ℕ) (items news : List Worker) (left : List ℕ) → AreNumbered old.seats.items → length old.seats.items ≤ 65 → start ≡ broadcast (master image budget old spawn kept_old serial is_at) spawn
      → Widens old.words.items wide → 4 ≤ length old.words.items → budget < 2 ^ 64 → items ≡ map due_worker (drop 1 old.seats.items) → length news ≡ length items → slice_index left 1 < 2 ^ 64
      → RanAtOnce image start wide items news left → AllFinished image start budget items news
      → HasRun image budget old (workers image budget old spawn kept_old serial is_at) (master image budget old spawn kept_old serial is_at) spawn start wide news left
  has_run start wide items news left numbered few is_start widens long fits taken size small ran finished =
      let same : items ≡ workers image budget old spawn kept_old serial is_at = taken_are items taken in
      let all : length old.seats.items ≡ 1 + length kept_old.others = ap length kept_old.are ∙ omega arith in
      let count : length (workers image budget old spawn kept_old serial is_at) ≡ length kept_old.others = workers_size image budget old spawn kept_old serial is_at in
      record {
        numbered = numbered;
        is_start = is_start;
        widens = widens;
        long = long;
        few = omega (arith, all, count, few);
        fits = fits;
        size = size ∙ ap length same;
        small = small;
        ran = subst (λ ws. RanAtOnce image start wide ws news left) same ran;
        finished = subst (λ ws. AllFinished image start budget ws news) same finished;
      }
