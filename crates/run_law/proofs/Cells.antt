-- A log over the words of the table is one over cells that agree with them.
use Rattle.std.proofs.Common.{◌≡◌, refl, sym, ◌∙◌, ap, subst, ℕ, ◌+◌, ◌*◌, ◌%◌, ◌^◌, ◌<◌, ◌==◌, ◌&&◌, Bool, true, false, if◌then◌else◌, List, [], ◌∷◌, ◌++◌, length, slice_set, slice_index, arith, inl, inr}
use Rattle.std.proofs.lemmas.List.{length-set, get_or-set_same, get_or-set_other}
use Rattle.xmt_base.specs.Action.{Shared, Word, Register, Outer, Action, Load, Store, Add, Print, Spawn, Trap, Ended}
use Rattle.xmt_base.specs.Operators.{count_between}
use Rattle.interleaving.proofs.Interleave.{eq_of}
use Rattle.interleaving.proofs.Grows.{eq_refl, differs}
use Rattle.source_log.specs.Log as source
use Rattle.source_log.specs.Log.{same_place, cells_with}
use Rattle.source_log.specs.Rising.{LowerEnded}
use Rattle.interleaving.specs.Actors.{IsLawfulBy}
use Rattle.xmt_isa.specs.declared.image.Image.{Image}
use Rattle.xmt_isa.specs.Places.{shared_at, word_at}
use Rattle.machine_places.specs.Keeps.{IsShared}
use Rattle.machine_places.proofs.Words.{word_at-shared_at}
use Rattle.machine_places.proofs.Shared.{keeps_to_shared}
use Rattle.machine_log.specs.Log as machine
use Rattle.machine_log.specs.Log.{Log}
use Rattle.machine_log.specs.Done as done
use Rattle.run_law.specs.Cells.{CellsAgree, WorldsAgree, LogsAreLawfulOverCells, RisingLogsRiseOverCells}
use Rattle.run_law.proofs.Shared.{IsSharedPlace, IsSharedAction, AreShared, log_shared}

-- ---- places

same_place-refl : (place : Shared) → same_place place place ≡ true
same_place-refl (Word n) = eq_refl n
same_place-refl (Register n) = eq_refl n
same_place-refl (Outer d n) = rw (eq_refl d, eq_refl n) refl

both : (a b : Bool) → (a && b) ≡ true → (a ≡ true) × (b ≡ true)
both true b h = (refl, h)
both false b h = cc

same_place_tells : (place other : Shared) → same_place place other ≡ true → place ≡ other
same_place_tells (Word a) (Word b) h = ap Word (eq_of a b h)
same_place_tells (Register a) (Register b) h = ap Register (eq_of a b h)
same_place_tells (Outer d n) (Outer e m) h = let r = both (d == e) (n == m) h in let first : d ≡ e = eq_of d e r.0 in let second : n ≡ m = eq_of n m r.1 in rw (first, second) refl
same_place_tells place other h = cc

module _ (image : Image) where
  one_word : (word other : ℕ) → IsShared image word → IsShared image other → shared_at image word ≡ shared_at image other → word ≡ other
  one_word word other first second same = sym (word_at-shared_at image word first.above) ∙ ap (word_at image) same ∙ word_at-shared_at image other second.above

  other_place : (word other : ℕ) → IsShared image word → IsShared image other → (word ≡ other → ⊥) → same_place (shared_at image word) (shared_at image other) ≡ false
  other_place word other first second differ = by_test (same_place (shared_at image word) (shared_at image other)) refl
    where
      by_test : (b : Bool) → same_place (shared_at image word) (shared_at image other) ≡ b → b ≡ false
      by_test true e = absurd (differ (one_word word other first second (same_place_tells (shared_at image word) (shared_at image other) e)))
      by_test false e = refl

  -- a word is written, and its place
  cells_set : (words : List ℕ) (cells : Shared → ℕ) (word value : ℕ) → length words ≡ 12 + length image.words + 257 * image.outer → IsShared image word → CellsAgree image words cells →
      CellsAgree image (slice_set words word value) (cells_with cells (shared_at image word) value)
  cells_set words cells word value size shared agree other is_shared = by_test (word == other) refl
    where
      by_test : (b : Bool) → (word == other) ≡ b → (if same_place (shared_at image word) (shared_at image other) then value else cells (shared_at image other)) ≡ slice_index (slice_set words word value) other
      by_test true e =
          subst (λ x. (if same_place (shared_at image word) (shared_at image x) then value else cells (shared_at image x)) ≡ slice_index (slice_set words word value) x) (eq_of word other e)
          (rw (same_place-refl (shared_at image word)) (sym (get_or-set_same words word value 0 (let inside : word < 12 + length image.words + 257 * image.outer = shared.below in omega (arith, size, inside)))))
      by_test false e =
          let differ : word ≡ other → ⊥ = differs word other e in
          rw (other_place word other shared is_shared differ) (agree other is_shared ∙ sym (get_or-set_other words word other value 0 (λ h. differ (sym h))))

  -- ---- one entry

  module _ (w : machine.World) (v : source.World) (agree : WorldsAgree image w v) where
    stored : (place : Shared) (value : ℕ) → IsSharedPlace image place → WorldsAgree image (record w { words = slice_set w.words (word_at image place) value }) (record v { cells = cells_with v.cells place value })
    stored place value (word, shared, is) =
        let at : word_at image place ≡ word = ap (word_at image) is ∙ word_at-shared_at image word shared.above in
        record {
          size = length-set w.words (word_at image place) value ∙ agree.size;
          cells = subst (λ x. CellsAgree image (slice_set w.words x value) (cells_with v.cells place value)) (sym at) (subst (λ x. CellsAgree image (slice_set w.words word value) (cells_with v.cells x value)) (sym is) (cells_set w.words v.cells word value agree.size shared agree.cells));
          printed = agree.printed;
          threads = agree.threads;
          ended = agree.ended;
        }

    held : (place : Shared) → IsSharedPlace image place → v.cells place ≡ slice_index w.words (word_at image place)
    held place (word, shared, is) =
        let at : word_at image place ≡ word = ap (word_at image) is ∙ word_at-shared_at image word shared.above in
        ap v.cells is ∙ agree.cells word shared ∙ ap (slice_index w.words) (sym at)

    agree_after : (thread : ℕ) (action : Action) → IsSharedAction image action → WorldsAgree image (machine.after_action image w thread action) (source.after_action v thread action)
    agree_after thread (Store place value) shared = stored place value shared
    agree_after thread (Add place value) shared =
        subst (λ x. WorldsAgree image (record w { words = slice_set w.words (word_at image place) ((slice_index w.words (word_at image place) + value) % 2 ^ 32) }) (record v { cells = cells_with v.cells place ((x + value) % 2 ^ 32) })) (sym (held place shared))
        (stored place ((slice_index w.words (word_at image place) + value) % 2 ^ 32) shared)
    agree_after thread (Print text) shared = record { size = agree.size; cells = agree.cells; printed = ap (λ out. out ++ text) agree.printed; threads = agree.threads; ended = agree.ended }
    agree_after thread (Spawn site low high) shared = record { size = agree.size; cells = agree.cells; printed = agree.printed; threads = ap (λ n. n + count_between low high) agree.threads; ended = agree.ended }
    agree_after thread Ended shared = record { size = agree.size; cells = agree.cells; printed = agree.printed; threads = agree.threads; ended = λ other. ap (λ b. if thread == other then true else b) (agree.ended other) }
    agree_after thread (Load place) shared = agree
    agree_after thread (Trap kind line) shared = agree

    reply_same : (action : Action) → IsSharedAction image action → machine.reply_in image w action ≡ source.reply_in v action
    reply_same (Load place) shared = sym (held place shared)
    reply_same (Add place value) shared = sym (held place shared)
    reply_same (Store place value) shared = refl
    reply_same (Print text) shared = refl
    reply_same (Spawn site low high) shared = refl
    reply_same (Trap kind line) shared = refl
    reply_same Ended shared = refl

    may_go : (thread : ℕ) → machine.MayGo w thread → source.MayGo v thread
    may_go thread may = (
      subst (λ n. thread < n) (sym agree.threads) may.0,
      λ serial other later less. agree.ended other ∙ may.2 serial other later (subst (λ n. other < n) agree.threads less),
    )

  logged : (thread : ℕ) (action : Action) → machine.IsLogged thread action → source.IsLogged thread action
  logged thread (Trap kind line) h = h
  logged thread (Spawn site low high) h = h
  logged thread (Load place) h = h
  logged thread (Store place value) h = h
  logged thread (Add place value) h = h
  logged thread (Print text) h = h
  logged thread Ended h = h

  -- ---- a log

  log_over_cells : (log : Log) (w : machine.World) (v : source.World) → AreShared image log → machine.IsLawful image w log → WorldsAgree image w v →
      source.IsLawful v log × WorldsAgree image (machine.after_log image w log) (source.after_log v log)
  log_over_cells [] w v shared lawful agree = (tt, agree)
  log_over_cells (e ∷ log) w v shared lawful agree =
      let rest = log_over_cells log (machine.after_entry image w e) (source.after_entry v e) shared.1 lawful.1 (agree_after w v agree e.actor e.action shared.0) in
      (((may_go w v agree e.actor lawful.0.0, lawful.0.1 ∙ reply_same w v agree e.action shared.0, logged e.actor e.action lawful.0.2), rest.0), rest.1)

  lower_ended : (w : machine.World) (v : source.World) → WorldsAgree image w v → (thread : ℕ) → done.LowerEnded w.ended thread → LowerEnded v thread
  lower_ended w v agree thread ended lower later less = agree.ended lower ∙ ended lower later less

  entries_rise : (log : Log) (w : machine.World) (v : source.World) → AreShared image log → IsLawfulBy (machine.after_entry image) (λ u e. done.LowerEnded u.ended e.actor) w log → WorldsAgree image w v →
      IsLawfulBy source.after_entry (λ u e. LowerEnded u e.actor) v log
  entries_rise [] w v shared rises agree = tt
  entries_rise (e ∷ log) w v shared rises agree =
      (lower_ended w v agree e.actor rises.0, entries_rise log (machine.after_entry image w e) (source.after_entry v e) shared.1 rises.1 (agree_after w v agree e.actor e.action shared.0))

pub all_rise_over_cells : RisingLogsRiseOverCells
all_rise_over_cells image valid memory log p is_done rising v agree =
    let shared : AreShared image log = log_shared image (keeps_to_shared image valid) memory log p is_done in
    let end = (log_over_cells image log (machine.opening_world image memory) v shared is_done.lawful agree).1 in (
      entries_rise image log (machine.opening_world image memory) v shared rising.entries agree,
      λ thread less. elim (rising.rest thread (subst (λ n. thread < n) end.threads less)) [
        | inl ended ↦ inl (lower_ended image (machine.after_log image (machine.opening_world image memory) log) (source.after_log v log) end thread ended)
        | inr none ↦ inr none
      ],
    )

pub all_lawful_over_cells : LogsAreLawfulOverCells
all_lawful_over_cells image valid memory log p done v agree =
    log_over_cells image log (machine.opening_world image memory) v (log_shared image (keeps_to_shared image valid) memory log p done) done.lawful agree
