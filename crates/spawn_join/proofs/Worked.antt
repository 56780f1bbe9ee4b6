-- What a worker has done that enrolled, and whose unit ran.
use Rattle.std.proofs.Common.{◌≡◌, refl, sym, ap, subst, ◌∙◌, ℕ, zero, suc, ◌+◌, ◌^◌, ◌<◌, ◌≤◌, Contains, false, List, [], ◌∷◌, length, arith, Some, inl, inr, take, slice_index_or, slice_set, eq-or-lt_of_le}
use Rattle.std.proofs.lemmas.List.{map_more, length-map, get_or-set_same, get_or-set_other}
use Rattle.shared_words.specs.declared.log.Entry as accesses
use Rattle.shared_words.specs.declared.log.History.{History}
use Rattle.shared_words.specs.declared.log.Known.{Known}
use Rattle.shared_words.specs.Passes.{WordsId, Token, IsPassOf, Enrols, Merges, Ends}
use Rattle.shared_words.specs.Sections.{unnumbered, Ran, AllRan, AllOwnRuns, Gathers, Section}
use Rattle.shared_words.specs.History.{replay}
use Rattle.xmt_isa.specs.Fits.{UnitFits}
use Rattle.shared_words.proofs.Gathering.{starts, gathers-append, sections}
use Rattle.xmt_isa.specs.declared.image.Image.{Image}
use Rattle.xmt_isa.specs.declared.unit.Unit.{Unit}
use Rattle.xmt_isa.specs.declared.unit.UnitState.TheVariants as state
use Rattle.xmt_isa.specs.declared.unit.Start.{Start}
use Rattle.xmt_isa.specs.Machine.{is_stopped}
use Rattle.spawn_join.specs.declared.worker.Worker.{Worker}
use Rattle.spawn_join.specs.Own.{DoesOwn, Went, HasEnded, one_if}
use Rattle.spawn_join.specs.Worked.{IsDue, MayEnrol, HasRun, HasWorked, HasPass, IsReady, IsGiven, IsTaken, HasFinished, RanAtOnce, known_of, knowns, units_of, unit_in, opening}

-- a unit that is due to draw has done nothing of its own yet
pub own_nothing : (image : Image) (start : Start) (u : Unit) → u.state ≡ state.Draws → DoesOwn image start u [] u
own_nothing image start u draws = record {
  comes = λ unit_of. (0, (refl, refl));
  accesses_are = tt;
  late_are = sym (ap (λ s. one_if (is_stopped s)) draws);
}

pub has_run : (image : Image) (start : Start) (budget : ℕ) (words : WordsId) (seen : History) (w : Worker) (given enrolled after : Token) (number : ℕ) (v : Unit)
    → MayEnrol words seen (Some given) → IsDue image start budget w.unit → Enrols given.known enrolled.known number → IsPassOf words after → Went image start budget enrolled.known after.known w.unit v → HasEnded image start budget v
    → HasRun image start budget words seen w.unit (record { unit = v; pass = Some after; gap = w.gap })
has_run image start budget words seen w given enrolled after number v may due enrols of went ended =
    let seen_is : given.known.seen ≡ seen = ap (λ (k : Known). k.seen) may.1 in
    let ready : given.known ≡ unnumbered given.known.seen = may.1 ∙ ap unnumbered (sym seen_is) in
    let begun : Ran (DoesOwn image start) given.known.seen number enrolled.known w.unit w.unit =
    starts (DoesOwn image start) given.known enrolled.known number w.unit ready enrols (own_nothing image start w.unit due.draws) in
    let writes : enrolled.known.writes_with ≡ Some number = ap (λ (k : Known). k.writes_with) enrols.same in
    record {
      number = number;
      token = after;
      pass = refl;
      of = of;
      ran = subst (λ (h : History). Ran (DoesOwn image start) h number after.known w.unit v) seen_is (went.runs given.known.seen number w.unit writes begun);
      same = went.number;
      fits = went.fits;
      free = went.free;
      within = went.within;
      ended = ended;
    }

-- one worker more was merged
pub gathers_more : (k mid after : Known) (ws : List Worker) (i : ℕ) (d : Worker) → i < length ws → Gathers k (knowns (take i ws)) mid → Merges mid (known_of (slice_index_or ws i d).pass) after → Gathers k (knowns (take (i + 1) ws)) after
gathers_more k mid after ws i d below before merges =
    subst (λ (l : List Known). Gathers k l after) (sym (map_more (λ (w : Worker). known_of w.pass) ws i d below))
    (gathers-append k (knowns (take i ws)) (known_of (slice_index_or ws i d).pass ∷ []) mid after before (after, merges, refl))

le_before : (i at : ℕ) → i < at + 1 → i ≤ at
le_before i at below = omega (arith, below)

pub get_or-default : (ws : List Worker) (i : ℕ) (d e : Worker) → i < length ws → slice_index_or ws i d ≡ slice_index_or ws i e
get_or-default [] i d e below = absurd (omega (arith, below))
get_or-default (w ∷ ws) zero d e below = refl
get_or-default (w ∷ ws) (suc i) d e below = get_or-default ws i d e (omega (arith, below))

-- one worker more was taken from
pub taken_more : (olds ws : List Worker) (at : ℕ) (w e : Worker) → at < length ws → ((i : ℕ) (d : Worker) → i < at → IsTaken (slice_index_or olds i d) (slice_index_or ws i d)) → ((i : ℕ) (d : Worker) → at ≤ i → slice_index_or ws i d ≡ slice_index_or olds i d)
    → IsTaken (slice_index_or ws at e) w → (i : ℕ) (d : Worker) → i < at + 1 → IsTaken (slice_index_or olds i d) (slice_index_or (slice_set ws at w) i d)
taken_more olds ws at w e inside taken rest one i d below = elim (eq-or-lt_of_le (le_before i at below)) [
  | inl is ↦
      (let same : slice_index_or ws at e ≡ slice_index_or ws at d = get_or-default ws at e d inside in
      let put : slice_index_or (slice_set ws at w) at d ≡ w = get_or-set_same ws at w d inside in
      subst (λ (k : ℕ). IsTaken (slice_index_or olds k d) (slice_index_or (slice_set ws at w) k d)) (sym is)
      (subst (λ (p : Worker × Worker). IsTaken p.0 p.1) (λ j. ((same ∙ rest at d (omega arith)) j, sym put j)) one))
  | inr less ↦ subst (λ (x : Worker). IsTaken (slice_index_or olds i d) x) (sym (get_or-set_other ws at i w d (λ is. absurd (omega (arith, is, less))))) (taken i d less)
]

pub rest_more : (olds ws : List Worker) (at : ℕ) (w : Worker) → ((i : ℕ) (d : Worker) → at ≤ i → slice_index_or ws i d ≡ slice_index_or olds i d) → (i : ℕ) (d : Worker) → at + 1 ≤ i → slice_index_or (slice_set ws at w) i d ≡ slice_index_or olds i d
rest_more olds ws at w rest i d above = get_or-set_other ws at i w d (λ is. absurd (omega (arith, is, above))) ∙ rest i d (omega (arith, above))

-- ---- all of them

module _ (image : Image) (start : Start) (budget : ℕ) (words : WordsId) (seen : History) where
  pub all_ran : (olds news : List Worker) → length news ≡ length olds → ((i : ℕ) (d : Worker) → i < length olds → HasRun image start budget words seen (slice_index_or olds i d).unit (slice_index_or news i d))
      → (ns : List ℕ) × AllRan (DoesOwn image start) seen ns (knowns news) (units_of olds) (units_of news)
  all_ran [] [] same each = ([], tt)
  all_ran [] (w ∷ ws) same each = absurd (omega (arith, same))
  all_ran (o ∷ os) [] same each = absurd (omega (arith, same))
  all_ran (o ∷ os) (w ∷ ws) same each =
      let h : HasRun image start budget words seen o.unit w = each 0 o (omega arith) in
      let r = all_ran os ws (omega (arith, same)) (λ i d below. each (suc i) d (omega (arith, below))) in
      (h.number ∷ r.0, (subst (λ k. Ran (DoesOwn image start) seen h.number k o.unit w.unit) (sym (ap known_of h.pass)) h.ran, r.1))

units_taken : (olds news : List Worker) → length news ≡ length olds → ((i : ℕ) (d : Worker) → i < length olds → IsTaken (slice_index_or olds i d) (slice_index_or news i d)) → units_of news ≡ units_of olds
units_taken [] [] same each = refl
units_taken [] (w ∷ ws) same each = absurd (omega (arith, same))
units_taken (o ∷ os) [] same each = absurd (omega (arith, same))
units_taken (o ∷ os) (w ∷ ws) same each =
    let one : w.unit ≡ o.unit = (each 0 o (omega arith)).unit in
    let rest : units_of ws ≡ units_of os = units_taken os ws (omega (arith, same)) (λ i d below. each (suc i) d (omega (arith, below))) in
    λ i. one i ∷ rest i

module _ (image : Image) (start : Start) (budget : ℕ) (words : WordsId) (opened : List ℕ) (olds given news taken : List Worker) (long : length given ≡ length olds) (long' : length news ≡ length given) (long'' : length taken ≡ length news)
    (gives : (i : ℕ) (d : Worker) → i < length olds → IsGiven words (opening opened).seen (slice_index_or olds i d) (slice_index_or given i d))
    (works : (i : ℕ) (d : Worker) → i < length given → HasWorked image start budget words (slice_index_or given i d) (slice_index_or news i d))
    (takes : (i : ℕ) (d : Worker) → i < length news → IsTaken (slice_index_or news i d) (slice_index_or taken i d)) where
  each_ran : (i : ℕ) (d : Worker) → i < length olds → HasRun image start budget words (opening opened).seen (slice_index_or olds i d).unit (slice_index_or news i d)
  each_ran i d below =
      subst (λ (u : Unit). HasRun image start budget words (opening opened).seen u (slice_index_or news i d)) (gives i d below).unit
      (works i d (omega (arith, below, long)) (opening opened).seen (gives i d below).pass)

  pub have_finished : (i : ℕ) (d : Worker) → i < length olds → HasFinished image start budget (slice_index_or olds i d) (slice_index_or taken i d)
  have_finished i d below =
      let h = each_ran i d below in
      let t = takes i d (omega (arith, below, long, long')) in
      subst (λ (u : Unit). (u.number ≡ (slice_index_or olds i d).unit.number) × UnitFits image start u × (u.waits ≡ false) × (u.counts.steps ≤ budget) × HasEnded image start budget u → HasFinished image start budget (slice_index_or olds i d) (slice_index_or taken i d)) t.unit
      (λ a. record { pass = t.pass; number = a.0; fits = a.1; free = a.2; within = a.3; ended = a.4 })
      (h.same, h.fits, h.free, h.within, h.ended)

  pub ran_at_once : (k after : Known) (left : List ℕ) → k ≡ record (opening opened) { room = k.room } → k.room + length olds ≡ 2 ^ 63 → 0 < length olds → Gathers k (knowns news) after → Ends after left
      → RanAtOnce image start opened olds taken left
  ran_at_once k after left same room some gathers ends =
      let ran = all_ran image start budget words (opening opened).seen olds news (long' ∙ long) each_ran in
      let s : Section (DoesOwn image start) (opening opened) after (units_of olds) (units_of news) =
      sections (DoesOwn image start) (opening opened) k after ran.0 (knowns news) (units_of olds) (units_of news) same (omega (arith, room, length-map olds unit_in)) (omega (arith, some, length-map olds unit_in)) refl ran.1 gathers in
      let back : units_of taken ≡ units_of news = units_taken news taken long'' takes in
      record {
        history = after.seen;
        opened = s.opened;
        legal = s.legal;
        left_are = ends.words_are ∙ ap replay (ends.sole s.sole);
        numbers = s.numbers;
        distinct = s.distinct;
        runs = subst (λ (x : List accesses.Entry × List Unit). AllOwnRuns (DoesOwn image start) x.0 s.numbers (units_of olds) x.1) (λ j. (sym s.entries j, sym back j)) s.runs;
        only = subst (λ (es : List accesses.Entry). (e : accesses.Entry) → Contains es e → Contains s.numbers e.number) (sym s.entries) s.only;
      }

-- a worker that got its pass may run, and has a pass when it ran
pub ready_given : (image : Image) (start : Start) (budget : ℕ) (words : WordsId) (seen : History) (old new : Worker) → IsDue image start budget old.unit → IsGiven words seen old new → IsReady image start budget words new
ready_given image start budget words seen old new due given = record { unit = subst (λ (u : Unit). IsDue image start budget u) (sym given.unit) due; seen = seen; pass = given.pass }

pub pass_ran : (image : Image) (start : Start) (budget : ℕ) (words : WordsId) (seen : History) (first old new : Worker) → IsGiven words seen first old → HasWorked image start budget words old new → HasPass words new.pass
pass_ran image start budget words seen first old new given worked = let h = worked seen given.pass in subst (λ o. HasPass words o) (sym h.pass) h.of
