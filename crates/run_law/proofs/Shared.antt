-- Each entry of a log is at a place that a word of the table is.
use Rattle.std.proofs.Common.{◌≡◌, refl, sym, ◌∙◌, ap, subst, ℕ, suc, zero, ◌<◌, ◌≤◌, ◌==◌, Bool, true, false, if◌then◌else◌, List, [], ◌∷◌, ◌++◌, arith}
use Rattle.std.specs.Prelude.{⊤}
use Rattle.xmt_base.specs.Action.{Shared, Action, Load, Store, Add, Print, Spawn, Trap, Ended, Start, Main, Block}
use Rattle.interleaving.specs.Actors.{Move, Rests, Alone, Acts, Entry, part_of, DoesThen, Does}
use Rattle.interleaving.specs.Starts.{start_of}
use Rattle.interleaving.proofs.Grows.{does_alone, does_act}
use Rattle.xmt_isa.specs.declared.image.Image.{Image}
use Rattle.xmt_isa.specs.declared.unit.Unit.{Unit}
use Rattle.xmt_isa.specs.declared.unit.UnitState.{UnitState}
use Rattle.xmt_isa.specs.declared.unit.UnitState.TheVariants.{Draws, Runs, Stopped, Halted}
use Rattle.xmt_isa.specs.declared.unit.Request.{Request}
use Rattle.xmt_isa.specs.declared.unit.Request.TheVariants as request
use Rattle.xmt_isa.specs.declared.unit.Next.{Next}
use Rattle.xmt_isa.specs.declared.unit.Next.TheVariants as next
use Rattle.xmt_isa.specs.Step.{next_of, local_of}
use Rattle.xmt_isa.specs.Picked.{is_live}
use Rattle.xmt_isa.specs.Places.{shared_at}
use Rattle.xmt_isa.specs.Threads.{Actor, action_of, move, move_by, move_alone, is_running}
use Rattle.xmt_isa.specs.Traces.{BeginsFrom}
use Rattle.machine_places.specs.Keeps.{IsShared, AsksForShared, KeepsToShared}
use Rattle.machine_log.specs.Log.{Log, World, IsLawful, after_entry, after_log, opening_world}
use Rattle.machine_log.specs.Done.{Parts, IsDone}
use Rattle.machine_log.proofs.Done.{threads_grow}
use Rattle.machine_log.proofs.Tracing.{begins_from}

module _ (image : Image) where
  abbrev pub IsSharedPlace : Shared → Type 0
  IsSharedPlace place = (word : ℕ) × IsShared image word × (place ≡ shared_at image word)

  abbrev pub IsSharedAction : Action → Type 0
  IsSharedAction (Load place) = IsSharedPlace place
  IsSharedAction (Store place value) = IsSharedPlace place
  IsSharedAction (Add place value) = IsSharedPlace place
  IsSharedAction (Print text) = ⊤
  IsSharedAction (Spawn site low high) = ⊤
  IsSharedAction (Trap kind line) = ⊤
  IsSharedAction Ended = ⊤

  -- each action is at such a place
  abbrev pub AreShared : Log → Type 0
  AreShared [] = ⊤
  AreShared (e ∷ log) = IsSharedAction e.action × AreShared log

  abbrev AsksThere : Actor → Type 0
  AsksThere a = a.unit.state ≡ Runs → (ask : Request) → next_of image a.start a.unit ≡ next.Ask ask → AsksForShared image ask

  -- ---- an actor by itself

  request_shared : (u : Unit) (ask : Request) → AsksForShared image ask → IsSharedAction (action_of image u ask)
  request_shared u (request.Load word) shared = (word, shared, refl)
  request_shared u (request.Store word value) shared = (word, shared, refl)
  request_shared u (request.Add word value) shared = (word, shared, refl)
  request_shared u (request.Print text) shared = tt
  request_shared u (request.Spawn ask) shared = tt
  request_shared u request.Draw shared = tt

  abbrev SharedMove : Move Actor Action → Type 0
  SharedMove Rests = ⊤
  SharedMove (Alone s) = ⊤
  SharedMove (Acts action left) = IsSharedAction action

  move_shared : (a : Actor) → AsksThere a → SharedMove (move image a)
  move_shared a asks = by_state a.unit.state refl
    where
      alone : (b : Bool) → SharedMove (move_alone image a b)
      alone true = tt
      alone false = tt

      by_next : a.unit.state ≡ Runs → (n : Next) → next_of image a.start a.unit ≡ n → SharedMove (move_by image a n)
      by_next runs next.Local is = alone (is_live (local_of image a.start a.unit).state)
      by_next runs (next.Trap kind) is = tt
      by_next runs (next.Ask ask) is = request_shared a.unit ask (asks runs ask is)

      by_state : (state : UnitState) → a.unit.state ≡ state → SharedMove (if is_running state then move_by image a (next_of image a.start a.unit) else Rests)
      by_state Draws is = tt
      by_state Runs is = by_next is (next_of image a.start a.unit) refl
      by_state Stopped is = tt
      by_state Halted is = tt

  -- what it does from a start, behind which it asks for words of the table alone
  part_shared : (start : Actor) → ((steps : ℕ) (part : Log) (a : Actor) → Does (move image) steps start part a → AsksThere a) →
      (n m : ℕ) (before part : Log) (a b : Actor) → Does (move image) m start before a → Does (move image) n a part b → AreShared part
  part_shared start asks zero m before part a b so_far does = subst AreShared (sym does.0) tt
  part_shared start asks (suc n) m before part a b so_far does =
      by_move (move image a) refl part (move_shared a (asks m before a so_far)) does (λ first rest s to go_on. part_shared start asks n (suc m) first rest s b to go_on)
    where
      by_move : (x : Move Actor Action) → move image a ≡ x → (part : Log) → SharedMove x → DoesThen (Does (move image) n) x part b →
          ((first rest : Log) (s : Actor) → Does (move image) (suc m) start first s → Does (move image) n s rest b → AreShared rest) → AreShared part
      by_move Rests is part shared h go = absurd h
      by_move (Alone s) is part shared h go = go before part s (does_alone (move image) m start before a s so_far is) h
      by_move (Acts action left) is [] shared h go = absurd h
      by_move (Acts action left) is (e ∷ part) shared h go =
          (subst IsSharedAction (sym h.0) shared, go (before ++ (e ∷ [])) part (left e.reply) (does_act (move image) m start before a e left so_far (is ∙ ap (λ x. Acts x left) (sym h.0))) h.1)

  asks_from : KeepsToShared image → (begin : Start) (start : Actor) → BeginsFrom image begin start → (steps : ℕ) (part : Log) (a : Actor) → Does (move image) steps start part a → AsksThere a
  asks_from keeps Main start begins steps part a does = keeps.serial steps part a (subst (λ x. Does (move image) steps x part a) begins does)
  asks_from keeps (Block before replies number) start (behind, serial, ask, k, comes, told, done, inside, is_number, begins) steps part a does = keeps.virtual behind serial ask comes k start begins steps part a does

  -- ---- all actors

  first_shared : (e : Entry Action) (log : Log) → AreShared (part_of e.actor (e ∷ log)) → IsSharedAction e.action
  first_shared e log h = by_test (e.actor == e.actor) (let same : (e.actor == e.actor) ≡ true = grind arith in same) h
    where
      by_test : (b : Bool) → b ≡ true → AreShared (if b then e ∷ part_of e.actor log else part_of e.actor log) → IsSharedAction e.action
      by_test true is h = h.0
      by_test false is h = cc

  rest_shared : (t : ℕ) (e : Entry Action) (log : Log) → AreShared (part_of t (e ∷ log)) → AreShared (part_of t log)
  rest_shared t e log h = by_test (t == e.actor) h
    where
      by_test : (b : Bool) → AreShared (if b then e ∷ part_of t log else part_of t log) → AreShared (part_of t log)
      by_test true h = h.1
      by_test false h = h

  all_shared : (log : Log) (w : World) (count : ℕ) → IsLawful image w log → (after_log image w log).threads ≤ count → ((t : ℕ) → t < count → AreShared (part_of t log)) → AreShared log
  all_shared [] w count lawful below each = tt
  all_shared (e ∷ log) w count lawful below each = (
    first_shared e log (each e.actor (let there : e.actor < w.threads = lawful.0.0.0 in let grows : w.threads ≤ (after_log image w (e ∷ log)).threads = threads_grow image w (e ∷ log) in omega (arith, there, grows, below))),
    all_shared log (after_entry image w e) count lawful.1 below (λ t less. rest_shared t e log (each t less)),
  )

  pub log_shared : KeepsToShared image → (memory : List ℕ) (log : Log) (p : Parts) → IsDone image memory log p → AreShared log
  log_shared keeps memory log p done =
      all_shared log (opening_world image memory) (after_log image (opening_world image memory) log).threads done.lawful (omega arith)
      (λ t less. part_shared (p.starts t) (asks_from keeps (start_of log t) (p.starts t) (begins_from image memory log p done t less)) (p.steps t) 0 [] (part_of t log) (p.starts t) (p.ends t) (refl, refl) (done.does t))
