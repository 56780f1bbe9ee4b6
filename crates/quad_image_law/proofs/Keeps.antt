-- A thread of an image keeps to a thread of quads: whatever it does, the quads do, and their work pays for its instructions.
use Rattle.std.proofs.Common.{◌≡◌, refl, sym, subst, arith, ℕ, suc, zero, ◌+◌, ◌<◌, ◌≤◌, List, [], ◌∷◌, false}
use Rattle.xmt_base.specs.Action.{Action}
use Rattle.interleaving.specs.Actors.{Move, Rests, Alone, Acts, Entry, DoesThen, Does}
use Rattle.xmt_isa.specs.declared.image.Image.{Image}
use Rattle.xmt_isa.specs.Threads.{Actor, is_running}
use Rattle.xmt_isa.specs.Threads as isa
use Rattle.xmt_quads.specs.declared.code.QuadProgram.{QuadProgram}
use Rattle.xmt_quads.specs.Meaning.{Registers, QuadThread, cost}
use Rattle.xmt_quads.specs.Meaning as quads
use Rattle.xmt_quads.specs.Traces.{DoesWith}

abbrev pub Log : Type 0
Log = List (Entry Action)

abbrev pub IsOver : Actor → Type 0
IsOver a = is_running a.unit.state ≡ false

-- the same thread, where its calls to come find these registers
abbrev pub with_found : QuadThread → (ℕ → Registers) → QuadThread
with_found t found = record t { found = found }

module _ (program : QuadProgram) (image : Image) (Stands : Actor → QuadThread → Type 0) where
  -- What the image did in so many instructions, the quads do from here, for some registers that their calls find. Their work and the credit pay for the instructions; at the end of the thread, 24 of the credit are left over.
  pub record Matched (instructions : ℕ) (part : Log) (there : Actor) (t : QuadThread) (credit : ℕ) : Type 0 where
    pub found : ℕ → Registers
    pub steps : ℕ
    pub work : ℕ
    pub end : QuadThread
    pub does : DoesWith (quads.move program) (cost program) steps (with_found t found) part end work
    pub pays : instructions ≤ work + credit
    pub ended : IsOver there → instructions + 24 ≤ work + credit
    pub stands : Stands there end

  -- so it is for each run of the image of fewer instructions than these
  pub record Keeps (n credit : ℕ) (a : Actor) (t : QuadThread) : Type 0 where
    pub by : (m : ℕ) → m < n → (part : Log) (there : Actor) → Does (isa.move image) m a part there → Matched m part there t credit

  -- what the image does behind its next instruction
  abbrev pub Behind : (m : ℕ) → Move Actor Action → Log → Actor → Type 0
  Behind m moved part there = DoesThen (Does (isa.move image) m) moved part there

  -- a run of no instruction
  no_step : (credit : ℕ) (a : Actor) (t : QuadThread) (part : Log) (there : Actor) → (part ≡ []) × (there ≡ a) → (IsOver a → 24 ≤ credit) → Stands a t → Matched 0 part there t credit
  no_step credit a t part there here ended stands =
      subst (λ part. Matched 0 part there t credit) (sym here.0)
      (subst (λ there. Matched 0 [] there t credit) (sym here.1)
      (record { found = t.found; steps = 0; work = 0; end = t; does = (refl, refl, refl); pays = omega arith; ended = λ over. omega (arith, ended over); stands = stands }))

  -- the image has no step here
  pub keeps_still : (n credit : ℕ) (a : Actor) (t : QuadThread) → isa.move image a ≡ Rests → (IsOver a → 24 ≤ credit) → Stands a t → Keeps n credit a t
  keeps_still n credit a t still ended stands = record { by = still_by }
    where
      never : (m : ℕ) (part : Log) (there : Actor) → Behind m (isa.move image a) part there → ⊥
      never m part there h = subst (λ x. Behind m x part there) still h

      still_by : (m : ℕ) → m < n → (part : Log) (there : Actor) → Does (isa.move image) m a part there → Matched m part there t credit
      still_by zero le part there h = no_step credit a t part there h ended stands
      still_by (suc m) le part there h = absurd (never m part there h)

  -- nothing is to be shown of fewer instructions than none
  pub keeps_zero : (credit : ℕ) (a : Actor) (t : QuadThread) → Keeps 0 credit a t
  keeps_zero credit a t = record { by = λ m less part there h. absurd (never m less) }
    where
      never : (m : ℕ) → m < 0 → ⊥
      never m less = omega (arith, less)

  -- no step of the image, or one behind which the rest keeps to the quads
  keeps_step : (n credit : ℕ) (a : Actor) (t : QuadThread) → (IsOver a → ⊥) → Stands a t →
      ((m : ℕ) → m < n → (part : Log) (there : Actor) → Behind m (isa.move image a) part there → Matched (suc m) part there t credit) → Keeps (suc n) credit a t
  keeps_step n credit a t lives stands go = record { by = step_by }
    where
      step_by : (m : ℕ) → m < suc n → (part : Log) (there : Actor) → Does (isa.move image) m a part there → Matched m part there t credit
      step_by zero le part there h = no_step credit a t part there h (λ over. absurd (lives over)) stands
      step_by (suc m) le part there h = go m (omega (arith, le)) part there h

  -- an instruction that nobody sees, which the credit pays
  pub keeps_alone : (n credit left : ℕ) (a a' : Actor) (t : QuadThread) → (IsOver a → ⊥) → Stands a t → isa.move image a ≡ Alone a' → left + 1 ≤ credit → Keeps n left a' t → Keeps (suc n) credit a t
  keeps_alone n credit left a a' t lives stands moves pays k =
      keeps_step n credit a t lives stands
      (λ m le part there h.
      let x = k.by m le part there (subst (λ x. Behind m x part there) moves h) in
      record { found = x.found; steps = x.steps; work = x.work; end = x.end; does = x.does; pays = omega (arith, x.pays, pays); ended = λ over. omega (arith, x.ended over, pays); stands = x.stands })

  -- an instruction beside a quad, which nobody sees; what later calls find tells what those from here on find
  pub keeps_beside : (n credit left : ℕ) (a a' : Actor) (t t' : QuadThread) (earlier : (ℕ → Registers) → ℕ → Registers) → (IsOver a → ⊥) → Stands a t → isa.move image a ≡ Alone a' →
      ((found : ℕ → Registers) → quads.move program (with_found t (earlier found)) ≡ Alone (with_found t' found)) → left + 1 ≤ credit + cost program t → Keeps n left a' t' → Keeps (suc n) credit a t
  keeps_beside n credit left a a' t t' earlier lives stands moves goes pays k =
      keeps_step n credit a t lives stands
      (λ m le part there h.
      let x = k.by m le part there (subst (λ x. Behind m x part there) moves h) in
      record {
        found = earlier x.found;
        steps = suc x.steps;
        work = cost program t + x.work;
        end = x.end;
        does = (x.work, refl, subst (λ moved. DoesThen (λ s part end. DoesWith (quads.move program) (cost program) x.steps s part end x.work) moved part x.end) (sym (goes x.found)) x.does);
        pays = omega (arith, x.pays, pays);
        ended = λ over. omega (arith, x.ended over, pays);
        stands = x.stands;
      })

  -- an action of both
  pub keeps_acts : (n credit left : ℕ) (a : Actor) (t : QuadThread) (action : Action) (goes : ℕ → Actor) (leads : ℕ → QuadThread) → (IsOver a → ⊥) → Stands a t → isa.move image a ≡ Acts action goes →
      ((found : ℕ → Registers) → quads.move program (with_found t found) ≡ Acts action (λ reply. with_found (leads reply) found)) → left + 1 ≤ credit + cost program t → ((reply : ℕ) → Keeps n left (goes reply) (leads reply)) → Keeps (suc n) credit a t
  keeps_acts n credit left a t action goes leads lives stands moves acts pays k =
      keeps_step n credit a t lives stands (λ m le part there h. by_part m le part there (subst (λ x. Behind m x part there) moves h))
    where
      by_part : (m : ℕ) → m < n → (part : Log) (there : Actor) → Behind m (Acts action goes) part there → Matched (suc m) part there t credit
      by_part m le [] there h = absurd h
      by_part m le (e ∷ part) there h =
          let x = (k e.reply).by m le part there h.1 in
          record {
            found = x.found;
            steps = suc x.steps;
            work = cost program t + x.work;
            end = x.end;
            does = (x.work, refl, subst (λ moved. DoesThen (λ s part end. DoesWith (quads.move program) (cost program) x.steps s part end x.work) moved (e ∷ part) x.end) (sym (acts x.found)) (h.0, x.does));
            pays = omega (arith, x.pays, pays);
            ended = λ over. omega (arith, x.ended over, pays);
            stands = x.stands;
          }

  -- fewer steps, and more credit
  pub keeps_less : (n m credit more : ℕ) (a : Actor) (t : QuadThread) → m ≤ n → credit ≤ more → Keeps n credit a t → Keeps m more a t
  keeps_less n m credit more a t le rich k =
      record {
        by = λ i fits part there h.
            let x = k.by i (omega (arith, fits, le)) part there h in
            record { found = x.found; steps = x.steps; work = x.work; end = x.end; does = x.does; pays = omega (arith, x.pays, rich); ended = λ over. omega (arith, x.ended over, rich); stands = x.stands };
      }
