-- A unit that has asked waits.
use Rattle.std.proofs.Common.{◌≡◌, ℕ, ◌≤◌, Bool, true, false, refl, sym, ap, subst, ◌∙◌}
use Rattle.xmt_isa.specs.declared.image.Image.{Image}
use Rattle.xmt_isa.specs.declared.unit.Unit.{Unit}
use Rattle.xmt_isa.specs.declared.unit.Start.{Start}
use Rattle.xmt_isa.specs.declared.unit.Request.{Request}
use Rattle.xmt_isa.specs.Valid.{IsValid}
use Rattle.xmt_isa.specs.Fits.{UnitFits}
use Rattle.unit_steps.specs.Steps.{begun, is_new_master, RunsAlone}
use Rattle.unit_steps.specs.Keeps.{HasStart, IsThere}
use Rattle.tcu_engine.specs.declared.ask.Ask.{Ask}
use Rattle.tcu_engine.specs.Asks.{ask_of, is_request, HasAdvanced}
use Rattle.tcu_engine.specs.Looks.{is_at, HasRun}
use Rattle.unit_steps.proofs.Keeps.{keeps_fit}
use Rattle.tcu_engine.proofs.Looks.{Found, halted, stopped, spent, alone, traps, asks, found, request_waits, asks_when}

-- the unit as it is, or as it waits
abbrev pub waits_by : Unit → Bool → Unit
waits_by u waits = record u { waits = waits }

-- a unit that doesn't wait is the unit itself
free_unit : (u : Unit) (w : Bool) → u.waits ≡ false → w ≡ false → u ≡ waits_by u w
free_unit u w free is = ap (λ (b : Bool). waits_by u b) (free ∙ sym is)

module _ (image : Image) (start : Start) (budget : ℕ) (u : Unit) (a : Ask) (w : Bool) where
  module _ (valid : IsValid image) (fits : UnitFits image start u) (free : u.waits ≡ false) (begins : is_new_master u ≡ false) (is : w ≡ is_request a) where
    still : is_request a ≡ false → UnitFits image start (waits_by u w)
    still none = subst (λ (v : Unit). UnitFits image start v) (free_unit u w free (is ∙ none)) fits

    by_found : Found image start budget u a → UnitFits image start (waits_by u w)
    by_found (halted p h) = still (ap is_request p)
    by_found (stopped p h) = still (ap is_request p)
    by_found (spent p h) = still (ap is_request p)
    by_found (alone p h) = still (ap is_request p)
    by_found (traps kind p h) = still (ap is_request p)
    by_found (asks asked p h) =
        let waits : true ≡ w = sym (is ∙ ap is_request p ∙ request_waits asked) in
        subst (λ (b : Bool). UnitFits image start (waits_by u b)) waits ((keeps_fit image valid).ask start u asked fits h.live begins h.next)

    -- it fits
    pub fits_waiting : a ≡ is_at image start budget u → u.counts.steps ≤ budget → UnitFits image start (waits_by u w)
    fits_waiting same within = by_found (found image start budget u a same within)

  -- what it asks for is there
  pub there_when : IsValid image → UnitFits image start u → HasStart image start u → a ≡ is_at image start budget u → u.counts.steps ≤ budget
      → (asked : Request) → a ≡ ask_of asked → IsThere image asked
  there_when valid fits has same within asked q =
      let does = (asks_when image start budget u a same within asked).0 q in (keeps_fit image valid).there start u asked has fits does.live does.next

  -- what it has done
  pub advanced_by : (most : ℕ) (old first : Unit) → u.waits ≡ false → first ≡ begun image old → HasRun image start budget most first u a → HasAdvanced image start budget most old (waits_by u w) a
  advanced_by most old first free began ran = record {
    count = ran.count;
    few = ran.few;
    alone = subst (λ (v : Unit). RunsAlone image start budget ran.count (begun image old) v) (free_unit u false free refl) (subst (λ (v : Unit). RunsAlone image start budget ran.count v u) began ran.alone);
    pause = ran.pause;
  }

-- a master that is due to begin fits when it has begun
pub fits_begun : (image : Image) (start : Start) (old first : Unit) → IsValid image → UnitFits image start old → old.waits ≡ false → first ≡ begun image old → UnitFits image start first
fits_begun image start old first valid fits free began = subst (λ (v : Unit). UnitFits image start v) (sym began) ((keeps_fit image valid).begin start old fits free)
