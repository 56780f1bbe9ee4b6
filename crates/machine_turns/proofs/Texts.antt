-- Texts that are printed.
use Rattle.std.proofs.Common.{◌≡◌, ◌∙◌, sym, ap, subst, ℕ, ◌<◌, ◌≤◌, List, length, false, get_or, Some, slice_get, Ok, Err, Result, IfOk, arith}
use Rattle.std.proofs.lemmas.Option.{slice_get-get_or}
use Rattle.xmt_base.specs.Format.{directives}
use Rattle.xmt_isa.specs.declared.image.Image.{Image}
use Rattle.xmt_isa.specs.declared.unit.Start.{Start}
use Rattle.xmt_isa.specs.declared.unit.Request.TheVariants as request
use Rattle.xmt_isa.specs.declared.unit.Next.TheVariants as next
use Rattle.xmt_isa.specs.Machine.{text_of}
use Rattle.xmt_isa.specs.Valid.{IsValid}
use Rattle.tcu_engine.specs.declared.ask.Ask.{Ask}
use Rattle.tcu_engine.specs.declared.ask.Ask.TheVariants as ask
use Rattle.unit_steps.specs.Steps.{DoesNext}
use Rattle.machine_turns.specs.declared.seats.Seat.{Seat}
use Rattle.machine_turns.specs.Seats.{Means}
use Rattle.machine_turns.specs.Kept.{MayGo}
use Rattle.unit_steps.proofs.Keeps.{keeps_fit}

pub there_at : {A : Type 0} (xs : List A) (k : ℕ) (x : A) → k < length xs → x ≡ get_or xs k x → slice_get xs k ≡ Some x
there_at xs k x inside is = slice_get-get_or xs k x inside ∙ ap (λ y. Some y) (sym is)

pub ok_more : {A E : Type 0} (r : Result A E) (P Q : A → Type 0) → ((x : A) → P x → Q x) → IfOk r P → IfOk r Q
ok_more (Ok x) P Q further holds = further x holds
ok_more (Err e) P Q further holds = tt

-- the text is there, and so are its values
pub prints_there : (image : Image) (start : Start) (budget text : ℕ) (s : Seat) → IsValid image → MayGo image start budget s → s.ask ≡ ask.Print text → (text < length image.texts) × (directives false (text_of image text) ≤ length s.unit.list)
prints_there image start budget text s valid may prints =
    let does : DoesNext image start budget s.unit (next.Ask (request.Print text)) = subst (λ (a : Ask). Means image start budget s.unit a) prints may.tells.means in
    let there = (keeps_fit image valid).there start s.unit (request.Print text) may.has_start may.tells.fits does.live does.next in
    let few : directives false (text_of image text) ≤ 16 = there.1 in
    let room : length s.unit.list ≡ 16 = may.tells.fits.room.list in
    (there.0, omega (arith, few, room))
