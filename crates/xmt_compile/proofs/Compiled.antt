-- The image of an accepted source implements its program.
use Rattle.std.proofs.Common.{◌≡◌, ◌∙◌, sym, ap, arith, ℕ, ◌+◌, ◌*◌, ◌≤◌, List, length, Ok, Err, All, true}
use Rattle.xmt_base.specs.Action.{Action}
use Rattle.source_meaning.specs.declared.tree.Program.{Program}
use Rattle.source_meaning.specs.Layout.{all_words, opening_words, HasRoom}
use Rattle.source_log.specs.Bounded.{IsBounded, HasBoundedTraces}
use Rattle.tree_measures.specs.Nodes.{program_nodes}
use Rattle.front_end.specs.declared.refusal.SourceRefusal.{SourceRefusal}
use Rattle.front_end.specs.declared.refusal.SourceRefusal.TheVariants.{Refused, NoMemory}
use Rattle.front_end.specs.Refused.{IsAccepted, IsRefusal, Breaks}
use Rattle.front_end.proofs.Accepted.{broken_has_none}
use Rattle.front_end.proofs.Checked.{accepted_checked}
use Rattle.checked_programs.specs.Checked.{HasLength}
use Rattle.checked_quads.proofs.Programs.{checked_programs_are_known}
use Rattle.lowered_quads.specs.Lowered.{IsLowered}
use Rattle.lowered_quads.specs.Law.{CanBeLowered}
use Rattle.lowered_quads.proofs.Symbols.{length_opening}
use Rattle.std.proofs.lemmas.List.Elements.{All-weaker}
use Rattle.xmt_isa.specs.declared.image.Image.{Image}
use Rattle.xmt_isa.specs.declared.image.Instr.{Instr}
use Rattle.xmt_isa.specs.Valid.{IsValid}
use Rattle.xmt_isa.specs.Traces as isa
use Rattle.xmt_quads.specs.declared.code.QuadProgram.{QuadProgram}
use Rattle.xmt_quads.specs.declared.homes.Home.{Home}
use Rattle.xmt_quads.specs.Allocation.{IsAllocationOf, HasOwnSlots}
use Rattle.xmt_quads.specs.Program.{weight_of}
use Rattle.xmt_quads.specs.Traces.{traces_of}
use Rattle.xmt_quads.specs.WellFormed.{IsWellFormed}
use Rattle.quad_code.specs.Whole as source
use Rattle.quad_images.specs.Image.{IsImageOf, slot_in}
use Rattle.quad_image_law.specs.Law as quads
use Rattle.quad_image_law.proofs.Traces.{paid_traces}
use Rattle.quad_image_limits.proofs.Located.{length_codes}
use Rattle.quad_image_limits.proofs.Valid.{sizes_weigh}
use Rattle.xmt_compile.specs.Implements.{OpensWith, Implements}
use Rattle.xmt_compile.specs.Compiles.{IsCompiled, Compiles}
use Rattle.xmt_compile.proofs.Implements.{traces_implement}
use Rattle.xmt_compile.proofs.PlainPrograms.{plain_program}

-- 40 and 24 are 64
both_paid : (trace : List Action) (instructions work steps : ℕ) → quads.IsPaid trace instructions work → source.IsPaid trace work steps → IsBounded trace instructions steps
both_paid trace instructions work steps first second =
    record {
      under_way = omega (arith, first.under_way, second.under_way);
      ended = λ is. omega (arith, first.ended is, second.ended is);
    }

module _ (program : Program) (lowered : QuadProgram) (homes : List (List Home)) (image : Image) (can : CanBeLowered program) (is : IsLowered program lowered) (of : IsImageOf lowered homes image) where
  opens : OpensWith image program
  opens = record { symbols = of.symbols ∙ is.code.symbols; words = of.words ∙ is.code.words; registers = of.ps ∙ is.ps }

  bounded : source.HasPaidTraces program (traces_of lowered) → quads.HasPaidTraces lowered (isa.traces_of image) → HasBoundedTraces program (isa.traces_of image)
  bounded paid more thread begin replies trace work main does =
      let q = more begin replies trace work does in
      let s = paid thread begin replies trace q.0 main q.1 in
      (s.0, s.1, both_paid trace work q.0 s.0 q.2 s.2)

  pub implements : IsWellFormed lowered → source.HasPaidTraces program (traces_of lowered) → IsAllocationOf lowered homes → All HasOwnSlots homes → IsValid image → Implements program image
  implements well paid allocation own valid =
      traces_implement program image is.inner valid opens (plain_program program is.inner (checked_programs_are_known program is.inner can.checked can.limits is.are_inner))
      (bounded paid (paid_traces lowered homes image well allocation own of))

pub few_instructions : (lowered : QuadProgram) (homes : List (List Home)) (image : Image) (nodes : ℕ) → IsImageOf lowered homes image → weight_of lowered ≤ 64 * nodes → length image.code ≤ 64 * nodes
few_instructions lowered homes image nodes of light =
    omega (arith, ap (λ (code : List Instr). length code) of.code, length_codes (slot_in homes) 0 0 lowered.functions, sizes_weigh lowered.functions, light)

pub compiled : (src : List ℕ) (program : Program) (image : Image) → IsAccepted src program → Implements program image → length image.code ≤ 64 * program_nodes program → IsCompiled src image
compiled src program image is implements few = record { program = program; is_program = is; implements = implements; few = few }

pub refused : (src : List ℕ) (refusal : SourceRefusal) → IsRefusal src refusal → Compiles src (Err refusal)
refused src (Refused kind place) broken = (broken, broken_has_none src kind place broken)
refused src NoMemory broken = tt

-- the globals open with as many words as they have
pub opening_size : (src : List ℕ) (program : Program) → IsAccepted src program → length (opening_words program.globals) ≡ all_words program.globals
opening_size src program is = length_opening program.globals (All-weaker HasLength HasRoom (λ g has. has.room) program.globals (accepted_checked src program is).lengths)
