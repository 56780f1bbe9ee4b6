-- What follows for the quads to which a program is lowered.
use Rattle.std.proofs.Common.{◌*◌, ◌≤◌, Result, Ok, Err}
use Rattle.std.specs.Prelude.{IfOk}
use Rattle.source_meaning.specs.declared.tree.Program.{Program}
use Rattle.tree_measures.specs.Nodes.{program_nodes}
use Rattle.checked_quads.proofs.Programs.{checked_programs_are_known}
use Rattle.xmt_quads.specs.declared.code.QuadProgram.{QuadProgram}
use Rattle.xmt_quads.specs.Program.{weight_of}
use Rattle.xmt_quads.specs.Traces.{traces_of}
use Rattle.xmt_quads.specs.WellFormed.{IsWellFormed}
use Rattle.quad_code.specs.Whole.{IsKnown, IsCodeOf, HasPaidTraces}
use Rattle.quad_code.proofs.InProgram.{stands_there, room_there}
use Rattle.quad_code.proofs.Traces.{paid_traces}
use Rattle.quad_limits.proofs.StatementWeights.{quads_are_light}
use Rattle.lowered_quads.specs.Lowered.{IsLowered}
use Rattle.lowered_quads.specs.Law.{CanBeLowered}
use Rattle.lowered_quads.proofs.WellFormed.{lowered_programs_are_well_formed}

pub are_well_formed : {E : Type 0} (program : Program) (made : Result QuadProgram E) → CanBeLowered program → IfOk made (IsLowered program) → IfOk made IsWellFormed
are_well_formed program (Ok quads) can is = lowered_programs_are_well_formed program quads can is
are_well_formed program (Err e) can is = tt

pub have_traces : {E : Type 0} (program : Program) (made : Result QuadProgram E) → CanBeLowered program → IfOk made (IsLowered program) → IfOk made (λ quads. HasPaidTraces program (traces_of quads))
have_traces program (Ok quads) can is =
    let known : IsKnown program is.inner = checked_programs_are_known program is.inner can.checked can.limits is.are_inner in
    let code : IsCodeOf program quads = is.code in
    paid_traces program is.inner quads known (stands_there program is.inner known quads code) (room_there program is.inner known quads code) code.main
have_traces program (Err e) can is = tt

pub are_light : {E : Type 0} (program : Program) (made : Result QuadProgram E) → CanBeLowered program → IfOk made (IsLowered program) → IfOk made (λ quads. weight_of quads ≤ 64 * program_nodes program)
are_light program (Ok quads) can is = quads_are_light program quads is.code
are_light program (Err e) can is = tt
