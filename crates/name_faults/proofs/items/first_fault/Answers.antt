use Rattle.std.proofs.Common.{◌≡◌, rules}
use Rattle.name_scopes.specs.Fault.{first}
use Rattle.name_scopes.proofs.First.{first_of}
use Rattle.name_faults.specs.Items as spec
use Rattle.name_faults.proofs.items.first_fault.Goals as goal

pub returns-clause-first : goal.returns-clause-first
returns-clause-first c =
    let is : c.earlier-3.result ≡ first (spec.program_faults c.args.raw.now) = search rules in
    first_of (spec.program_faults c.args.raw.now) c.earlier-3.result is
