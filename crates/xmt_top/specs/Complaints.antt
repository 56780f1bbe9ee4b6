-- What is complained of on the error stream, where the host tells it.
use Rattle.std.specs.Prelude.{◌⊎◌, ℕ, List}
use Rattle.xmt_host.specs.Host.{Rose}
use Rattle.xmt_host.specs.Told.{Told}
use Rattle.xmt_jobs.specs.Written.{Writes, WritesPart}

-- the line was written; where the host failed in the call, it may be a prefix of the line
abbrev pub Complains : (line : List ℕ) → (before now : Told) → Type 0
Complains line before now = Writes line before.err now.err ⊎ (Rose before.faults now.faults × WritesPart line before.err now.err)
