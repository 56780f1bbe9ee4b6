-- What one unit does, looked at by itself: its own instructions, its requests, and what it makes of their replies.
use Rattle.std.specs.Prelude.{◌≡◌, ℕ, zero, suc, ◌%◌, ◌^◌, ◌<◌, ◌==◌, ◌&&◌, if◌then◌else◌, Bool, true, false, slice_index}
use Rattle.xmt_base.specs.declared.values.Trap.{Trap}
use Rattle.xmt_isa.specs.declared.image.Image.{Image}
use Rattle.xmt_isa.specs.declared.unit.Unit.{Unit}
use Rattle.xmt_isa.specs.declared.unit.UnitState.TheVariants.{Runs}
use Rattle.xmt_isa.specs.declared.unit.Start.{Start}
use Rattle.xmt_isa.specs.declared.unit.Request.{Request}
use Rattle.xmt_isa.specs.declared.unit.Request.TheVariants.{Load, Store, Add, Draw, Print, Spawn}
use Rattle.xmt_isa.specs.declared.unit.Next.{Next}
use Rattle.xmt_isa.specs.declared.unit.Next.TheVariants as next
use Rattle.xmt_isa.specs.Image.{start_of}
use Rattle.xmt_isa.specs.Step.{more, is_due, next_of, local_of, draws, answer_of}
use Rattle.xmt_isa.specs.Machine.{behind_join}
use Rattle.xmt_isa.specs.Picked.{is_live}

-- the master that is due to begin
abbrev pub is_new_master : Unit → Bool
is_new_master u = (u.number == 0) && is_due u.state

-- a master that is due to begin stands at the beginning of the main function
abbrev pub begun : Image → Unit → Unit
begun image u = if is_new_master u then record u { state = Runs; at = start_of image image.entry; depth = 0 } else u

-- a unit that has neither stopped nor halted, with steps below the budget, does this next
pub record DoesNext (image : Image) (start : Start) (budget : ℕ) (u : Unit) (n : Next) : Type 0 where
  pub live : is_live u.state ≡ true
  pub below : u.counts.steps < budget
  pub next : next_of image start u ≡ n

-- it has done as many steps as the budget
pub record HasSpent (budget : ℕ) (u : Unit) : Type 0 where
  pub live : is_live u.state ≡ true
  pub steps : u.counts.steps ≡ budget

-- its next instruction traps
pub record StandsAtTrap (image : Image) (start : Start) (u : Unit) (trap : Trap) : Type 0 where
  pub live : is_live u.state ≡ true
  pub kind : next_of image start u ≡ next.Trap trap.kind
  pub line : trap.line ≡ slice_index image.lines u.at
  pub thread : trap.thread ≡ u.thread

-- so many of a unit's own instructions, one after the other, each with steps below the budget
abbrev pub RunsAlone : Image → Start → (budget count : ℕ) → Unit → Unit → Type 0
RunsAlone image start budget zero u v = v ≡ u
RunsAlone image start budget (suc n) u v = DoesNext image start budget u next.Local × RunsAlone image start budget n (local_of image start u) v

-- the master behind its spawn, whose threads have all ended
abbrev pub behind_spawn : Image → (block : ℕ) → Unit → Unit
behind_spawn image block u = record u { waits = false; at = behind_join image block; counts = record u.counts { steps = more u.counts.steps } }

-- A unit behind its request, which counts one step. The reply of a load or an add is taken as 32 bits, that of a draw is the number that was drawn.
abbrev pub replied : Image → Start → Unit → (reply : ℕ) → Request → Unit
replied image start u reply (Spawn ask) = behind_spawn image ask.at u
replied image start u reply Draw = record (draws start u reply) { waits = false }
replied image start u reply (Load word) = record (answer_of image start u (reply % 2 ^ 32)) { waits = false }
replied image start u reply (Store word value) = record (answer_of image start u (reply % 2 ^ 32)) { waits = false }
replied image start u reply (Add word value) = record (answer_of image start u (reply % 2 ^ 32)) { waits = false }
replied image start u reply (Print text) = record (answer_of image start u (reply % 2 ^ 32)) { waits = false }

abbrev pub replied_at : Image → Start → Unit → (reply : ℕ) → Next → Unit
replied_at image start u reply next.Local = u
replied_at image start u reply (next.Trap kind) = u
replied_at image start u reply (next.Ask request) = replied image start u reply request

-- a unit that waits, behind the request at which it stands
abbrev pub answered : Image → Start → Unit → (reply : ℕ) → Unit
answered image start u reply = replied_at image start u reply (next_of image start u)
