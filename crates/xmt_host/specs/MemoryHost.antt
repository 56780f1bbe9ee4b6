-- What a host in memory tells, and what its calls count.
use Rattle.std.specs.Prelude.{◌≡◌, ◌==◌, ◌+◌, ◌≤◌, length, Bool, true, false, IsTrue, ◌↔◌, slice_index, slice_set, Result, Some, Err}
use Rattle.xmt_base.specs.Counters.{capped}
use Rattle.xmt_host.specs.declared.host.HostFault.{HostFault}
use Rattle.xmt_host.specs.declared.host.HostFault.TheVariants.{Failed}
use Rattle.xmt_base.specs.Counters.{capped}
use Rattle.xmt_host.specs.declared.memory_host.HostCall.{HostCall}
use Rattle.xmt_host.specs.FileMaps.{file_map}
use Rattle.xmt_host.specs.HostCalls.{place_of, IsListed}
use Rattle.xmt_host.specs.Told.{Told}
use Rattle.xmt_host.specs.declared.memory_host.MemoryHost.{MemoryHost}

-- what the host tells: it is steady where no call is to fail
abbrev pub told : MemoryHost → Told
told host = record {
  files = Some (file_map host.files);
  out = Some host.out.items;
  err = Some host.err.items;
  faults = host.faults;
  taken = host.taken;
  steady = length host.failing.items == 0;
}

-- a call of this kind is counted, and fails exactly where it is listed, which counts a fault; all else stays
pub record Counts (call : HostCall) (failed : Bool) (old new : MemoryHost) : Type 0 where
  pub listed : IsTrue failed ↔ IsListed old.failing.items call (slice_index old.calls (place_of call))
  pub counted : new.calls ≡ slice_set old.calls (place_of call) (capped (slice_index old.calls (place_of call) + 1))
  pub later : old.faults ≤ new.faults
  pub rose : failed ≡ true → new.faults ≡ capped (old.faults + 1)
  pub passed : failed ≡ false → new.faults ≡ old.faults
  pub others : new ≡ record old { calls = new.calls; faults = new.faults }

-- one call of this kind: it is counted, it fails where it is listed, and the list stays
pub record IsCall {T : Type 0} (call : HostCall) (result : Result T HostFault) (old new : MemoryHost) : Type 0 where
  pub counted : new.calls ≡ slice_set old.calls (place_of call) (capped (slice_index old.calls (place_of call) + 1))
  pub listed : IsListed old.failing.items call (slice_index old.calls (place_of call)) → result ≡ Err Failed
  pub failing : new.failing ≡ old.failing
