use Rattle.std.proofs.Common.{ℕ, ◌+◌, ◌<◌, length}
use Rattle.xmt_isa.specs.Image.{start_of}
use Rattle.image_loader.proofs.targets.has_starts.Given as goal

abbrev pub invariant-loop-f : goal.invariant-loop-f
invariant-loop-f l = record {
  inside : (k : ℕ) → k < l.f → start_of l.image k < length l.image.code;
  rising : (k : ℕ) → k < l.f → k + 1 < length l.image.functions → start_of l.image k < start_of l.image (k + 1);
}
