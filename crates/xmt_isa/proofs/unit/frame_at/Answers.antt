use Rattle.std.proofs.Common.{◌≡◌, ◌+◌, ◌-◌, ◌*◌, ℕ, take, drop, ap, arith}
use Rattle.xmt_isa.proofs.unit.frame_at.Goals as goal

pub returns : goal.returns
returns c =
    let size : 512 * c.args.depth + 512 - 512 * c.args.depth ≡ 512 = omega arith in
    ap (λ (n : ℕ). take n (drop (512 * c.args.depth) c.args.frames.now)) size
