use Rattle.std.proofs.Common.{sym, subst, Bool}
use Rattle.std.specs.Prelude.{bit_or}
use Rattle.std.proofs.Common.{◌*◌, ◌^◌, ◌%◌}
use Rattle.broadcast.specs.Positions.{IsWith}
use Rattle.broadcast.proofs.Bits.{with_live}
use Rattle.broadcast.proofs.positions.with.Goals as goal

pub returns-then-live : goal.returns-then-live
returns-then-live c =
    subst (λ (live : Bool). IsWith live c.args.register c.args.mask (bit_or c.args.mask (1 * 2 ^ c.from.result % 2 ^ 32))) (sym c.if-live.true)
    (with_live c.args.mask c.args.register c.from.result c.requires c.from.ensures)
