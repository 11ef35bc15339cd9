-- `records::is_above` meets its contract: the node above y that has as many binary digits as x is x, or none is.
-- Assumes nothing.
use Prim.Native.Nat.{◌/◌}
use native.Mathlib.Omega.{arith}
use lib.Count.{leading_le}
use Rattle.records.proofs.Zeros.{half_zeros}
use Rattle.records.proofs.Paths.{above_drop}
use Rattle.records.proofs.is_above.Goals as goal

pub overflow_add-up : goal.overflow_add-up
overflow_add-up c = omega (arith, leading_le 64 c.args.x)

pub overflow_sub-up : goal.overflow_sub-up
overflow_sub-up c = omega (arith, half_zeros c.args.y c.requires c.ranges.y.fits, leading_le 64 (c.args.y / 2))

pub returns : goal.returns
returns c = rw c.from.ensures (above_drop _ _ _ c.requires c.ranges.y.fits c.ranges.x.fits)
