-- `tables::size::ancestor` meets its contract: a number below 2 ^ 64 has no digits past the sixty-fourth.
-- Assumes nothing.
use mathlib.Core.Path.{sym}
use native.Mathlib.Nat.{div-eq_of_lt, lt_of_lt_of_le}
use lib.Pow.{pow_mono}
use Rattle.tables.proofs.size.ancestor.Goals as goal

pub returns-then-levels-gt63 : goal.returns-then-levels-gt63
returns-then-levels-gt63 c = sym (div-eq_of_lt (lt_of_lt_of_le c.ranges.x.fits (pow_mono c.if-levels-gt63.true)))
