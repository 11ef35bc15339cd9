-- The zeros in front of a number's 64 binary digits: a smaller number has no fewer, and a half has one more.
-- Assumes nothing.
use mathlib.Core.Path.{◌≡◌, sym}
use Prim.Native.Nat.{ℕ, zero, suc, ◌/◌, ◌^◌, ◌≤◌, ◌<◌}
use native.Mathlib.Nat.{le_refl, not-suc-le-zero}
use native.Mathlib.Omega.{arith}
use lib.Count.{count_leading_zeros, leading_le, leading_length, leading_unique}

pub fewer_zeros : (k y x : ℕ) → x ≤ y → count_leading_zeros k y ≤ count_leading_zeros k x
unfolding count_leading_zeros
fewer_zeros zero y x h = le_refl 0
fewer_zeros (suc k) y zero h = leading_le (suc k) y
fewer_zeros (suc k) zero (suc x) h = absurd (not-suc-le-zero h)
fewer_zeros (suc k) (suc y) (suc x) h = fewer_zeros k (suc y / 2) (suc x / 2) (omega arith)

-- the same number among one digit more
more_places : (k y : ℕ) → y < 2 ^ k → count_leading_zeros (suc k) y ≡ suc (count_leading_zeros k y)
more_places k y fits =
    let l = leading_length k y fits in sym (leading_unique (suc k) y (suc (count_leading_zeros k y)) l.0 (omega (arith, l.1)) l.2 l.3)

pub half_zeros : (y : ℕ) → 1 ≤ y → y < 2 ^ 64 → count_leading_zeros 64 (y / 2) ≡ suc (count_leading_zeros 64 y)
unfolding count_leading_zeros
half_zeros zero low fits = absurd (not-suc-le-zero low)
half_zeros (suc y) low fits = more_places 63 (suc y / 2) (omega arith)
