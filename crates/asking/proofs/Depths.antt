-- A node at a depth above the leaves is far from the end of the numbers: the tree is at most twelve levels high.
-- Assumes nothing.
use Rattle.std.specs.Prelude.{◌≡◌, true, ℕ, suc, ◌*◌, ◌/◌, ◌^◌, ◌≤◌, ◌<◌}
use native.Mathlib.Nat.{pow-suc, div-lt_iff_lt-mul}
use native.Mathlib.Omega.{arith}
use borrow.Author.Tests.{eqb-true}
use lib.Pow.{pow_mono, pow_pos}
use Rattle.trie.specs.Size.{tallest}
use Rattle.trie.specs.Asking.{at_depth}

pub select_small : {h d x : ℕ} → h ≤ tallest → d < h → at_depth d x ≡ true → x < 4611686018427387904
select_small {h} {d} {x} low l e =
    let one : x / 2 ^ d ≡ 1 = eqb-true (x / 2 ^ d) 1 e in
    let near : x < 2 * 2 ^ d = (div-lt_iff_lt-mul (pow_pos d)).0 (omega arith) in
    let deep : suc d ≤ 12 = omega arith in
    omega (arith, pow-suc 2 d, pow_mono deep)
