-- The tenth-power test that the checker computes over the whole table, and the law that turns it into the rule at each entry.
-- Assumes nothing.
use mathlib.Core.Path.{◌≡◌}
use mathlib.Core.Bool.{Bool, ◌&&◌}
use Prim.Native.Nat.{ℕ, ◌+◌, ◌^◌, ◌≤◌}
use lib.Dec.{T, leb, ltb, leb→le, ltb→lt}
use Rattle.decibel.specs.Energy.{energy_of}
use Rattle.decibel.specs.Conversion.{loudest}
use Rattle.decibel.proofs.Laws.{root_only}
use Rattle.decibel.proofs.Table.{and_left, and_right}

unfoldable pub right : ℕ → ℕ → Bool
right level t = leb (t ^ 10) (10 ^ (level + 30)) && ltb (10 ^ (level + 30)) ((t + 1) ^ 10)

pub rule_at : (level t : ℕ) → level ≤ loudest → T (right level t) → t ≡ energy_of level
unfolding right
rule_at level t h r =
    let low = leb (t ^ 10) (10 ^ (level + 30)) in
    let high = ltb (10 ^ (level + 30)) ((t + 1) ^ 10) in
    root_only level t h (record { low = leb→le _ _ (and_left low high r); high = ltb→lt _ _ (and_right low high r) })
