-- The energy of a level: the largest whole t with t ^ 10 ≤ 10 ^ (level + 30).
-- `Rule` is document 01's sentence; `energy_of` finds the number, binary digit by digit, and Laws.antt shows that it alone keeps the rule. Assumes nothing.
use Rattle.std.specs.Prelude.{Bool, true, false, ℕ, zero, suc, ◌+◌, ◌^◌, ◌≤◌, leb}

pub record Rule (level t : ℕ) : Type 0 where
  pub within : t ^ 10 ≤ 10 ^ (level + 30)
  pub largest : (s : ℕ) → s ^ 10 ≤ 10 ^ (level + 30) → s ≤ t

abbrev pub grown : Bool → ℕ → ℕ → ℕ
grown true more t = more
grown false more t = t

-- t, with each of its lowest d binary digits set, from the highest down, where the tenth power stays within n
unfoldable pub tenth_root : ℕ → ℕ → ℕ → ℕ
tenth_root zero n t = t
tenth_root (suc d) n t = tenth_root d n (grown (leb ((t + 2 ^ d) ^ 10) n) (t + 2 ^ d) t)

-- thirty digits are enough: no level up to 60 has an energy of 2 ^ 30
unfoldable pub energy_of : ℕ → ℕ
unfolding tenth_root
energy_of level = tenth_root 30 (10 ^ (level + 30)) 0
