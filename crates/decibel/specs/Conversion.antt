-- What the conversion tells of each level, the refused ones included.
-- Assumes nothing.
use Rattle.std.specs.Prelude.{Bool, true, false, ℕ, leb}
use Rattle.decibel.specs.Told.{Told, refused, gives}
use Rattle.decibel.specs.Energy.{energy_of}

-- the highest level that a sounder gives
abbrev pub loudest : ℕ
loudest = 60

abbrev pub heard : Bool → ℕ → Told ℕ
heard true level = gives (energy_of level)
heard false level = refused 7

unfoldable pub convert_of : ℕ → Told ℕ
convert_of level = heard (leb level loudest) level
