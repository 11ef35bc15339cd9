-- Document 01's number and values for each case of the conversion's answer.
-- Assumes nothing.
use Rattle.std.specs.Prelude.{ℕ, Result, Ok, Err}
use Rattle.decibel.specs.Told.{Told, refused, gives}
use Rattle.decibel.specs.declared.Energy.{Energy}
use Rattle.decibel.specs.declared.TooLoud.{TooLoud}

abbrev pub told_of : Result Energy TooLoud → Told ℕ
told_of (Err loud) = refused 7
told_of (Ok energy) = gives energy.0
