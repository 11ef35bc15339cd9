-- An update's level judged with no branch by its kind.
-- Assumes nothing.
use mathlib.Core.Path.{◌≡◌, refl}
use mathlib.Core.Bool.{Bool, true, false, ◌&&◌}
use Prim.Native.Nat.{ℕ}
use lib.Dec.{ltb, leb}
use Rattle.decibel.specs.Conversion.{loudest}
use Rattle.trie.specs.declared.Update.{Update}
use Rattle.trie.specs.Record.{cell_of, loudness_of, update_fits}

and_true : (t : Bool) → (t && true) ≡ t
and_true true = refl
and_true false = refl

-- the level that a delete does not bring is no louder than any
pub fits_loudness : (n : ℕ) (u : Update) → (ltb (cell_of u) n && leb (loudness_of u) loudest) ≡ update_fits n u
fits_loudness n (Update.Insert k l) = refl
fits_loudness n (Update.Delete k) = and_true (ltb k n)
