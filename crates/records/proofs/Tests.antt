-- What it says of an update that it fits.
-- Assumes nothing.
use Rattle.std.specs.Prelude.{◌≡◌, true, ℕ, ◌<◌, ltb, leb}
use Rattle.std.proofs.Common.{ltb-true}
use Rattle.decibel.specs.Conversion.{loudest}
use Rattle.trie.specs.declared.Update.{Update}
use Rattle.trie.proofs.SizeLaws.{and_first}
use Rattle.trie.specs.Record.{cell_of, update_fits}

pub fits_cell : (n : ℕ) (u : Update) → update_fits n u ≡ true → cell_of u < n
fits_cell n (Update.Insert k l) e = ltb-true k n (and_first (ltb k n) (leb l.0 loudest) e)
fits_cell n (Update.Delete k) e = ltb-true k n e
