-- Open, cut where the board comes in: the tables are opened where it has a record for each worker, and then so many workers rest.
-- Assumes nothing.
use Rattle.std.specs.Prelude.{List, ℕ}
use Rattle.decibel.specs.Told.{Told, refused, gives}
use Rattle.trie.specs.Choice.{pick}
use Rattle.trie.specs.Size.{allowed}
use Rattle.trie.specs.Values.{Ok}
use Rattle.trie.specs.Opening.{Opened, open_tables_of}
use Rattle.judging.specs.Judging.{manned_by}

unfoldable pub open_manned_of : ℕ → ℕ → ℕ → List ℕ → List ℕ → Opened
open_manned_of n w seats nodes versions =
    pick (manned_by w seats) (open_tables_of n nodes versions) (record { told = refused (pick (allowed n) 2 1); nodes = nodes; versions = versions })

abbrev pub resting_of : Told Ok → ℕ → ℕ
resting_of (refused number) w = 0
resting_of (gives a) w = w
