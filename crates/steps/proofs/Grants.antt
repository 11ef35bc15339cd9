-- The number of cells that passed its test is that of a tree, so that its bounds are those of so many cells.
-- Assumes nothing.
use Rattle.std.specs.Prelude.{◌≡◌, List, ℕ, Bool, true, leb, ◌≤◌}
use Rattle.std.proofs.Common.{ap, le-leb, arith}
use Rattle.trie.specs.Choice.{pick}
use Rattle.trie.specs.Size.{most_cells, allowed}
use Rattle.trie.specs.Sound.{bounds_of}
use Rattle.trie.proofs.SizeLaws.{sized}

pub few : (n : ℕ) → allowed n ≡ true → (1 ≤ n) × (n ≤ most_cells)
few n e = let s = sized n e in (omega arith, s.up_to)

pub bounds_are : (n : ℕ) (nodes versions : List ℕ) → allowed n ≡ true → bounds_of (pick (leb n most_cells) n 0) nodes versions ≡ bounds_of n nodes versions
bounds_are n nodes versions e = ap (λ (t : Bool). bounds_of (pick t n 0) nodes versions) (le-leb n most_cells (sized n e).up_to)
