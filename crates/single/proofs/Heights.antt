-- The bounds of an allowed number of cells are within those of the greatest tree.
-- Assumes nothing.
use Rattle.std.specs.Prelude.{◌≡◌, List, ℕ, true, ◌≤◌}
use Rattle.trie.specs.Size.{most_cells, tallest, allowed}
use Rattle.trie.specs.Sound.{bounds_of}
use Rattle.trie.proofs.SizeLaws.{sized}

pub bounds_fit : (n : ℕ) (nodes versions : List ℕ) → allowed n ≡ true → ((bounds_of n nodes versions).cells ≤ most_cells) × ((bounds_of n nodes versions).height ≤ tallest)
unfolding bounds_of
bounds_fit n nodes versions e = let s = sized n e in (s.up_to, s.most)
