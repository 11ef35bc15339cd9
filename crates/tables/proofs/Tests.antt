-- What the test of an allowed number says of it.
-- Assumes nothing.
use Rattle.std.specs.Prelude.{◌≡◌, true, ◌&&◌, ℕ, ◌≤◌, eqb, leb}
use Rattle.std.proofs.Common.{leb-true}
use Rattle.std.specs.Int.Count.{ones}
use Rattle.trie.specs.Size.{most_cells, allowed}
use Rattle.trie.proofs.SizeLaws.{and_first, and_second}

-- a number of cells that is allowed
pub record Allowed (n : ℕ) : Type 0 where
  pub low : 2 ≤ n
  pub high : n ≤ most_cells

pub allowed_range : (n : ℕ) → allowed n ≡ true → Allowed n
unfolding allowed
allowed_range n e =
    let both : (leb 2 n && leb n most_cells) ≡ true = and_second (eqb (ones n) 1) (leb 2 n && leb n most_cells) e in
    record { low = leb-true 2 n (and_first (leb 2 n) (leb n most_cells) both); high = leb-true n most_cells (and_second (leb 2 n) (leb n most_cells) both) }
