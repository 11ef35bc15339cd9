-- Which numbers of cells are allowed, and the height of their tree.
-- Document 01, "The water column and the tree". Assumes nothing.
use Rattle.std.specs.Prelude.{Bool, ◌&&◌, ℕ, eqb, leb}
use Rattle.std.specs.Int.Count.{ones, count_trailing_zeros}

-- the most cells that a ping is cut into
abbrev pub most_cells : ℕ
most_cells = 4096

-- from 2 to the most, with exactly one bit set
unfoldable pub allowed : ℕ → Bool
allowed n = eqb (ones n) 1 && (leb 2 n && leb n most_cells)

-- the number of zero bits below that bit
unfoldable pub height_of : ℕ → ℕ
height_of n = count_trailing_zeros 64 n

-- the height of the tree of the most cells
abbrev pub tallest : ℕ
tallest = 12

-- the most workers on a board
abbrev pub most_workers : ℕ
most_workers = 16
