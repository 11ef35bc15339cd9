-- Open, put together: as many idle workers as rest at once are what open leaves, on a board that has a record for each.
-- Assumes nothing.
use Rattle.std.specs.Prelude.{◌≡◌, refl, true, ◌&&◌, List, [], ◌∷◌, ◌++◌, ℕ, zero, suc, ◌≤◌, leb, length, set, take, drop, replicate}
use Rattle.std.proofs.Common.{sym, ap, ◌∙◌, arith, leb-true}
use Rattle.trie.specs.declared.Worker.{Worker}
use Rattle.trie.specs.Size.{most_workers}
use Rattle.trie.proofs.SizeLaws.{and_second}
use Rattle.trie.specs.Record.{idle}
use Rattle.trie.specs.Opening.{filled, open_board}
use Rattle.judging.specs.Judging.{manned_by}

-- a board with a record for each worker is as long
pub seats_enough : (w seats : ℕ) → manned_by w seats ≡ true → w ≤ seats
unfolding manned_by
seats_enough w seats e = leb-true w seats (and_second (leb 1 w && leb w most_workers) (leb w seats) e)

first_rests : (k : ℕ) (r : Worker) (board : List Worker) → open_board (suc k) (r ∷ board) ≡ idle ∷ open_board k board
unfolding filled
first_rests zero r board = refl
first_rests (suc k) r board = ap (λ (b : List Worker). set b (suc k) idle) (first_rests k r board)

pub rests : (w : ℕ) (board : List Worker) → w ≤ length board → replicate (length (take w board)) idle ++ drop w board ≡ open_board w board
unfolding filled
rests zero board l = refl
rests (suc w) [] l = absurd (omega arith)
rests (suc w) (r ∷ board) l = ap (λ (b : List Worker). idle ∷ b) (rests w board (omega arith)) ∙ sym (first_rests w r board)
