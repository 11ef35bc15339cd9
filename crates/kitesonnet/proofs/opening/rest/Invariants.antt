-- What the loop of `rest` keeps: the words of the first i workers say idle records, and the board is as long as it was.
-- Assumes nothing.
use mathlib.Core.Path.{◌≡◌}
use lib.ListN.{length}
use Rattle.kitesonnet.specs.Seats.{seats_rested}
use Rattle.kitesonnet.proofs.opening.rest.Given as goal

abbrev pub invariant-loop-i : goal.invariant-loop-i
invariant-loop-i l = (length l.board ≡ length l.initial.board) × (l.board ≡ seats_rested l.i l.initial.board)
