-- What the loop of `put_record` keeps: the first k words stand in their places, and the board is as long as it was.
-- Assumes nothing.
use mathlib.Core.Path.{◌≡◌}
use lib.ListN.{length}
use lib.Seq.{paste}
use Rattle.kitesonnet.proofs.seats.put_record.Given as goal

abbrev pub invariant-loop-k : goal.invariant-loop-k
invariant-loop-k l = (length l.words ≡ 12) × (length l.board ≡ length l.initial.board) × (l.board ≡ paste l.initial.board l.at l.words l.k)
