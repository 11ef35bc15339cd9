-- What the loop of `promised` keeps: the workers so far are counted.
-- Assumes nothing.
use Rattle.std.proofs.Common.{◌≡◌}
use Rattle.board.specs.Promising.{tally_of}
use Rattle.board.proofs.promising.promised.Given as goal

abbrev pub invariant-loop-worker : goal.invariant-loop-worker
invariant-loop-worker l = l.sum ≡ tally_of l.share l.worker-index l.worker-items
