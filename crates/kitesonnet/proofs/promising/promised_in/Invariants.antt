-- What the loop of `promised_in` keeps: the workers before i are summed.
-- Assumes nothing.
use Rattle.std.specs.Prelude.{◌≡◌, Result}
use Rattle.kitesonnet.specs.Promising.{promised_in}
use Rattle.kitesonnet.proofs.promising.promised_in.Given as goal

abbrev pub invariant-loop-i : goal.invariant-loop-i
invariant-loop-i l = Result.Ok l.sum ≡ promised_in l.share l.i l.board
