-- An allowed N is at least 2, so that 2N - 1 does not go below 0.
-- Assumes nothing.
use Rattle.std.proofs.Common.{sym, ◌∙◌, arith}
use Rattle.trie.proofs.SizeLaws.{sized}
use Rattle.lines.proofs.histories.is_open.Goals as goal

pub overflow_sub-h : goal.overflow_sub-h
overflow_sub-h c = let h = sized c.args.h.cells (sym c.is_allowed.ensures ∙ c.if-not-is_allowed.false) in omega arith
