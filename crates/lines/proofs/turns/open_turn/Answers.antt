-- An open is lent the words of V versions, which the version table has; where it is refused, all is as it was.
-- Assumes nothing.
use Rattle.std.proofs.Common.{Ok, Err, ap, ◌∙◌, arith}
use borrow.Author.Tests.{le-leb}
use Rattle.std.proofs.lemmas.Result.{err_from_is_err_and}
use Rattle.lines.specs.Watch.{most_cells}
use Rattle.lines.proofs.Taken.{open_taken}
use Rattle.lines.proofs.turns.open_turn.Goals as goal

pub returns-in_err-open : goal.returns-in_err-open
returns-in_err-open c h =
    let out = err_from_is_err_and c.from_residual.result c.from_residual.ensures.1 in
    simp (out.1 ∙ ap Err out.2)
    (open_taken h c.args.nodes.now c.args.versions.now c.args.board.now c.args.asked c.words-lent.result (Err c.in_err-open.field-0.0) c.open.new.nodes c.open.new.versions c.open.new.board
    (le-leb c.args.asked.cells most_cells (omega (arith, c.if-asked-gt-LISTED_CELLS.false))) c.words-lent.ensures c.in_err-open.ensures)

pub returns : goal.returns
returns c h =
    open_taken h c.args.nodes.now c.args.versions.now c.args.board.now c.args.asked c.words-lent.result (Ok tt) c.open.new.nodes c.open.new.versions c.open.new.board
    (le-leb c.args.asked.cells most_cells (omega (arith, c.if-asked-gt-LISTED_CELLS.false))) c.words-lent.ensures c.in_ok-open.ensures
