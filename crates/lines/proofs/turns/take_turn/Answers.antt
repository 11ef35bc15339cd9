-- An accepted open begins the history that it answers, and a refused one leaves the history before it.
-- Assumes nothing.
use Rattle.std.proofs.Common.{Some, Err, ap, ◌∙◌}
use Rattle.std.proofs.lemmas.Result.{err_from_is_err_and}
use Rattle.lines.specs.Turns.{line_turn}
use Rattle.lines.proofs.turns.take_turn.Goals as goal

pub returns-in_err-watch-in-Open : goal.returns-in_err-watch-in-Open
unfolding line_turn
returns-in_err-watch-in-Open c =
    let out = err_from_is_err_and c.from_residual.result c.from_residual.ensures.1 in
    simp (out.1 ∙ ap Err out.2, c.in-Some.is ∙ ap Some c.in-Open.is) (c.in_err-watch-in-Open.ensures c.args.watch.now.history)

pub returns-in_ok-watch-in-Open : goal.returns-in_ok-watch-in-Open
unfolding line_turn
returns-in_ok-watch-in-Open c = simp (c.in-Some.is ∙ ap Some c.in-Open.is) (c.in_ok-watch-in-Open.ensures c.args.watch.now.history)
