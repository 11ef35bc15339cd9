-- A start is lent the words of V versions, which the version table has; whether it is accepted or refused, the tables are as they were.
-- Assumes nothing.
use Rattle.std.proofs.Common.{sym, ◌∙◌}
use Rattle.lines.proofs.Taken.{start_taken}
use Rattle.lines.proofs.turns.start_turn.Goals as goal

pub returns : goal.returns
returns c =
    let s = c.args.watch.now in
    start_taken s.history s.nodes s.versions s.board c.args.worker c.args.operation c.words-lent.result c.start.result c.start.new.board
    (sym c.is_open.ensures ∙ c.if-not-is_open.false) c.words-lent.ensures c.start.ensures
