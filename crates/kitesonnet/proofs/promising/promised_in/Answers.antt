-- `promised_in` meets its contract: each worker's part is added, and the first that is damage is damage of all.
-- Assumes nothing.
use Rattle.std.proofs.Common.{◌∙◌, sym, ap, arith}
use Rattle.std.specs.Prelude.{Result}
use Rattle.std.proofs.lemmas.Result.{err_from_is_err_and}
use Rattle.trie.specs.Record.{together}
use Rattle.kitesonnet.specs.Seats.{record_at}
use Rattle.kitesonnet.specs.Promising.{owed_in}
use Rattle.kitesonnet.proofs.PromisingLaws.{promised_small, owed_small, promised_none, promised_more, damaged_at}
use Rattle.kitesonnet.proofs.promising.promised_in.Goals as goal

pub loop-i-init : goal.loop-i-init
loop-i-init c = promised_none c.args.share 0 c.args.board.now

pub returns-in_err-sum : goal.returns-in_err-sum
returns-in_err-sum c =
    (err_from_is_err_and _ c.from_residual.ensures.1).1
    ∙ sym (damaged_at c.args.share c.loop-i.i c.args.w c.args.board.now c.loop-i-test.true (ap (owed_in c.args.share) (sym c.record_at.ensures) ∙ sym c.in_err-sum.ensures))

pub overflow_add-sum : goal.overflow_add-sum
overflow_add-sum c =
    omega (arith, c.requires.1, promised_small c.args.share c.loop-i.i c.args.board.now c.loop-i.sum c.requires.0 c.loop-i.invariant, owed_small c.args.share c.record_at.result (Result.Ok c.in_ok-sum.field-0) c.in_ok-sum.ensures c.requires.0)

pub loop-i-preserved : goal.loop-i-preserved
loop-i-preserved c =
    ap (together (Result.Ok c.loop-i.sum)) (c.in_ok-sum.ensures ∙ ap (owed_in c.args.share) c.record_at.ensures)
    ∙ ap (λ p. together p (owed_in c.args.share (record_at c.args.board.now c.loop-i.i))) c.loop-i.invariant
    ∙ promised_more c.args.share c.loop-i.i c.args.board.now
