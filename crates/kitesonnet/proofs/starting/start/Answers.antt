-- A start in lent words goes by its numbers and by the judging of its call: it is refused so, or it comes to the worker's record.
-- Assumes nothing.
use Rattle.std.proofs.Common.{◌≡◌, ◌+◌, ◌∙◌, List, ℕ, sym, ap, arith}
use Rattle.std.specs.Prelude.{Option, Some, Result, unwrap_or}
use Rattle.trie.specs.declared.Damage.{Damage}
use Rattle.trie.specs.declared.Operation.{Operation}
use Rattle.trie.specs.declared.Worker.{Worker}
use Rattle.trie.specs.Size.{height_of}
use Rattle.trie.specs.Starting.{Started, start_record_of}
use Rattle.kitesonnet.proofs.GoesOut.{goes_out}
use Rattle.kitesonnet.specs.Operations.{operation_of}
use Rattle.kitesonnet.specs.Seats.{record_at, worker_of}
use Rattle.kitesonnet.specs.Calls.{lent, back, start_given, kite_start_of}
use Rattle.kitesonnet.specs.Promising.{promised_in}
use Rattle.kitesonnet.specs.OneRecord.{started_in}
use Rattle.kitesonnet.proofs.PromisingLaws.{share_small}
use Rattle.kitesonnet.proofs.CallLaws.{judged_in, sits, start_sits, start_stays}
use Rattle.kitesonnet.proofs.starting.start.Goals as goal

module _ (n w i kind first second : ℕ) (nodes versions board : List ℕ) (o : Operation) (given : operation_of kind first second ≡ Some o) where
  known : start_given (Some o) n w i (lent nodes versions board) ≡ kite_start_of n w i kind first second (lent nodes versions board)
  unfolding kite_start_of
  known = sym (ap (λ (x : Option Operation). start_given x n w i (lent nodes versions board)) given)

  -- the worker's record is started, with what is promised
  started : (share : ℕ) (promised : Result ℕ Damage) (says : Option Worker) (own : Worker) (r : Started) → judged_in n w i nodes versions board ≡ Result.Ok tt → share ≡ height_of n + 1
      → promised ≡ promised_in share w board → says ≡ record_at board i → own ≡ worker_of says → r ≡ start_record_of n o promised own nodes versions
      → started_in i (lent nodes versions board) r ≡ kite_start_of n w i kind first second (lent nodes versions board)
  started share promised says own r seat a b d e f =
      ap (started_in i (lent nodes versions board))
      (f ∙ ap (λ (p : Result ℕ Damage). start_record_of n o p own nodes versions) (b ∙ ap (λ (k : ℕ). promised_in k w board) a)
      ∙ ap (λ (v : Worker). start_record_of n o (promised_in (height_of n + 1) w board) v nodes versions) (e ∙ ap worker_of d))
      ∙ start_sits n w i nodes versions board o seat ∙ known

pub returns-in_err-judge : goal.returns-in_err-judge
returns-in_err-judge c =
    simp (goes_out _ _ c.from_residual-in_err-judge.ensures.1)
    (start_stays _ _ _ _ _ _ c.in_ok-o.o (sym c.judge.ensures ∙ c.in_err-judge.was) ∙ known _ _ _ _ _ _ _ _ _ _ (sym c.operation_of.ensures ∙ c.in_ok-o.ensures.ok_part))

pub overflow_add-height : goal.overflow_add-height
overflow_add-height c = omega (arith, c.height.ensures, share_small c.args.n)

pub promised_in-sum-requires : goal.promised_in-sum-requires
promised_in-sum-requires c =
    let seat = sits c.args.n c.args.w c.args.i c.args.nodes.now c.args.versions.now c.args.board.now (sym c.judge.ensures ∙ c.in_ok-judge.was) in
    (omega (arith, c.height.ensures, share_small c.args.n), seat.few, omega (arith, seat.seats))

pub returns-in_err-worker : goal.returns-in_err-worker
returns-in_err-worker c =
    simp (goes_out _ _ c.from_residual-in_err-worker.ensures.1)
    (started _ _ _ _ _ _ _ _ _ _ (sym c.operation_of.ensures ∙ c.in_ok-o.ensures.ok_part) _ _ c.record_at.result _ _ (sym c.judge.ensures ∙ c.in_ok-judge.was) (ap (λ k. k + 1) c.height.ensures) c.promised_in-sum.ensures c.record_at.ensures
    (c.unwrap_or-own.ensures ∙ ap (unwrap_or c.record_at.result) c.rested.ensures) c.in_err-worker.ensures)

pub returns : goal.returns
returns c =
    ap (λ (b : List ℕ). back 0 (lent c.args.nodes.now c.args.versions.now b)) c.put_record.ensures
    ∙ started _ _ _ _ _ _ _ _ _ _ (sym c.operation_of.ensures ∙ c.in_ok-o.ensures.ok_part) _ _ c.record_at.result _ _ (sym c.judge.ensures ∙ c.in_ok-judge.was) (ap (λ k. k + 1) c.height.ensures) c.promised_in-sum.ensures c.record_at.ensures
    (c.unwrap_or-own.ensures ∙ ap (unwrap_or c.record_at.result) c.rested.ensures) c.in_ok-worker.ensures
