-- A step of lent words goes by the judging of its call: it is refused so, or it comes to what the worker's words say.
-- Assumes nothing.
use Rattle.std.proofs.Common.{◌≡◌, ◌∙◌, ◌≤◌, Bool, List, ℕ, length, sym, ap, le-leb}
use Rattle.std.specs.Prelude.{Option, Result}
use Rattle.trie.specs.declared.Next.{Next}
use Rattle.trie.specs.Refusing.{number_of}
use Rattle.trie.specs.declared.Refusal.{Refusal}
use Rattle.trie.specs.declared.Worker.{Worker}
use Rattle.trie.specs.Stepping.{stepped_by, step_record_of}
use Rattle.kitesonnet.proofs.GoesOut.{goes_out}
use Rattle.kitesonnet.specs.Seats.{record_at}
use Rattle.kitesonnet.specs.Answers.{answer_words}
use Rattle.kitesonnet.specs.Calls.{lent, back, Answered, answered, step_roomy, kite_step_of}
use Rattle.kitesonnet.proofs.CallLaws.{judged_in, left_by, moves_are, step_sits, step_stays}
use Rattle.kitesonnet.proofs.stepping.step.Goals as goal

-- where the answer's row is long enough
roomy : (n w i : ℕ) (nodes versions board answer : List ℕ) (x : Answered) → answer_words ≤ length answer → x ≡ step_roomy Bool.true n w i (lent nodes versions board) answer
    → x ≡ kite_step_of n w i (lent nodes versions board) answer
unfolding kite_step_of
roomy n w i nodes versions board answer x l e = e ∙ sym (ap (λ (b : Bool). step_roomy b n w i (lent nodes versions board) answer) (le-leb answer_words (length answer) l))

-- where the worker's words are its record, and the record is stepped
stepped : (n w i : ℕ) (nodes versions board answer nodes' versions' : List ℕ) (own : Worker) (m : Result Next Refusal) → answer_words ≤ length answer → judged_in n w i nodes versions board ≡ Result.Ok tt
    → record_at board i ≡ Option.Some own → stepped_by m own nodes' versions' ≡ step_record_of n own nodes versions
    → left_by n i own nodes versions nodes' versions' board answer m ≡ kite_step_of n w i (lent nodes versions board) answer
stepped n w i nodes versions board answer nodes' versions' own m l j r e =
    roomy n w i nodes versions board answer _ l (moves_are n i own nodes versions nodes' versions' board answer m e ∙ step_sits n w i nodes versions board answer (Option.Some own) r j)

pub returns-in_err-judge : goal.returns-in_err-judge
returns-in_err-judge c =
    simp (goes_out _ _ c.from_residual.ensures.1)
    (roomy _ _ _ _ _ _ _ _ c.if-answer-lt-ANSWER_WORDS.false (step_stays _ _ _ _ _ _ _ (sym c.judge.ensures ∙ c.in_err-judge.was)))

pub returns-in_default : goal.returns-in_default
returns-in_default c =
    roomy _ _ _ _ _ _ _ _ c.if-answer-lt-ANSWER_WORDS.false
    (ap (λ (refusal : Refusal). answered (back (number_of refusal) (lent c.args.nodes.now c.args.versions.now c.args.board.now)) c.args.answer.now) c.refusal_of_lost.ensures
    ∙ step_sits _ _ _ _ _ _ _ Option.None (sym c.record_at.ensures ∙ c.in_default.is) (sym c.judge.ensures ∙ c.in_ok-judge.was))

pub returns-in_err-worker : goal.returns-in_err-worker
returns-in_err-worker c =
    simp (goes_out _ _ c.from_residual-in_err-worker.ensures.1)
    (stepped _ _ _ _ _ _ _ _ _ _ (Result.Err _) c.if-answer-lt-ANSWER_WORDS.false (sym c.judge.ensures ∙ c.in_ok-judge.was) (sym c.record_at.ensures ∙ c.in-Some.is) c.in_err-worker.ensures)

pub returns-in-On : goal.returns-in-On
returns-in-On c =
    simp (c.put_record.ensures, c.put_answer.ensures)
    (stepped _ _ _ _ _ _ _ _ _ _ (Result.Ok (Next.On c.in-On.worker)) c.if-answer-lt-ANSWER_WORDS.false (sym c.judge.ensures ∙ c.in_ok-judge.was) (sym c.record_at.ensures ∙ c.in-Some.is)
    (ap (λ (m : Result Next Refusal). stepped_by m c.in-Some.own c.step_record.new.nodes c.step_record.new.versions) (sym (c.in_ok-worker.was ∙ ap Result.Ok c.in-On.is)) ∙ c.step_record.ensures))

pub returns-in-Done : goal.returns-in-Done
returns-in-Done c =
    simp (c.put_record-in-Done.ensures, c.put_value.ensures, c.rested.ensures)
    (stepped _ _ _ _ _ _ _ _ _ _ (Result.Ok (Next.Done c.in-Done.value)) c.if-answer-lt-ANSWER_WORDS.false (sym c.judge.ensures ∙ c.in_ok-judge.was) (sym c.record_at.ensures ∙ c.in-Some.is)
    (ap (λ (m : Result Next Refusal). stepped_by m c.in-Some.own c.step_record.new.nodes c.step_record.new.versions) (sym (c.in_ok-worker.was ∙ ap Result.Ok c.in-Done.is)) ∙ c.step_record.ensures))
