-- What the judging of a call says of the three calls: where it refuses the call is refused so, and else the call comes to the worker's record.
-- Assumes nothing.
use Rattle.std.specs.Prelude.{◌≡◌, refl, Bool, true, false, ◌&&◌, List, ℕ, ◌+◌, ◌≤◌, ◌<◌, ltb, length, get_or, set, ⊤, Result}
use Rattle.std.proofs.Common.{sym, ◌∙◌}
use Rattle.std.proofs.Math.Path.{ap}
use borrow.Author.Tests.{leb-true, ltb-true}
use Rattle.std.proofs.Math.Dec.{leb}
use Rattle.std.proofs.lemmas.List.{set-get_or}
use Rattle.decibel.specs.Told.{refused}
use Rattle.trie.specs.declared.Operation.{Operation}
use Rattle.trie.specs.declared.Worker.{Worker}
use Rattle.trie.specs.Choice.{pick}
use Rattle.trie.specs.Size.{allowed, height_of, most_workers}
use Rattle.trie.proofs.SizeLaws.{and_first, and_second}
use Rattle.trie.specs.declared.Refusal.{Refusal}
use Rattle.trie.specs.Refusing.{number_of}
use Rattle.trie.specs.Tables.{room_of, roomy_by, roomy}
use Rattle.trie.specs.Sound.{bounds_of}
use Rattle.trie.specs.Record.{idle, promised_of}
use Rattle.trie.specs.Starting.{Started, check as check_start, start_record_of}
use Rattle.trie.specs.Stepping.{Stepped, check as check_step, step_record_of}
use Rattle.trie.specs.Calls.{State, state, After, after, check, manned, check_call, start_at, start_of, step_at, step_of}
use Rattle.judging.specs.Judging.{manned_by, absent_of, judge_of}

pub manned_by_lem : (w : ℕ) (board : List Worker) → manned w board ≡ manned_by w (length board)
unfolding manned manned_by
manned_by_lem w board = refl

-- ---- the four tests, as the judging makes them

abbrev judged : Bool → Bool → Bool → Bool → Result ⊤ Refusal
judged p m r t = pick (m && t) (Result.Ok tt) (Result.Err (pick p (pick m (pick r Refusal.Worker Refusal.Tables) Refusal.Workers) Refusal.Cells))

told_as : {A : Type 0} (refusal other : Refusal) (s : State) → ◌≡◌ {A = Result ⊤ Refusal} (Result.Err refusal) (Result.Err other)
    → after {A = A} (refused (number_of refusal)) s ≡ after (refused (number_of other)) s
told_as refusal other s e = let same : refusal ≡ other = cc in rw same

refused_by : {A : Type 0} (p m r t : Bool) (refusal : Refusal) (s : State) (a : After A) → judged p m r t ≡ Result.Err refusal
    → check p 1 s (check m 2 s (check r 3 s (check t 4 s a))) ≡ after (refused (number_of refusal)) s
refused_by p true r true refusal s a e = cc
refused_by true true true false refusal s a e = told_as _ _ s e
refused_by true true false false refusal s a e = told_as _ _ s e
refused_by false true r false refusal s a e = told_as _ _ s e
refused_by true false r t refusal s a e = told_as _ _ s e
refused_by false false r t refusal s a e = told_as _ _ s e

there_by : (p m r t : Bool) → judged p m r t ≡ Result.Ok tt → (m ≡ true) × (t ≡ true)
there_by p true r true e = (refl, refl)
there_by p true r false e = cc
there_by p false r t e = cc

-- ---- the judging of a call

module _ (n w i : ℕ) (nodes versions : List ℕ) (board : List Worker) where
  abbrev pub judged_of : Result ⊤ Refusal
  judged_of = judge_of n w i (length nodes) (length versions) (length board)

  abbrev s : State
  s = state nodes versions board

  -- a refusal: the call is refused so
  pub call_refused : {A : Type 0} {refusal : Refusal} (a : After A) → judged_of ≡ Result.Err refusal → check_call n w i s a ≡ after (refused (number_of refusal)) s
  unfolding judge_of absent_of roomy room_of manned manned_by
  call_refused a e = refused_by (allowed n) (manned w board) (roomy n nodes versions) (ltb i w) _ s a e

  -- none: the worker is one of the board's
  pub record Seated : Type 0 where
    pub manned : manned_by w (length board) ≡ true
    pub below : i < w
    pub seats : w ≤ length board
    pub few : w ≤ most_workers

  pub seated : judged_of ≡ Result.Ok tt → Seated
  unfolding judge_of absent_of manned_by
  seated e =
      let b = there_by (allowed n) (manned_by w (length board)) (roomy_by n (length nodes) (length versions)) (ltb i w) e in
      record {
        manned = b.0;
        below = ltb-true i w b.1;
        seats = leb-true w (length board) (and_second (leb 1 w && leb w most_workers) (leb w (length board)) b.0);
        few = leb-true w most_workers (and_second (leb 1 w) (leb w most_workers) (and_first (leb 1 w && leb w most_workers) (leb w (length board)) b.0));
      }

  -- then only 1 and 3 are left, which the call on the record gives
  pub call_seated : {A : Type 0} (a : After A) → judged_of ≡ Result.Ok tt → check_call n w i s a ≡ check (allowed n) 1 s (check (roomy n nodes versions) 3 s a)
  unfolding judge_of absent_of manned manned_by
  call_seated a e =
      let b = there_by (allowed n) (manned_by w (length board)) (roomy_by n (length nodes) (length versions)) (ltb i w) e in rw (b.0, b.1)

  -- a record that is put back where it stood
  put_back : board ≡ set board i (get_or board i idle)
  put_back = sym (set-get_or board i idle)

  step_again : (p r : Bool) (x : Stepped) → check p 1 s (check r 3 s (step_at i s (check_step p 1 (get_or board i idle) nodes versions (check_step r 3 (get_or board i idle) nodes versions x))))
      ≡ step_at i s (check_step p 1 (get_or board i idle) nodes versions (check_step r 3 (get_or board i idle) nodes versions x))
  step_again true true x = refl
  step_again true false x = ap (λ (b : List Worker). after (refused 3) (state nodes versions b)) put_back
  step_again false r x = ap (λ (b : List Worker). after (refused 1) (state nodes versions b)) put_back

  pub step_seated : judged_of ≡ Result.Ok tt → step_of n w i s ≡ step_at i s (step_record_of n (get_or board i idle) nodes versions)
  unfolding step_of step_record_of
  step_seated e = call_seated _ e ∙ step_again (allowed n) (roomy n nodes versions) _

  pub step_refused : {refusal : Refusal} → judged_of ≡ Result.Err refusal → step_of n w i s ≡ after (refused (number_of refusal)) s
  unfolding step_of
  step_refused e = call_refused _ e

  start_again : (p r : Bool) (x : Started) → check p 1 s (check r 3 s (start_at i s (check_start p 1 (get_or board i idle) (check_start r 3 (get_or board i idle) x))))
      ≡ start_at i s (check_start p 1 (get_or board i idle) (check_start r 3 (get_or board i idle) x))
  start_again true true x = refl
  start_again true false x = ap (λ (b : List Worker). after (refused 3) (state nodes versions b)) put_back
  start_again false r x = ap (λ (b : List Worker). after (refused 1) (state nodes versions b)) put_back

  pub start_seated : (o : Operation) → judged_of ≡ Result.Ok tt → start_of n w i o s ≡ start_at i s (start_record_of n o (promised_of (height_of n + 1) w board) (get_or board i idle) nodes versions)
  unfolding start_of start_record_of bounds_of
  start_seated o e = call_seated _ e ∙ start_again (allowed n) (roomy n nodes versions) _

  pub start_refused : {refusal : Refusal} (o : Operation) → judged_of ≡ Result.Err refusal → start_of n w i o s ≡ after (refused (number_of refusal)) s
  unfolding start_of
  start_refused o e = call_refused _ e
