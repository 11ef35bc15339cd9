-- Any list of calls in words comes to what the same calls on the records come to, from an accepted open on.
-- So what is shown of histories holds for a program that links the library. Assumes nothing.
use Rattle.std.specs.Prelude.{is_some, ◌≡◌, Bool, List, [], ◌∷◌, ℕ, ◌≤◌, ◌<◌, leb, length, get_or, Option, None, Some, ⊤, Result}
use Rattle.std.proofs.Math.Path.{refl, ap, subst}
use Rattle.std.proofs.Common.{sym, ◌∙◌, arith}
use Rattle.std.proofs.Math.Bool.{true, false}
use Rattle.decibel.specs.Told.{Told, refused, gives}
use Rattle.trie.specs.declared.Operation.{Operation}
use Rattle.trie.specs.declared.Refusal.{Refusal}
use Rattle.trie.specs.declared.Worker.{Worker}
use Rattle.trie.specs.Size.{allowed}
use Rattle.trie.specs.Tables.{roomy}
use Rattle.trie.specs.Record.{idle}
use Rattle.trie.specs.Values.{Ok, ok, Course}
use Rattle.trie.specs.Opening.{open_nodes, open_versions, open_board}
use Rattle.trie.proofs.OpenLaws.{open_board_idle}
use Rattle.trie.specs.Calls.{State, state, After, after, check, manned, open_of, start_of, step_of}
use Rattle.judging.specs.Judging.{manned_by}
use Rattle.judging.proofs.JudgingLaws.{manned_by_lem}
use Rattle.kitesonnet.specs.Operations.{operation_of}
use Rattle.kitesonnet.specs.Seats.{seats_of, record_at, said, readable, seat_put}
use Rattle.kitesonnet.proofs.SeatLaws.{said_length, seats_rest}
use Rattle.kitesonnet.specs.Answers.{answer_words}
use Rattle.kitesonnet.specs.Calls.{Lent, lent, state_of, returned, writes_first, writes_at, kite_open_of, start_said, start_given, kite_start_of, step_said, step_roomy, kite_step_of}
use Rattle.kitesonnet.proofs.CallLaws.{judged_in, call_judged, sits, manned_seats}
use Rattle.kitesonnet.proofs.SaidLaws.{readable_one, readable_put, readable_rested, seats_so, open_is, start_is, step_is, step_stopped}

-- ---- calls, in words and on the records

pub data Called : Type 0 where
  starts : ℕ → ℕ → ℕ → ℕ → Called
  steps : ℕ → Called

-- the rows after a call; a step is lent this row for its answer
abbrev pub in_words : ℕ → ℕ → List ℕ → Called → Lent → Lent
in_words n w answer (starts i kind first second) s = (kite_start_of n w i kind first second s).lent
in_words n w answer (steps i) s = (kite_step_of n w i s answer).lent

-- numbers that are no operation start nothing
abbrev pub start_on : Option Operation → ℕ → ℕ → ℕ → State → State
start_on None n w i s = s
start_on (Some o) n w i s = (start_of n w i o s).state

abbrev pub on_records : ℕ → ℕ → Called → State → State
on_records n w (starts i kind first second) s = start_on (operation_of kind first second) n w i s
on_records n w (steps i) s = (step_of n w i s).state

abbrev pub run_words : ℕ → ℕ → List ℕ → List Called → Lent → Lent
run_words n w answer [] s = s
run_words n w answer (c ∷ calls) s = run_words n w answer calls (in_words n w answer c s)

abbrev pub run_records : ℕ → ℕ → List Called → State → State
run_records n w [] s = s
run_records n w (c ∷ calls) s = run_records n w calls (on_records n w c s)

-- ---- one call

module _ (n w : ℕ) (answer nodes versions board : List ℕ) (long : leb answer_words (length answer) ≡ true) (said_all : readable w board ≡ true) where
  abbrev s : Lent
  s = lent nodes versions board

  module _ (i : ℕ) where
    abbrev judged : Result ⊤ Refusal
    judged = judged_in n w i nodes versions board

    -- one record written, or nothing: every worker's words are still a record
    kept : {A : Type 0} (t : Told A) (nodes' versions' : List ℕ) (v : Worker) → i < seats_of board → readable w (returned t s (lent nodes' versions' (seat_put board i v))).lent.board ≡ true
    kept (refused k) nodes' versions' v h = said_all
    kept (gives x) nodes' versions' v h = readable_put board i v h w said_all

    at_seat : {A : Type 0} (a : After A) → i < seats_of board → readable w (writes_at i s a).lent.board ≡ true
    at_seat a h = kept a.told a.state.nodes a.state.versions (get_or a.state.board i idle) h

    start_said_lem : (o : Operation) (b : Result ⊤ Refusal) → judged ≡ b → readable w (writes_at i s (start_of n w i o (state_of s))).lent.board ≡ true
    unfolding start_of
    start_said_lem o (Result.Ok tt) e = at_seat (start_of n w i o (state_of s)) (seats_so nodes versions board n w i e)
    start_said_lem o (Result.Err refusal) e = subst (λ (a : After Ok). readable w (writes_at i s a).lent.board ≡ true) (sym (call_judged n w i nodes versions board _ e)) said_all

    start_by : (x : Option Operation) (kind first second : ℕ) → operation_of kind first second ≡ x
        → (state_of (kite_start_of n w i kind first second s).lent ≡ start_on x n w i (state_of s)) × (readable w (kite_start_of n w i kind first second s).lent.board ≡ true)
    unfolding kite_start_of
    start_by None kind first second e = (
      ap (λ (y : Option Operation). state_of (start_given y n w i s).lent) e,
      ap (λ (y : Option Operation). readable w (start_given y n w i s).lent.board) e ∙ said_all,
    )
    start_by (Some o) kind first second e = (
      start_is nodes versions board n w i kind first second o e said_all,
      ap (λ (y : Option Operation). readable w (start_given y n w i s).lent.board) e ∙ ap (λ (b : Bool). readable w (writes_at i s (start_said b n w i o (state_of s))).lent.board) said_all ∙ start_said_lem o judged refl,
    )

    -- the worker's own words are a record, as it is one of the board's
    step_of_lem : (x : Option Worker) → record_at board i ≡ x → is_some x ≡ true → state_of (kite_step_of n w i s answer).lent ≡ (step_of n w i (state_of s)).state
    step_of_lem None e g = absurd (let z : ◌≡◌ {A = ℕ} 0 1 = cc in omega arith)
    step_of_lem (Some r) e g = step_is nodes versions board n w i r answer e long

    step_by : (b : Result ⊤ Refusal) → judged ≡ b → state_of (kite_step_of n w i s answer).lent ≡ (step_of n w i (state_of s)).state
    unfolding kite_step_of
    step_by (Result.Ok tt) e = step_of_lem (record_at board i) refl (readable_one w board i said_all (sits n w i nodes versions board e).below)
    step_by (Result.Err refusal) e = ap (λ (b : Bool). state_of (step_roomy b n w i s answer).lent) long ∙ step_stopped nodes versions board n w i (record_at board i) e

    stopped : {refusal : Refusal} (x : Option Worker) → judged ≡ Result.Err refusal → readable w (writes_at i s (step_said x n w i (state_of s))).lent.board ≡ true
    unfolding step_of
    stopped None e = subst (λ (a : After Course). readable w (writes_at i s a).lent.board ≡ true) (sym (call_judged n w i nodes versions board _ e)) said_all
    stopped (Some r) e = subst (λ (a : After Course). readable w (writes_at i s a).lent.board ≡ true) (sym (call_judged n w i nodes versions board _ e)) said_all

    step_said_lem : (b : Result ⊤ Refusal) → judged ≡ b → readable w (writes_at i s (step_said (record_at board i) n w i (state_of s))).lent.board ≡ true
    step_said_lem (Result.Ok tt) e = at_seat (step_said (record_at board i) n w i (state_of s)) (seats_so nodes versions board n w i e)
    step_said_lem (Result.Err refusal) e = stopped (record_at board i) e

    step_kept : readable w (kite_step_of n w i s answer).lent.board ≡ true
    unfolding kite_step_of
    step_kept = ap (λ (b : Bool). readable w (step_roomy b n w i s answer).lent.board) long ∙ step_said_lem judged refl

  -- a call in words is the call on what the words say, and every worker's words are a record after it
  pub call_is : (c : Called) → (state_of (in_words n w answer c s) ≡ on_records n w c (state_of s)) × (readable w (in_words n w answer c s).board ≡ true)
  call_is (starts i kind first second) = start_by i (operation_of kind first second) kind first second refl
  call_is (steps i) = (step_by i (judged i) refl, step_kept i)

-- ---- any list of calls

pub runs_are : (n w : ℕ) (answer : List ℕ) → leb answer_words (length answer) ≡ true → (calls : List Called) (s : Lent) → readable w s.board ≡ true
    → (state_of (run_words n w answer calls s) ≡ run_records n w calls (state_of s)) × (readable w (run_words n w answer calls s).board ≡ true)
runs_are n w answer long [] s r = (refl, r)
runs_are n w answer long (c ∷ calls) s r =
    let one = call_is n w answer s.nodes s.versions s.board long r c in
    let rest = runs_are n w answer long calls (in_words n w answer c s) one.1 in
    (rest.0 ∙ ap (run_records n w calls) one.0, rest.1)

-- ---- from an open on

opened_by : (n w : ℕ) (nodes versions board : List ℕ) (p m r : Bool) → (m ≡ true → w ≤ seats_of board)
    → (writes_first w (lent nodes versions board) (check p 1 (state_of (lent nodes versions board)) (check m 2 (state_of (lent nodes versions board)) (check r 3 (state_of (lent nodes versions board)) (after {A = Ok} (gives ok) (state (open_nodes n nodes) (open_versions n versions) (open_board w (said board)))))))).number ≡ 0
    → readable w (writes_first w (lent nodes versions board) (check p 1 (state_of (lent nodes versions board)) (check m 2 (state_of (lent nodes versions board)) (check r 3 (state_of (lent nodes versions board)) (after {A = Ok} (gives ok) (state (open_nodes n nodes) (open_versions n versions) (open_board w (said board)))))))).lent.board ≡ true
opened_by n w nodes versions board true true true l e =
    ap (readable w) (seats_rest w board (open_board w (said board)) (λ j h. open_board_idle w (said board) j h (omega (arith, l refl, said_length board)))) ∙ readable_rested w board (l refl)
opened_by n w nodes versions board true true false l e = absurd (omega (arith, e))
opened_by n w nodes versions board true false r l e = absurd (omega (arith, e))
opened_by n w nodes versions board false m r l e = absurd (omega (arith, e))

-- an accepted open leaves every worker's words a record
pub open_readable : (n w : ℕ) (s : Lent) → (kite_open_of n w s).number ≡ 0 → readable w (kite_open_of n w s).lent.board ≡ true
unfolding kite_open_of open_of
open_readable n w s e =
    opened_by n w s.nodes s.versions s.board (allowed n) (manned w (said s.board)) (roomy n s.nodes s.versions)
    (λ g. manned_seats w (seats_of s.board) (sym (manned_by_lem w (said s.board) ∙ ap (manned_by w) (said_length s.board)) ∙ g)) e

-- a history through the library: an accepted open, and any starts and steps after it
pub history_is : (n w : ℕ) (answer : List ℕ) (s : Lent) → leb answer_words (length answer) ≡ true → (kite_open_of n w s).number ≡ 0 → (calls : List Called)
    → state_of (run_words n w answer calls (kite_open_of n w s).lent) ≡ run_records n w calls (open_of n w (state_of s)).state
history_is n w answer s long e calls =
    (runs_are n w answer long calls (kite_open_of n w s).lent (open_readable n w s e)).0 ∙ ap (run_records n w calls) (open_is s.nodes s.versions s.board n w)
