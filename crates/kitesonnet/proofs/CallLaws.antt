-- From what the code does with one record to the calls in words: the judging by lengths, the record in its seat, and words that are no record.
-- Assumes nothing.
use Rattle.std.specs.Prelude.{◌≡◌, refl, Bool, not, ◌&&◌, List, ℕ, ◌+◌, ◌≤◌, ◌<◌, leb, length, get_or, Option, None, Some, ⊤, Result}
use Rattle.std.proofs.Math.Path.{sym, ap}
use Rattle.std.proofs.Common.{◌∙◌, arith, leb-true, get_or-set_same}
use Rattle.std.proofs.Math.Bool.{true, false}
use Rattle.decibel.specs.Told.{refused, gives}
use Rattle.trie.specs.declared.Next.{Next}
use Rattle.trie.specs.declared.Refusal.{Refusal}
use Rattle.trie.specs.declared.Damage.{Damage}
use Rattle.trie.specs.declared.Operation.{Operation}
use Rattle.trie.specs.declared.Worker.{Worker}
use Rattle.trie.specs.Choice.{pick}
use Rattle.trie.specs.Size.{allowed, height_of, most_workers}
use Rattle.trie.proofs.SizeLaws.{and_second}
use Rattle.trie.specs.Tables.{roomy}
use Rattle.trie.specs.Record.{idle, busy, operation_fits, promised_of}
use Rattle.trie.specs.Refusing.{number_of, damaged}
use Rattle.trie.specs.Values.{Ok, ok, on, done, value_of, accepted_of}
use Rattle.trie.specs.Opening.{Opened, check_tables, open_nodes, open_versions, open_board, open_tables_of}
use Rattle.trie.proofs.OpenLaws.{open_board_idle}
use Rattle.trie.specs.Starting.{Started, check as check_start, start_record_of}
use Rattle.trie.specs.Stepping.{Stepped, stepped_by, step_record_of}
use Rattle.trie.proofs.StepLaws.{gives_not, step_refused}
use Rattle.trie.specs.Calls.{state, After, after, check, check_call, manned, open_of, start_at, start_of, step_at, step_of}
use Rattle.judging.specs.Judging.{manned_by, judge_of}
use Rattle.judging.proofs.JudgingLaws.{manned_by_lem, seated, call_refused, call_seated, start_seated, step_seated}
use Rattle.kitesonnet.specs.Seats.{seats_of, record_at, worker_of, said, readable, seat_put}
use Rattle.kitesonnet.specs.Answers.{course_put}
use Rattle.kitesonnet.specs.Calls.{Lent, lent, state_of, Back, back, returned, writes_first, writes_at, kite_open_of, start_damaged, start_said, start_given, Answered, answered, answer_after, step_said, step_told}
use Rattle.kitesonnet.specs.OneRecord.{started_in, starts_at, stepped_in, steps_in}
use Rattle.kitesonnet.proofs.PromisingLaws.{promised_is, promised_damaged}
use Rattle.kitesonnet.specs.Seats.{seats_rested}
use Rattle.kitesonnet.proofs.SeatLaws.{said_length, said_at, seats_rest}

-- what a record that is stepped leaves is what its step tells in words
module _ (n i : ℕ) (w : Worker) (nodes versions nodes' versions' board answer : List ℕ) where
  abbrev pub left_by : Result Next Refusal → Answered
  left_by (Result.Err refusal) = answered (back (number_of refusal) (lent nodes' versions' board)) answer
  left_by (Result.Ok (Next.On v)) = answered (back 0 (lent nodes' versions' (seat_put board i v))) (course_put answer on)
  left_by (Result.Ok (Next.Done a)) = answered (back 0 (lent nodes' versions' (seat_put board i idle))) (course_put answer (done (value_of a)))

  told_by : (m : Result Next Refusal) → stepped_by m w nodes' versions' ≡ step_record_of n w nodes versions
      → left_by m ≡ stepped_in i (lent nodes versions board) answer (stepped_by m w nodes' versions')
  told_by (Result.Err refusal) e =
      let k = step_refused n w nodes versions (number_of refusal) (ap (λ (r : Stepped). r.told) (sym e)) in
      ap (λ (x : List ℕ). answered (back (number_of refusal) (lent x versions' board)) answer) (ap (λ (r : Stepped). r.nodes) e ∙ ap (λ (r : Stepped). r.nodes) k)
      ∙ ap (λ (x : List ℕ). answered (back (number_of refusal) (lent nodes x board)) answer) (ap (λ (r : Stepped). r.versions) e ∙ ap (λ (r : Stepped). r.versions) k)
  told_by (Result.Ok (Next.On v)) e = refl
  told_by (Result.Ok (Next.Done a)) e = refl

  pub moves_are : (m : Result Next Refusal) → stepped_by m w nodes' versions' ≡ step_record_of n w nodes versions → left_by m ≡ steps_in n i (Some w) (lent nodes versions board) answer
  moves_are m e = told_by m e ∙ ap (stepped_in i (lent nodes versions board) answer) e

-- ---- the judging by lengths

module _ (n w i : ℕ) (nodes versions board : List ℕ) where
  abbrev s : Lent
  s = lent nodes versions board

  abbrev pub judged_in : Result ⊤ Refusal
  judged_in = judge_of n w i (length nodes) (length versions) (seats_of board)

  pub judged_same : judge_of n w i (length nodes) (length versions) (length (said board)) ≡ judged_in
  judged_same = ap (judge_of n w i (length nodes) (length versions)) (said_length board)

  -- a refusal: the call is refused so
  pub call_judged : {A : Type 0} {refusal : Refusal} (a : After A) → judged_in ≡ Result.Err refusal → check_call n w i (state_of s) a ≡ after (refused (number_of refusal)) (state_of s)
  call_judged a e = call_refused n w i nodes versions (said board) a (judged_same ∙ e)

  -- else the worker has its words on the board
  pub record Sits : Type 0 where
    pub below : i < w
    pub few : w ≤ most_workers
    pub seats : w ≤ seats_of board

  pub sits : judged_in ≡ Result.Ok tt → Sits
  sits e =
      let h = seated n w i nodes versions (said board) (judged_same ∙ e) in
      record { below = h.below; few = h.few; seats = omega (arith, h.seats, said_length board) }

  -- ---- start

  start_put : (r : Started) → i < seats_of board → started_in i s r ≡ writes_at i s (start_at i (state_of s) r)
  start_put r h = ap (λ (x : Worker). returned r.told s (lent nodes versions (seat_put board i x))) (sym (get_or-set_same (said board) i r.worker idle (omega (arith, h, said_length board))))

  module _ (o : Operation) where
    abbrev starts_by : Result ℕ Damage → Worker → Back
    starts_by p own = started_in i s (start_record_of n o p own nodes versions)

    start_said_lem : judged_in ≡ Result.Ok tt → readable w board ≡ true → starts_at n w i o s ≡ writes_at i s (start_of n w i o (state_of s))
    start_said_lem e g =
        let h = sits e in
        ap (λ (p : Result ℕ Damage). starts_by p (worker_of (record_at board i))) (promised_is (height_of n + 1) w (seats_of board) board h.seats g)
        ∙ ap (starts_by (promised_of (height_of n + 1) w (said board))) (sym (said_at board i (omega (arith, h.below, h.seats))))
        ∙ start_put (start_record_of n o (promised_of (height_of n + 1) w (said board)) (get_or (said board) i idle) nodes versions) (omega (arith, h.below, h.seats))
        ∙ ap (writes_at i s) (sym (start_seated n w i nodes versions (said board) o (judged_same ∙ e)))

    -- the same refusals, of the record and of the call
    damaged_by : (own : Worker) (p r b f : Bool) → started_in i s (check_start p 1 own (check_start r 3 own (check_start b 5 own (check_start f 7 own (record { told = refused 9; worker = own })))))
        ≡ writes_at i s (check p 1 (state_of s) (check r 3 (state_of s) (check b 5 (state_of s) (check f 7 (state_of s) (after {A = Ok} (refused 9) (state_of s))))))
    damaged_by own true true true true = refl
    damaged_by own true true true false = refl
    damaged_by own true true false f = refl
    damaged_by own true false b f = refl
    damaged_by own false r b f = refl

    start_lost : judged_in ≡ Result.Ok tt → readable w board ≡ false → starts_at n w i o s ≡ writes_at i s (start_damaged n w i o (state_of s))
    unfolding start_record_of
    start_lost e g =
        let h = sits e in
        ap (λ (p : Result ℕ Damage). starts_by p (worker_of (record_at board i))) (promised_damaged (height_of n + 1) w board g)
        ∙ ap (starts_by damaged) (sym (said_at board i (omega (arith, h.below, h.seats))))
        ∙ damaged_by (get_or (said board) i idle) (allowed n) (roomy n nodes versions) (not (busy (get_or (said board) i idle))) (operation_fits n o)
        ∙ ap (writes_at i s) (sym (call_seated n w i nodes versions (said board) _ (judged_same ∙ e)))

    by_readable : (b : Bool) → readable w board ≡ b → judged_in ≡ Result.Ok tt → starts_at n w i o s ≡ writes_at i s (start_said b n w i o (state_of s))
    by_readable true g e = start_said_lem e g
    by_readable false g e = start_lost e g

    -- a start that comes to the worker's record
    pub start_sits : judged_in ≡ Result.Ok tt → starts_at n w i o s ≡ start_given (Some o) n w i s
    start_sits e = by_readable (readable w board) refl e

    refused_by : {refusal : Refusal} (b : Bool) → judged_in ≡ Result.Err refusal → back (number_of refusal) s ≡ writes_at i s (start_said b n w i o (state_of s))
    unfolding start_of
    refused_by true e = ap (writes_at i s) (sym (call_judged _ e))
    refused_by false e = ap (writes_at i s) (sym (call_judged _ e))

    -- a start that is refused before
    pub start_stays : {refusal : Refusal} → judged_in ≡ Result.Err refusal → back (number_of refusal) s ≡ start_given (Some o) n w i s
    start_stays e = refused_by (readable w board) e

  -- ---- step

  module _ (answer : List ℕ) where
    step_put : (r : Stepped) → i < seats_of board → stepped_in i s answer r ≡ step_told i s answer (step_at i (state_of s) r)
    step_put r h = ap (λ (x : Worker). answered (returned r.told s (lent r.nodes r.versions (seat_put board i x))) (answer_after r.told answer)) (sym (get_or-set_same (said board) i r.worker idle (omega (arith, h, said_length board))))

    lost_by : (p r : Bool) → answered (back (number_of (pick p (pick r Refusal.Damaged Refusal.Tables) Refusal.Cells)) s) answer
        ≡ step_told i s answer (check p 1 (state_of s) (check r 3 (state_of s) (after (refused 9) (state_of s))))
    lost_by true true = refl
    lost_by true false = refl
    lost_by false r = refl

    steps_by : (r : Option Worker) → record_at board i ≡ r → judged_in ≡ Result.Ok tt → steps_in n i r s answer ≡ step_told i s answer (step_said r n w i (state_of s))
    steps_by None g e = lost_by (allowed n) (roomy n nodes versions) ∙ ap (step_told i s answer) (sym (call_seated n w i nodes versions (said board) (after (refused 9) (state_of s)) (judged_same ∙ e)))
    steps_by (Some own) g e =
        let h = sits e in
        let at : i < seats_of board = omega (arith, h.below, h.seats) in
        ap (λ (v : Worker). stepped_in i s answer (step_record_of n v nodes versions)) (sym (said_at board i at ∙ ap worker_of g)) ∙ step_put (step_record_of n (get_or (said board) i idle) nodes versions) at
        ∙ ap (step_told i s answer) (sym (step_seated n w i nodes versions (said board) (judged_same ∙ e)))

    -- a step that comes to the worker's record, where its words say r
    pub step_sits : (r : Option Worker) → record_at board i ≡ r → judged_in ≡ Result.Ok tt → steps_in n i r s answer ≡ step_told i s answer (step_said (record_at board i) n w i (state_of s))
    step_sits r g e = steps_by r g e ∙ ap (λ (x : Option Worker). step_told i s answer (step_said x n w i (state_of s))) (sym g)

    stays_by : {refusal : Refusal} (r : Option Worker) → judged_in ≡ Result.Err refusal → answered (back (number_of refusal) s) answer ≡ step_told i s answer (step_said r n w i (state_of s))
    unfolding step_of
    stays_by None e = ap (step_told i s answer) (sym (call_judged _ e))
    stays_by (Some own) e = ap (step_told i s answer) (sym (call_judged _ e))

    -- a step that is refused before
    pub step_stays : {refusal : Refusal} → judged_in ≡ Result.Err refusal → answered (back (number_of refusal) s) answer ≡ step_told i s answer (step_said (record_at board i) n w i (state_of s))
    step_stays e = stays_by (record_at board i) e

-- ---- open

pub manned_seats : (w seats : ℕ) → manned_by w seats ≡ true → w ≤ seats
unfolding manned_by
manned_seats w seats e = leb-true w seats (and_second (leb 1 w && leb w most_workers) (leb w seats) e)

module _ (n w : ℕ) (nodes versions board : List ℕ) where
  abbrev t : Lent
  t = lent nodes versions board

  manned_in : (b : Bool) → manned_by w (seats_of board) ≡ b → manned w (said board) ≡ b
  manned_in b e = manned_by_lem w (said board) ∙ ap (manned_by w) (said_length board) ∙ e

  abbrev opens : Bool → After Ok
  opens r = check r 3 (state_of t) (after (gives ok) (state (open_nodes n nodes) (open_versions n versions) (open_board w (said board))))

  -- the refusals of the numbers, told apart
  by_manned : (m : Bool) → allowed n ≡ true → manned_by w (seats_of board) ≡ m → kite_open_of n w t ≡ writes_first w t (check m 2 (state_of t) (opens (roomy n nodes versions)))
  unfolding kite_open_of open_of
  by_manned m e g =
      ap (λ (b : Bool). writes_first w t (check b 1 (state_of t) (check (manned w (said board)) 2 (state_of t) (opens (roomy n nodes versions))))) e
      ∙ ap (λ (b : Bool). writes_first w t (check b 2 (state_of t) (opens (roomy n nodes versions)))) (manned_in m g)

  pub open_sized : allowed n ≡ false → back 1 t ≡ kite_open_of n w t
  unfolding kite_open_of open_of
  open_sized e = sym (ap (λ (b : Bool). writes_first w t (check b 1 (state_of t) (check (manned w (said board)) 2 (state_of t) (opens (roomy n nodes versions))))) e)

  pub open_manned : allowed n ≡ true → manned_by w (seats_of board) ≡ false → back 2 t ≡ kite_open_of n w t
  open_manned e g = sym (by_manned false e g)

  open_comes : allowed n ≡ true → manned_by w (seats_of board) ≡ true → writes_first w t (opens (roomy n nodes versions)) ≡ kite_open_of n w t
  open_comes e g = sym (by_manned true e g)

  tables_come : allowed n ≡ true → open_tables_of n nodes versions ≡ check_tables (roomy n nodes versions) 3 nodes versions (record { told = gives ok; nodes = open_nodes n nodes; versions = open_versions n versions })
  unfolding open_tables_of
  tables_come e = ap (λ (b : Bool). check_tables b 1 nodes versions (check_tables (roomy n nodes versions) 3 nodes versions (record { told = gives ok; nodes = open_nodes n nodes; versions = open_versions n versions }))) e

  module _ (nodes' versions' : List ℕ) where
    abbrev opened : Result ⊤ Refusal → Opened
    opened a = record { told = accepted_of a; nodes = nodes'; versions = versions' }

    -- the tables are too short, and as they were
    short_by : (refusal : Refusal) (r : Bool) → opened (Result.Err refusal) ≡ check_tables r 3 nodes versions (record { told = gives ok; nodes = open_nodes n nodes; versions = open_versions n versions })
        → back (number_of refusal) (lent nodes' versions' board) ≡ writes_first w t (opens r)
    short_by refusal true e = gives_not (sym (ap (λ (o : Opened). o.told) e))
    short_by refusal false e = ap (λ (o : Opened). returned o.told (lent o.nodes o.versions board) (lent o.nodes o.versions board)) e

    -- and what they are refused with has the number 3
    short_told : (refusal : Refusal) (r : Bool) → opened (Result.Err refusal) ≡ check_tables r 3 nodes versions (record { told = gives ok; nodes = open_nodes n nodes; versions = open_versions n versions })
        → number_of refusal ≡ 3
    short_told refusal true e = gives_not (sym (ap (λ (o : Opened). o.told) e))
    short_told refusal false e = ap (λ (o : Opened). (returned o.told t t).number) e

    pub open_short : (refusal : Refusal) → allowed n ≡ true → manned_by w (seats_of board) ≡ true → opened (Result.Err refusal) ≡ open_tables_of n nodes versions
        → (number_of refusal ≡ 3) × (back (number_of refusal) (lent nodes' versions' board) ≡ kite_open_of n w t)
    open_short refusal e g h =
        (short_told refusal (roomy n nodes versions) (h ∙ tables_come e), short_by refusal (roomy n nodes versions) (h ∙ tables_come e) ∙ open_comes e g)

    fresh_by : (r : Bool) → w ≤ seats_of board → opened (Result.Ok tt) ≡ check_tables r 3 nodes versions (record { told = gives ok; nodes = open_nodes n nodes; versions = open_versions n versions })
        → back 0 (lent nodes' versions' (seats_rested w board)) ≡ writes_first w t (opens r)
    fresh_by true l e =
        ap (λ (o : Opened). back 0 (lent o.nodes o.versions (seats_rested w board))) e
        ∙ ap (λ (x : List ℕ). back 0 (lent (open_nodes n nodes) (open_versions n versions) x)) (sym (seats_rest w board (open_board w (said board)) (λ j h. open_board_idle w (said board) j h (omega (arith, l, said_length board)))))
    fresh_by false l e = gives_not (ap (λ (o : Opened). o.told) e)

    pub open_fresh : allowed n ≡ true → manned_by w (seats_of board) ≡ true → opened (Result.Ok tt) ≡ open_tables_of n nodes versions → back 0 (lent nodes' versions' (seats_rested w board)) ≡ kite_open_of n w t
    open_fresh e g h = fresh_by (roomy n nodes versions) (manned_seats w (seats_of board) g) (h ∙ tables_come e) ∙ open_comes e g
