-- Each call in words is document 01's call on the state that the words say: the words after it say the records after it, and it tells the same.
-- Assumes nothing.
use Rattle.std.specs.Prelude.{is_some, ◌≡◌, ◌≢◌, Bool, true, false, ◌&&◌, eqb, ltb, leb, length, get_or, take, drop, Option, None, Some, ⊤, Result}
use Rattle.std.proofs.Math.Path.{refl, ap}
use Rattle.std.proofs.Common.{sym, subst, ◌∙◌, arith, ltb-true, ltb-false, eqb-true, take-append-drop, length-drop, length-set, drop-drop, take_at, drop_at, length-take-le, ext_get_or, get_or-set_same, get_or-set_other}
use mathlib.Core.List.{List, ◌++◌, append_assoc}
use Prim.Native.Nat.{ℕ, zero, suc, ◌+◌, ◌*◌, ◌-◌, ◌/◌, ◌≤◌, ◌<◌}
use Rattle.std.proofs.lemmas.Bool.{eqb-false}
use Rattle.std.proofs.Math.ListN.{set}
use Rattle.std.proofs.lemmas.List.Edits.{length-paste, drop-paste}
use Rattle.std.proofs.lemmas.List.{take-append-le, drop-append-le, set-get_or}
use Rattle.std.proofs.Math.Seq.{take-length}
use Rattle.decibel.specs.Told.{Told, refused, gives}
use Rattle.trie.specs.declared.Operation.{Operation}
use Rattle.trie.specs.declared.Phase.{Phase}
use Rattle.trie.specs.declared.Refusal.{Refusal}
use Rattle.trie.specs.declared.Worker.{Worker}
use Rattle.trie.specs.Size.{allowed, height_of}
use Rattle.trie.proofs.SizeLaws.{and_first, and_second}
use Rattle.trie.specs.Tables.{roomy}
use Rattle.trie.specs.Record.{idle, promised_of}
use Rattle.trie.specs.Values.{Ok, ok, Course}
use Rattle.trie.specs.Opening.{filled, open_nodes, open_versions, open_board}
use Rattle.trie.proofs.OpenLaws.{open_board_idle}
use Rattle.trie.specs.Starting.{start_record_of}
use Rattle.trie.specs.Stepping.{Stepped, step_record_of}
use Rattle.trie.proofs.StepLaws.{step_refused}
use Rattle.trie.specs.Calls.{state, After, after, check, manned, open_of, start_of, step_of}
use Rattle.trie.proofs.CallLaws.{start_refused}
use Rattle.judging.specs.Judging.{manned_by, judge_of}
use Rattle.judging.proofs.JudgingLaws.{manned_by_lem, start_seated, start_refused as start_judged, step_seated, step_refused as step_judged}
use Rattle.kitesonnet.specs.Operations.{operation_of}
use Rattle.kitesonnet.specs.Reading.{record_of}
use Rattle.kitesonnet.specs.Writing.{words_of}
use Rattle.kitesonnet.proofs.RecordLaws.{record_back}
use Rattle.kitesonnet.specs.Seats.{record_words, seats_of, record_at, worker_of, said, readable, seat_put}
use Rattle.kitesonnet.specs.Seats.{seats_rested}
use Rattle.kitesonnet.proofs.SeatLaws.{said_length, at_next, said_at, seats_rest}
use Rattle.kitesonnet.specs.Answers.{answer_words}
use Rattle.kitesonnet.specs.Calls.{Lent, lent, state_of, returned, writes_first, writes_at, kite_open_of, start_said, start_given, kite_start_of, answer_after, step_said, step_told, step_roomy, kite_step_of}
use Rattle.kitesonnet.proofs.CallLaws.{judged_in, judged_same, call_judged, sits, manned_seats}

-- ---- a record in its seat

phase_words_lem : (w : Worker) (p : Phase) → w.phase ≡ p → length (words_of w) ≡ record_words
unfolding words_of
phase_words_lem w Phase.Idle e = rw e refl
phase_words_lem w (Phase.Read u) e = rw e refl
phase_words_lem w (Phase.Swap u v) e = rw e refl
phase_words_lem w (Phase.Refresh c h) e = rw e refl
phase_words_lem w (Phase.Ask q) e = rw e refl
phase_words_lem w (Phase.Find k s) e = rw e refl
phase_words_lem w (Phase.Rank k s c x) e = rw e refl
phase_words_lem w (Phase.Select j s x c) e = rw e refl

words_length : (w : Worker) → length (words_of w) ≡ record_words
words_length w = phase_words_lem w w.phase refl

-- twelve words that lie within the first part of a row
within : (front rest : List ℕ) (k : ℕ) → k + record_words ≤ length front → take record_words (drop k (front ++ rest)) ≡ take record_words (drop k front)
within front rest k h =
    ap (take record_words) (drop-append-le k front rest (omega (arith, h))) ∙ take-append-le record_words (drop k front) rest (omega (arith, h, length-drop k front))

module _ (board : List ℕ) (i : ℕ) (w : Worker) (h : i < seats_of board) where
  fits : record_words * i + record_words ≤ length board
  fits = omega (arith, h)

  abbrev front : List ℕ
  front = take (record_words * i) board

  front_length : length front ≡ record_words * i
  front_length = length-take-le (record_words * i) board (omega (arith, fits))

  put_length : length (seat_put board i w) ≡ length board
  put_length = length-paste board (record_words * i) (words_of w) record_words fits (omega (arith, words_length w))

  pub put_seats : seats_of (seat_put board i w) ≡ seats_of board
  put_seats = ap (λ (k : ℕ). k / record_words) put_length

  abbrev behind : List ℕ
  behind = take record_words (words_of w) ++ drop (record_words * i + record_words) board

  put_parts : seat_put board i w ≡ front ++ behind
  put_parts = append_assoc front (take record_words (words_of w)) (drop (record_words * i + record_words) board)

  own_words : take record_words (drop (record_words * i) (seat_put board i w)) ≡ words_of w
  own_words =
      ap (λ (t : List ℕ). take record_words (drop (record_words * i) t)) put_parts ∙ ap (take record_words) (drop_at front behind (record_words * i) front_length)
      ∙ take_at (take record_words (words_of w)) (drop (record_words * i + record_words) board) record_words (length-take-le record_words (words_of w) (omega (arith, words_length w)))
      ∙ subst (λ (k : ℕ). take k (words_of w) ≡ words_of w) (words_length w) (take-length (words_of w))

  -- what was written is read
  pub put_own : record_at (seat_put board i w) i ≡ Some w
  put_own = ap record_of own_words ∙ record_back w

  before_words : (j : ℕ) → j < i → take record_words (drop (record_words * j) (seat_put board i w)) ≡ take record_words (drop (record_words * j) board)
  before_words j l =
      ap (λ (t : List ℕ). take record_words (drop (record_words * j) t)) put_parts ∙ within front behind (record_words * j) (omega (arith, front_length, l))
      ∙ sym (within front (drop (record_words * i) board) (record_words * j) (omega (arith, front_length, l)))
      ∙ ap (λ (t : List ℕ). take record_words (drop (record_words * j) t)) (take-append-drop (record_words * i) board)

  behind_words : (j : ℕ) → i < j → drop (record_words * j) (seat_put board i w) ≡ drop (record_words * j) board
  behind_words j l =
      let z : (k : ℕ) × (record_words * i + record_words + k ≡ record_words * j) = (record_words * j - (record_words * i + record_words), omega (arith, l)) in
      subst (λ (k : ℕ). drop k (seat_put board i w) ≡ drop k board) z.1
      (sym (drop-drop z.0 (record_words * i + record_words) (seat_put board i w))
      ∙ ap (drop z.0) (drop-paste board (record_words * i) (words_of w) record_words (omega (arith, fits)) (omega (arith, words_length w)))
      ∙ drop-drop z.0 (record_words * i + record_words) board)

  other_by : (j : ℕ) (a b : Bool) → ltb j i ≡ a → ltb i j ≡ b → j ≢ i → record_at (seat_put board i w) j ≡ record_at board j
  other_by j true b e g d = ap record_of (before_words j (ltb-true j i e))
  other_by j false true e g d = ap (λ (t : List ℕ). record_of (take record_words t)) (behind_words j (ltb-true i j g))
  other_by j false false e g d = absurd (d (omega (arith, ltb-false j i e, ltb-false i j g)))

  -- no other record is written
  pub put_other : (j : ℕ) → j ≢ i → record_at (seat_put board i w) j ≡ record_at board j
  put_other j d = other_by j (ltb j i) (ltb i j) refl refl d

  said_by : (j : ℕ) (b : Bool) → eqb j i ≡ b → j < seats_of board → get_or (said (seat_put board i w)) j idle ≡ get_or (set (said board) i w) j idle
  said_by j true e l =
      let z : j ≡ i = eqb-true j i e in
      said_at (seat_put board i w) j (omega (arith, l, put_seats)) ∙ ap (λ (k : ℕ). worker_of (record_at (seat_put board i w) k)) z ∙ ap worker_of put_own
      ∙ sym (ap (λ (k : ℕ). get_or (set (said board) i w) k idle) z ∙ get_or-set_same (said board) i w idle (omega (arith, h, said_length board)))
  said_by j false e l =
      said_at (seat_put board i w) j (omega (arith, l, put_seats)) ∙ ap worker_of (put_other j (eqb-false j i e))
      ∙ sym (get_or-set_other (said board) i j w idle (eqb-false j i e) ∙ said_at board j l)

  -- a record that is written is the one that the words then say
  pub said_put : said (seat_put board i w) ≡ set (said board) i w
  said_put =
      ext_get_or idle (said (seat_put board i w)) (set (said board) i w) (said_length (seat_put board i w) ∙ put_seats ∙ sym (length-set (said board) i w ∙ said_length board))
      (λ j l. said_by j (eqb j i) refl (omega (arith, l, said_length (seat_put board i w), put_seats)))

-- ---- words that are records stay records

pub readable_one : (w : ℕ) (words : List ℕ) (j : ℕ) → readable w words ≡ true → j < w → is_some (record_at words j) ≡ true
unfolding readable
readable_one zero words j e l = absurd (omega arith)
readable_one (suc w) words zero e l = and_first (is_some (record_of (take record_words words))) (readable w (drop record_words words)) e
readable_one (suc w) words (suc j) e l = sym (ap is_some (at_next words j)) ∙ readable_one w (drop record_words words) j (and_second (is_some (record_of (take record_words words))) (readable w (drop record_words words)) e) (omega arith)

readable_all : (w : ℕ) (words : List ℕ) → ((j : ℕ) → j < w → is_some (record_at words j) ≡ true) → readable w words ≡ true
unfolding readable
readable_all zero words h = refl
readable_all (suc w) words h =
    ap (λ (b : Bool). b && readable w (drop record_words words)) (h 0 (omega arith)) ∙ readable_all w (drop record_words words) (λ j l. ap is_some (at_next words j) ∙ h (suc j) (omega arith))

module _ (board : List ℕ) (i : ℕ) (v : Worker) (h : i < seats_of board) where
  put_by : (j : ℕ) (b : Bool) → eqb j i ≡ b → (j ≢ i → is_some (record_at board j) ≡ true) → is_some (record_at (seat_put board i v) j) ≡ true
  put_by j true e k = ap (λ (x : ℕ). is_some (record_at (seat_put board i v) x)) (eqb-true j i e) ∙ ap is_some (put_own board i v h)
  put_by j false e k = ap is_some (put_other board i v h j (eqb-false j i e)) ∙ k (eqb-false j i e)

  -- one record written
  pub readable_put : (w : ℕ) → readable w board ≡ true → readable w (seat_put board i v) ≡ true
  readable_put w e = readable_all w (seat_put board i v) (λ j l. put_by j (eqb j i) refl (λ d. readable_one w board j e l))

-- the first workers at rest
rested_one : (k : ℕ) (board : List ℕ) → k ≤ seats_of board → (seats_of (seats_rested k board) ≡ seats_of board) × ((j : ℕ) → j < k → is_some (record_at (seats_rested k board) j) ≡ true)
unfolding seats_rested
rested_one zero board l = (refl, λ j m. absurd (omega arith))
rested_one (suc k) board l =
    let z = rested_one k board (omega arith) in
    let m : k < seats_of (seats_rested k board) = omega (arith, z.0) in
    (put_seats (seats_rested k board) k idle m ∙ z.0, λ j a. put_by (seats_rested k board) k idle m j (eqb j k) refl (λ d. z.1 j (below j k a d)))
  where
    below : (j k : ℕ) → j < suc k → j ≢ k → j < k
    below j k a d = below_by (ltb j k) refl
      where
        below_by : (b : Bool) → ltb j k ≡ b → j < k
        below_by true e = ltb-true j k e
        below_by false e = absurd (d (omega (arith, a, ltb-false j k e)))

pub readable_rested : (w : ℕ) (board : List ℕ) → w ≤ seats_of board → readable w (seats_rested w board) ≡ true
readable_rested w board l = readable_all w (seats_rested w board) (rested_one w board l).1

-- ---- the calls

module _ (nodes versions board : List ℕ) where
  abbrev s : Lent
  s = lent nodes versions board

  module _ (i : ℕ) (h : i < seats_of board) where
    abbrev own : Worker
    own = get_or (said board) i idle

    -- one record written, or nothing
    wrote : {A : Type 0} (t : Told A) (nodes' versions' : List ℕ) (v : Worker) → ((k : ℕ) → t ≡ refused k → (nodes' ≡ nodes) × (versions' ≡ versions) × (v ≡ own))
        → state_of (returned t s (lent nodes' versions' (seat_put board i (get_or (set (said board) i v) i idle)))).lent ≡ state nodes' versions' (set (said board) i v)
    wrote (refused k) nodes' versions' v e =
        let z = e k refl in
        ap (λ (x : List ℕ). state x versions (said board)) (sym z.0) ∙ ap (λ (x : List ℕ). state nodes' x (said board)) (sym z.1)
        ∙ ap (state nodes' versions') (sym (set-get_or (said board) i idle) ∙ ap (set (said board) i) (sym z.2))
    wrote (gives x) nodes' versions' v e =
        ap (λ (y : Worker). state nodes' versions' (said (seat_put board i y))) (get_or-set_same (said board) i v idle (omega (arith, h, said_length board)))
        ∙ ap (state nodes' versions') (said_put board i v h)

  module _ (n w i : ℕ) where
    pub seats_so : judged_in n w i nodes versions board ≡ Result.Ok tt → i < seats_of board
    seats_so e = let z = sits n w i nodes versions board e in omega (arith, z.below, z.seats)

    judged_so : (b : Result ⊤ Refusal) → judged_in n w i nodes versions board ≡ b → judge_of n w i (length nodes) (length versions) (length (said board)) ≡ b
    judged_so b e = judged_same n w i nodes versions board ∙ e

    start_by : (o : Operation) (b : Result ⊤ Refusal) → judged_in n w i nodes versions board ≡ b → state_of (writes_at i s (start_of n w i o (state_of s))).lent ≡ (start_of n w i o (state_of s)).state
    start_by o (Result.Ok tt) e =
        let r = start_record_of n o (promised_of (height_of n + 1) w (said board)) (get_or (said board) i idle) nodes versions in
        subst (λ (a : After Ok). state_of (writes_at i s a).lent ≡ a.state) (sym (start_seated n w i nodes versions (said board) o (judged_so _ e)))
        (wrote i (seats_so e) r.told nodes versions r.worker (λ k g. (refl, refl, start_refused (get_or (said board) i idle) k n o (promised_of (height_of n + 1) w (said board)) nodes versions g)))
    start_by o (Result.Err refusal) e = subst (λ (a : After Ok). state_of (writes_at i s a).lent ≡ a.state) (sym (start_judged n w i nodes versions (said board) o (judged_so _ e))) refl

    step_by : (b : Result ⊤ Refusal) → judged_in n w i nodes versions board ≡ b → state_of (writes_at i s (step_of n w i (state_of s))).lent ≡ (step_of n w i (state_of s)).state
    step_by (Result.Ok tt) e =
        let r = step_record_of n (get_or (said board) i idle) nodes versions in
        subst (λ (a : After Course). state_of (writes_at i s a).lent ≡ a.state) (sym (step_seated n w i nodes versions (said board) (judged_so _ e)))
        (wrote i (seats_so e) r.told r.nodes r.versions r.worker
        (λ k g. let q = step_refused n (get_or (said board) i idle) nodes versions k g in (ap (λ (x : Stepped). x.nodes) q, ap (λ (x : Stepped). x.versions) q, ap (λ (x : Stepped). x.worker) q)))
    step_by (Result.Err refusal) e = subst (λ (a : After Course). state_of (writes_at i s a).lent ≡ a.state) (sym (step_judged n w i nodes versions (said board) (judged_so _ e))) refl

    -- a step that is refused before it comes to a record, whatever the words are
    pub step_stopped : {refusal : Refusal} (x : Option Worker) → judged_in n w i nodes versions board ≡ Result.Err refusal → state_of (writes_at i s (step_said x n w i (state_of s))).lent ≡ (step_of n w i (state_of s)).state
    step_stopped None e =
        subst (λ (a : After Course). state_of (writes_at i s a).lent ≡ state_of s) (sym (call_judged n w i nodes versions board (after {A = Course} (refused 9) (state_of s)) e)) refl
        ∙ sym (ap (λ (a : After Course). a.state) (step_judged n w i nodes versions (said board) (judged_so _ e)))
    step_stopped (Some r) e = step_by _ e

    -- where every worker's words are a record, a start in words is the start of what they say
    pub start_is : (kind first second : ℕ) (o : Operation) → operation_of kind first second ≡ Some o → readable w board ≡ true
        → state_of (kite_start_of n w i kind first second s).lent ≡ (start_of n w i o (state_of s)).state
    unfolding kite_start_of
    start_is kind first second o e g =
        ap (λ (x : Option Operation). state_of (start_given x n w i s).lent) e ∙ ap (λ (b : Bool). state_of (writes_at i s (start_said b n w i o (state_of s))).lent) g
        ∙ start_by o (judged_in n w i nodes versions board) refl

    -- where the worker's own words are a record, so is a step
    pub step_is : (r : Worker) (answer : List ℕ) → record_at board i ≡ Some r → leb answer_words (length answer) ≡ true → state_of (kite_step_of n w i s answer).lent ≡ (step_of n w i (state_of s)).state
    unfolding kite_step_of
    step_is r answer e g =
        ap (λ (b : Bool). state_of (step_roomy b n w i s answer).lent) g ∙ ap (λ (x : Option Worker). state_of (writes_at i s (step_said x n w i (state_of s))).lent) e
        ∙ step_by (judged_in n w i nodes versions board) refl

  -- ---- an open, whatever the words are

  rested_said : (k : ℕ) → k ≤ seats_of board → (said (seats_rested k board) ≡ open_board k (said board)) × (seats_of (seats_rested k board) ≡ seats_of board)
  unfolding seats_rested filled
  rested_said zero l = (refl, refl)
  rested_said (suc k) l =
      let z = rested_said k (omega arith) in
      let m : k < seats_of (seats_rested k board) = omega (arith, z.1) in
      (said_put (seats_rested k board) k idle m ∙ ap (λ (b : List Worker). set b k idle) z.0, put_seats (seats_rested k board) k idle m ∙ z.1)

  opened_by : (n w : ℕ) (p m r : Bool) → (m ≡ true → w ≤ seats_of board)
      → state_of (writes_first w s (check p 1 (state_of s) (check m 2 (state_of s) (check r 3 (state_of s) (after {A = Ok} (gives ok) (state (open_nodes n nodes) (open_versions n versions) (open_board w (said board)))))))).lent
      ≡ (check p 1 (state_of s) (check m 2 (state_of s) (check r 3 (state_of s) (after {A = Ok} (gives ok) (state (open_nodes n nodes) (open_versions n versions) (open_board w (said board))))))).state
  opened_by n w true true true l =
      ap (λ (b : List ℕ). state (open_nodes n nodes) (open_versions n versions) (said b)) (seats_rest w board (open_board w (said board)) (λ j h. open_board_idle w (said board) j h (omega (arith, l refl, said_length board))))
      ∙ ap (state (open_nodes n nodes) (open_versions n versions)) (rested_said w (l refl)).0
  opened_by n w true true false l = refl
  opened_by n w true false r l = refl
  opened_by n w false m r l = refl

  pub open_is : (n w : ℕ) → state_of (kite_open_of n w s).lent ≡ (open_of n w (state_of s)).state
  unfolding kite_open_of open_of
  open_is n w = opened_by n w (allowed n) (manned w (said board)) (roomy n nodes versions) (λ e. manned_seats w (seats_of board) (sym (manned_by_lem w (said board) ∙ ap (manned_by w) (said_length board)) ∙ e))

-- ---- what the calls tell

-- 0, or the refusal's number
abbrev pub number_told : {A : Type 0} → Told A → ℕ
number_told (refused number) = number
number_told (gives a) = 0

returned_number : {A : Type 0} (t : Told A) (s written : Lent) → (returned t s written).number ≡ number_told t
returned_number (refused number) s written = refl
returned_number (gives a) s written = refl

module _ (n w i : ℕ) (s : Lent) where
  pub open_told : (kite_open_of n w s).number ≡ number_told (open_of n w (state_of s)).told
  unfolding kite_open_of
  open_told = returned_number (open_of n w (state_of s)).told s _

  pub start_told : (kind first second : ℕ) (o : Operation) → operation_of kind first second ≡ Some o → readable w s.board ≡ true
      → (kite_start_of n w i kind first second s).number ≡ number_told (start_of n w i o (state_of s)).told
  unfolding kite_start_of
  start_told kind first second o e g =
      ap (λ (x : Option Operation). (start_given x n w i s).number) e ∙ ap (λ (b : Bool). (writes_at i s (start_said b n w i o (state_of s))).number) g
      ∙ returned_number (start_of n w i o (state_of s)).told s _

  pub step_told_lem : (r : Worker) (answer : List ℕ) → record_at s.board i ≡ Some r → leb answer_words (length answer) ≡ true
      → ((kite_step_of n w i s answer).number ≡ number_told (step_of n w i (state_of s)).told) × ((kite_step_of n w i s answer).answer ≡ answer_after (step_of n w i (state_of s)).told answer)
  unfolding kite_step_of
  step_told_lem r answer e g = (
    ap (λ (b : Bool). (step_roomy b n w i s answer).number) g ∙ ap (λ (x : Option Worker). (step_told i s answer (step_said x n w i (state_of s))).number) e ∙ returned_number (step_of n w i (state_of s)).told s _,
    ap (λ (b : Bool). (step_roomy b n w i s answer).answer) g ∙ ap (λ (x : Option Worker). (step_told i s answer (step_said x n w i (state_of s))).answer) e,
  )
