-- What the three calls leave of all that is lent: a refused one leaves everything, and an accepted one changes what document 01 lets it change.
-- Assumes nothing.
use Rattle.std.specs.Prelude.{◌≡◌, refl, ◌≢◌, Bool, true, false, not, ◌&&◌, List, ℕ, ◌+◌, ◌<◌, ◌≤◌, ltb, leb, length, get_or, set, Result}
use Rattle.std.proofs.Common.{sym, ap, ◌∙◌, arith, leb-true, ltb-true, lt-ltb, le-ltb, length-set, get_or-set_other}
use Rattle.std.proofs.lemmas.List.{set-get_or}
use Rattle.decibel.specs.Told.{refused, gives}
use Rattle.trie.specs.declared.Operation.{Operation}
use Rattle.trie.specs.declared.Bounds.{Bounds}
use Rattle.trie.specs.declared.Damage.{Damage}
use Rattle.trie.specs.declared.Worker.{Worker}
use Rattle.trie.specs.Size.{allowed, most_workers}
use Rattle.trie.proofs.SizeLaws.{and_second}
use Rattle.trie.specs.Tables.{roomy}
use Rattle.trie.specs.Sound.{bounds_of, used_sound}
use Rattle.trie.specs.Record.{idle, busy, operation_fits, promised_of}
use Rattle.trie.specs.Values.{ok}
use Rattle.trie.specs.Opening.{open_nodes, open_versions, open_board}
use Rattle.trie.specs.Starting.{Started, check as check_record, records, shared, granted, start_record_of}
use Rattle.trie.specs.Stepping.{Stepped, refuses, step_record_of}
use Rattle.trie.specs.Calls.{State, state, After, after, check, manned, open_of, check_call, start_at, start_of, step_at, step_of}
use Rattle.trie.proofs.TableLaws.{roomy_same}
use Rattle.trie.proofs.OpenLaws.{open_nodes_length, open_versions_length, open_board_length, open_board_beyond}
use Rattle.trie.proofs.StepLaws.{gives_not, swaps_at, Leaves, leaves_all, step_leaves, step_refused}

-- ---- a refused start of one record

module _ (w : Worker) (k : ℕ) where
  record_refused : (t : Bool) (number : ℕ) (s : Started) → (s.told ≡ refused k → s.worker ≡ w) → (check_record t number w s).told ≡ refused k → (check_record t number w s).worker ≡ w
  record_refused true number s h e = h e
  record_refused false number s h e = refl

  shared_refused : (b : Bounds) (o : Operation) (promised : ℕ) → (shared b o promised w).told ≡ refused k → (shared b o promised w).worker ≡ w
  shared_refused b (Operation.Update u) promised e = record_refused (leb (b.used + promised + b.share) b.room) 8 (records (Operation.Update u)) (λ e. gives_not e) e
  shared_refused b (Operation.Query q) promised e = gives_not e

  granted_refused : (b : Bounds) (o : Operation) (promised : Result ℕ Damage) → (granted b o promised w).told ≡ refused k → (granted b o promised w).worker ≡ w
  granted_refused b o (Result.Err d) e = refl
  granted_refused b o (Result.Ok promised) e = record_refused (used_sound b) 9 (shared b o promised w) (shared_refused b o promised) e

  pub start_refused : (n : ℕ) (o : Operation) (promised : Result ℕ Damage) (nodes versions : List ℕ) → (start_record_of n o promised w nodes versions).told ≡ refused k
      → (start_record_of n o promised w nodes versions).worker ≡ w
  unfolding start_record_of
  start_refused n o promised nodes versions =
      record_refused (allowed n) 1 _
      (record_refused (roomy n nodes versions) 3 _
      (record_refused (not (busy w)) 5 _
      (record_refused (operation_fits n o) 7 _
      (granted_refused (bounds_of n nodes versions) o promised))))

-- ---- a refused call leaves everything

module _ {A : Type 0} (s : State) (k : ℕ) where
  check_refused : (t : Bool) (number : ℕ) (a : After A) → (a.told ≡ refused k → a.state ≡ s) → (check t number s a).told ≡ refused k → (check t number s a).state ≡ s
  check_refused true number a h e = h e
  check_refused false number a h e = refl

  call_refused : (n w i : ℕ) (a : After A) → (a.told ≡ refused k → a.state ≡ s) → (check_call n w i s a).told ≡ refused k → (check_call n w i s a).state ≡ s
  call_refused n w i a h =
      check_refused (allowed n) 1 _
      (check_refused (manned w s.board) 2 _
      (check_refused (roomy n s.nodes s.versions) 3 _
      (check_refused (ltb i w) 4 a h)))

pub open_call_refused : (n w : ℕ) (s : State) (k : ℕ) → (open_of n w s).told ≡ refused k → (open_of n w s).state ≡ s
unfolding open_of
open_call_refused n w s k =
    check_refused s k (allowed n) 1 _
    (check_refused s k (manned w s.board) 2 _
    (check_refused s k (roomy n s.nodes s.versions) 3 _ (λ e. gives_not e)))

-- a record that is put back where it stood
put_back : (s : State) (i : ℕ) (r : Worker) → r ≡ get_or s.board i idle → state s.nodes s.versions (set s.board i r) ≡ s
put_back s i r e = ap (λ (b : List Worker). state s.nodes s.versions b) (ap (λ (q : Worker). set s.board i q) e ∙ set-get_or s.board i idle)

pub start_call_refused : (n w i : ℕ) (o : Operation) (s : State) (k : ℕ) → (start_of n w i o s).told ≡ refused k → (start_of n w i o s).state ≡ s
unfolding start_of
start_call_refused n w i o s k = call_refused s k n w i _ (λ e. put_back s i _ (start_refused _ k n o _ s.nodes s.versions e))

step_put_back : (s : State) (i : ℕ) (r : Stepped) (k : ℕ) → r ≡ refuses k (get_or s.board i idle) s.nodes s.versions → (step_at i s r).state ≡ s
step_put_back s i r k e = ap (λ (q : Stepped). (step_at i s q).state) e ∙ put_back s i (get_or s.board i idle) refl

pub step_call_refused : (n w i : ℕ) (s : State) (k : ℕ) → (step_of n w i s).told ≡ refused k → (step_of n w i s).state ≡ s
unfolding step_of
step_call_refused n w i s k = call_refused s k n w i _ (λ e. step_put_back s i _ k (step_refused n (get_or s.board i idle) s.nodes s.versions k e))

-- ---- what any call leaves

-- no length changes, and the board's records at w and beyond are as they were
pub record Lent (w : ℕ) (s t : State) : Type 0 where
  pub nodes_length : length t.nodes ≡ length s.nodes
  pub versions_length : length t.versions ≡ length s.versions
  pub board_length : length t.board ≡ length s.board
  pub beyond : (j : ℕ) → w ≤ j → get_or t.board j idle ≡ get_or s.board j idle

lent_all : (w : ℕ) (s : State) → Lent w s s
lent_all w s = record { nodes_length = refl; versions_length = refl; board_length = refl; beyond = λ j h. refl }

check_lent : {A : Type 0} (w : ℕ) (t : Bool) (number : ℕ) (s : State) (a : After A) → (t ≡ true → Lent w s a.state) → Lent w s (check t number s a).state
check_lent w true number s a h = h refl
check_lent w false number s a h = lent_all w s

pub open_lent : (n w : ℕ) (s : State) → Lent w s (open_of n w s).state
unfolding open_of
open_lent n w s =
    check_lent w (allowed n) 1 s _ (λ p.
    check_lent w (manned w s.board) 2 s _ (λ q.
    check_lent w (roomy n s.nodes s.versions) 3 s _ (λ r.
    record {
      nodes_length = open_nodes_length n s.nodes;
      versions_length = open_versions_length n s.versions;
      board_length = open_board_length w s.board;
      beyond = λ j h. open_board_beyond w s.board j h;
    })))

call_lent : {A : Type 0} (n w i : ℕ) (s : State) (a : After A) → (i < w → Lent w s a.state) → Lent w s (check_call n w i s a).state
call_lent n w i s a h =
    check_lent w (allowed n) 1 s _ (λ p.
    check_lent w (manned w s.board) 2 s _ (λ q.
    check_lent w (roomy n s.nodes s.versions) 3 s _ (λ r.
    check_lent w (ltb i w) 4 s a (λ l. h (ltb-true i w l)))))

pub start_lent : (n w i : ℕ) (o : Operation) (s : State) → Lent w s (start_of n w i o s).state
unfolding start_of
start_lent n w i o s =
    call_lent n w i s _ (λ l.
    record {
      nodes_length = refl;
      versions_length = refl;
      board_length = length-set s.board i _;
      beyond = λ j h. get_or-set_other s.board i j _ idle (omega arith);
    })

pub step_lent : (n w i : ℕ) (s : State) → Lent w s (step_of n w i s).state
unfolding step_of
step_lent n w i s =
    let kept = step_leaves n (get_or s.board i idle) s.nodes s.versions in
    call_lent n w i s _ (λ l.
    record {
      nodes_length = kept.nodes_length;
      versions_length = kept.versions_length;
      board_length = length-set s.board i _;
      beyond = λ j h. get_or-set_other s.board i j _ idle (omega arith);
    })

-- ---- start and step move one worker

check_board : {A : Type 0} (j : ℕ) (t : Bool) (number : ℕ) (s : State) (a : After A) → get_or a.state.board j idle ≡ get_or s.board j idle
    → get_or (check t number s a).state.board j idle ≡ get_or s.board j idle
check_board j true number s a h = h
check_board j false number s a h = refl

call_board : {A : Type 0} (n w i j : ℕ) (s : State) (a : After A) → get_or a.state.board j idle ≡ get_or s.board j idle
    → get_or (check_call n w i s a).state.board j idle ≡ get_or s.board j idle
call_board n w i j s a h =
    check_board j (allowed n) 1 s _
    (check_board j (manned w s.board) 2 s _ (check_board j (roomy n s.nodes s.versions) 3 s _ (check_board j (ltb i w) 4 s a h)))

pub start_others : (n w i : ℕ) (o : Operation) (s : State) (j : ℕ) → j ≢ i → get_or (start_of n w i o s).state.board j idle ≡ get_or s.board j idle
unfolding start_of
start_others n w i o s j h = call_board n w i j s _ (get_or-set_other s.board i j _ idle h)

pub step_others : (n w i : ℕ) (s : State) (j : ℕ) → j ≢ i → get_or (step_of n w i s).state.board j idle ≡ get_or s.board j idle
unfolding step_of
step_others n w i s j h = call_board n w i j s _ (get_or-set_other s.board i j _ idle h)

-- ---- start leaves the tables, and step leaves all but one node and one version

check_tables_lem : {A : Type 0} (t : Bool) (number : ℕ) (s : State) (a : After A) (x : ℕ) → Leaves s.nodes s.versions x a.state.nodes a.state.versions
    → Leaves s.nodes s.versions x (check t number s a).state.nodes (check t number s a).state.versions
check_tables_lem true number s a x h = h
check_tables_lem false number s a x h = leaves_all s.nodes s.versions x

call_tables : {A : Type 0} (n w i : ℕ) (s : State) (a : After A) (x : ℕ) → Leaves s.nodes s.versions x a.state.nodes a.state.versions
    → Leaves s.nodes s.versions x (check_call n w i s a).state.nodes (check_call n w i s a).state.versions
call_tables n w i s a x h =
    check_tables_lem (allowed n) 1 s _ x
    (check_tables_lem (manned w s.board) 2 s _ x (check_tables_lem (roomy n s.nodes s.versions) 3 s _ x (check_tables_lem (ltb i w) 4 s a x h)))

pub start_tables : (n w i : ℕ) (o : Operation) (s : State) (x : ℕ) → Leaves s.nodes s.versions x (start_of n w i o s).state.nodes (start_of n w i o s).state.versions
unfolding start_of
start_tables n w i o s x = call_tables n w i s _ x (leaves_all s.nodes s.versions x)

pub step_tables : (n w i : ℕ) (s : State)
    → Leaves s.nodes s.versions (swaps_at (bounds_of n s.nodes s.versions) (get_or s.board i idle).phase) (step_of n w i s).state.nodes (step_of n w i s).state.versions
unfolding step_of
step_tables n w i s = call_tables n w i s _ _ (step_leaves n (get_or s.board i idle) s.nodes s.versions)

-- ---- which refusals are left in a history

-- what an accepted open has tested, and every later call tests again
pub record Ready (n w : ℕ) (s : State) : Type 0 where
  pub sized : allowed n ≡ true
  pub manned : manned w s.board ≡ true
  pub roomy : roomy n s.nodes s.versions ≡ true

pub manned_same : (w : ℕ) (board board' : List Worker) → length board' ≡ length board → manned w board' ≡ manned w board
unfolding manned
manned_same w board board' e = rw e

-- the board has a record for each worker
pub manned_long : (w : ℕ) (board : List Worker) → manned w board ≡ true → w ≤ length board
unfolding manned
manned_long w board e = leb-true w (length board) (and_second (leb 1 w && leb w most_workers) (leb w (length board)) e)

pub lent_ready : {n w : ℕ} {s t : State} → Lent w s t → Ready n w s → Ready n w t
lent_ready {n} {w} {s} {t} l r =
    record {
      sized = r.sized;
      manned = manned_same w s.board t.board l.board_length ∙ r.manned;
      roomy = roomy_same n s.nodes t.nodes s.versions t.versions l.nodes_length l.versions_length ∙ r.roomy;
    }

ready_call : {A : Type 0} (n w i : ℕ) (s : State) (a : After A) → Ready n w s → check_call n w i s a ≡ check (ltb i w) 4 s a
ready_call n w i s a r = rw (r.sized, r.manned, r.roomy)

-- a call to a worker of the board comes to its record
pub start_of_record : (n w i : ℕ) (o : Operation) (s : State) → Ready n w s → i < w
    → start_of n w i o s ≡ start_at i s (start_record_of n o (promised_of (bounds_of n s.nodes s.versions).share w s.board) (get_or s.board i idle) s.nodes s.versions)
unfolding start_of
start_of_record n w i o s r h = ready_call n w i s _ r ∙ rw (lt-ltb i w h)

pub step_of_record : (n w i : ℕ) (s : State) → Ready n w s → i < w → step_of n w i s ≡ step_at i s (step_record_of n (get_or s.board i idle) s.nodes s.versions)
unfolding step_of
step_of_record n w i s r h = ready_call n w i s _ r ∙ rw (lt-ltb i w h)

-- any other is refused
pub start_no_worker : (n w i : ℕ) (o : Operation) (s : State) → Ready n w s → w ≤ i → start_of n w i o s ≡ after (refused 4) s
unfolding start_of
start_no_worker n w i o s r h = ready_call n w i s _ r ∙ rw (le-ltb i w h)

pub step_no_worker : (n w i : ℕ) (s : State) → Ready n w s → w ≤ i → step_of n w i s ≡ after (refused 4) s
unfolding step_of
step_no_worker n w i s r h = ready_call n w i s _ r ∙ rw (le-ltb i w h)

-- open is accepted exactly where all is ready
pub open_ready : (n w : ℕ) (s : State) → (open_of n w s).told ≡ gives ok → Ready n w s
unfolding open_of
open_ready n w s = by (allowed n) (manned w s.board) (roomy n s.nodes s.versions) refl refl refl
  where
    by : (p q r : Bool) → allowed n ≡ p → manned w s.board ≡ q → roomy n s.nodes s.versions ≡ r
        → (check p 1 s (check q 2 s (check r 3 s (after (gives ok) (state (open_nodes n s.nodes) (open_versions n s.versions) (open_board w s.board)))))).told ≡ gives ok → Ready n w s
    by true true true a b c e = record { sized = a; manned = b; roomy = c }
    by true true false a b c e = gives_not (sym e)
    by true false r a b c e = gives_not (sym e)
    by false q r a b c e = gives_not (sym e)

pub open_accepted : (n w : ℕ) (s : State) → Ready n w s
    → open_of n w s ≡ after (gives ok) (state (open_nodes n s.nodes) (open_versions n s.versions) (open_board w s.board))
unfolding open_of
open_accepted n w s r = rw (r.sized, r.manned, r.roomy)
