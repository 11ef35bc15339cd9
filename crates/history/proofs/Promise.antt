-- An accepted update never lacks a version: what is used and what is promised are together within the room, at every moment.
-- Assumes nothing.
use Rattle.std.specs.Prelude.{◌≡◌, refl, Bool, true, false, List, [], ◌∷◌, ℕ, suc, ◌+◌, ◌*◌, ◌-◌, ◌≤◌, ◌<◌, length, get_or, set, Result}
use Rattle.std.proofs.Math.Decide.{ℕ_discrete}
use Rattle.std.proofs.Common.{le_refl, arith, le-leb}
use Rattle.trie.specs.declared.Phase.{Phase}
use Rattle.trie.specs.declared.Worker.{Worker as Record}
use Rattle.trie.specs.Size.{allowed, height_of}
use Rattle.trie.proofs.SizeLaws.{sized}
use Rattle.trie.specs.Tables.{room_of, used_of, roomy}
use Rattle.trie.proofs.TableLaws.{room_same, roomy_nodes, roomy_versions}
use Rattle.trie.specs.Record.{idle, owed_phase, promised_of}
use Rattle.trie.proofs.PromiseLaws.{promised_part, promised_set, promised_idle}
use Rattle.trie.specs.Opening.{open_nodes, open_versions, open_board}
use Rattle.trie.proofs.OpenLaws.{open_used, open_versions_length, open_board_length, open_board_idle}
use Rattle.trie.specs.Stepping.{Stepped}
use Rattle.trie.specs.Calls.{State}
use Rattle.history.proofs.Nodes.{Node}
use Rattle.history.specs.Book.{fits, mark}
use Rattle.history.specs.Arrivals.{Op, Entry}
use Rattle.history.proofs.Machine.{Shared, nothing, at_node, at_left, at_both, Climb, Worker, idle as resting, reading, swapping, climbing, answered, at, go_up, missed, node_try, cell, leaf_read, leaf_try, step_w}
use Rattle.history.proofs.Invariant.{WorkerOk}
use Rattle.history.proofs.View.{View, Resting, rests, asks, finds, ranks, selects, Shown}
use Rattle.history.specs.Theorem.{Room}
use Rattle.history.proofs.Simulation.{Working, at_read, at_swap, at_climb, Follows}

-- ---- what one update may still make

abbrev pub owed_by : ℕ → Worker → ℕ
owed_by h resting = 0
owed_by h (reading o) = h + 1
owed_by h (swapping o v) = h + 1
owed_by h (climbing c st) = h + 1 - c.made
owed_by h (answered o r) = 0

resting_owed : (share : ℕ) {p : Phase} → Resting p → owed_phase share p ≡ Result.Ok 0
resting_owed share rests = refl
resting_owed share asks = refl
resting_owed share finds = refl
resting_owed share ranks = refl
resting_owed share selects = refl

up_owed : (h : ℕ) (o : Op) (r : Bool) (m : ℕ) (x : Node) → owed_by h (go_up o r m x) ≤ h + 1 - m
up_owed h o r m [] = omega arith
up_owed h o r m (b ∷ x) = omega arith

missed_owed : (h : ℕ) (t : Bool) (c : Climb) → owed_by h (missed t c) ≤ h + 1 - c.made
missed_owed h false c = omega arith
missed_owed h true c = up_owed h c.op c.res c.made c.node

module _ (h : ℕ) (weight : ℕ → ℕ) (G : Shared) where
  pub shown_owed : (W : Worker) (p : Phase) → WorkerOk h weight G W → Shown W p → owed_phase (h + 1) p ≡ Result.Ok (owed_by h W)
  shown_owed resting p ok s = resting_owed (h + 1) s
  shown_owed (reading o) p ok s = rw s
  shown_owed (swapping o v) p ok s = rw s
  shown_owed (climbing c st) p ok s = rw (s, le-leb c.made (h + 1) (omega (arith, ok.share)))
  shown_owed (answered o r) p ok s = rw s

  read_owed : (t : Bool) (o : Op) → (leaf_read h t G o).0.used + owed_by h (leaf_read h t G o).1 ≤ G.used + (h + 1)
  read_owed true o = omega (arith, up_owed h o false 0 (cell h o))
  read_owed false o = omega arith

  try_owed : {P : Type 0} (d : Dec P) (o : Op) → (leaf_try h weight d G o).0.used + owed_by h (leaf_try h weight d G o).1 ≤ G.used + (h + 1)
  try_owed (yes p) o = omega (arith, up_owed h o true 1 (cell h o))
  try_owed (no n) o = omega (arith, up_owed h o false 0 (cell h o))

  node_owed : {P : Type 0} (d : Dec P) (c : Climb) (l : ℕ) (s : List Entry) (r : ℕ) (t : List Entry) → c.made ≤ h
      → (node_try d G c l s r t).0.used + owed_by h (node_try d G c l s r t).1 ≤ G.used + (h + 1 - c.made)
  node_owed (yes p) c l s r t m = omega (arith, up_owed h c.op c.res (suc c.made) c.node)
  node_owed (no n) c l s r t m = omega (arith, missed_owed h c.again c)

  -- a step that uses a version more may make one less
  pub step_owed : (W : Worker) → WorkerOk h weight G W → (step_w h weight G W).0.used + owed_by h (step_w h weight G W).1 ≤ G.used + owed_by h W
  step_owed resting ok = omega arith
  step_owed (reading o) ok = read_owed (fits o.update (mark (G.ver (at G (cell h o)).current))) o
  step_owed (swapping o v) ok = try_owed (ℕ_discrete (at G (cell h o)).current v) o
  step_owed (climbing c nothing) ok = omega arith
  step_owed (climbing c (at_node v)) ok = omega arith
  step_owed (climbing c (at_left v l s)) ok = omega arith
  step_owed (climbing c (at_both v l s r t)) ok = node_owed (ℕ_discrete (at G c.node).current v) c l s r t (omega (arith, ok.share))
  step_owed (answered o r) ok = omega arith

  pub working_owes : (W : Worker) → Working W → WorkerOk h weight G W → 1 ≤ owed_by h W
  working_owes (reading o) at_read ok = omega arith
  working_owes (swapping o v) at_swap ok = omega arith
  working_owes (climbing c st) at_climb ok = omega (arith, ok.share)
  working_owes resting active ok = elim active [ ]
  working_owes (answered _ _) active ok = elim active [ ]

-- ---- the promise

pub record Promise (n w : ℕ) (nodes versions : List ℕ) (board : List Record) : Type 0 where
  pub promised : ℕ
  pub is : promised_of (height_of n + 1) w board ≡ Result.Ok promised
  pub room : used_of nodes + promised ≤ room_of versions
  pub low : 2 * n - 1 ≤ used_of nodes

-- as the theorem says it
pub promise_room : {n w : ℕ} (s : State) → Promise n w s.nodes s.versions s.board → Room (height_of n + 1) w s
promise_room s p = record { promised = p.promised; is = p.is; within = p.room }

pub open_promise : (n w : ℕ) (nodes versions : List ℕ) (board : List Record) → allowed n ≡ true → roomy n nodes versions ≡ true → w ≤ length board
    → Promise n w (open_nodes n nodes) (open_versions n versions) (open_board w board)
open_promise n w nodes versions board size room l =
    let u = open_used n nodes (omega (arith, (sized n size).from)) (roomy_nodes n nodes versions room) in
    record {
      promised = 0;
      is = promised_idle (height_of n + 1) w (open_board w board) (omega (arith, open_board_length w board)) (λ i k. open_board_idle w board i k l);
      room = omega (arith, u, room_same versions (open_versions n versions) (open_versions_length n versions), roomy_versions n nodes versions room);
      low = omega (arith, u);
    }

module _ (n w : ℕ) {nodes versions : List ℕ} {board : List Record} (i : ℕ) (inside : i < w) (long : w ≤ length board) (p : Promise n w nodes versions board) where
  -- one record changes: its part c comes in the place of the part a
  pub change_promise : {nodes' versions' : List ℕ} (r : Record) (a c : ℕ) → owed_phase (height_of n + 1) (get_or board i idle).phase ≡ Result.Ok a → owed_phase (height_of n + 1) r.phase ≡ Result.Ok c
      → used_of nodes' + (p.promised + c) ≤ room_of versions + a → used_of nodes ≤ used_of nodes' → room_of versions' ≡ room_of versions → Promise n w nodes' versions' (set board i r)
  change_promise r a c e f fits grows same =
      let q = promised_set (height_of n + 1) w board i p.promised a c r inside long p.is e f in
      record { promised = q.0; is = q.1; room = omega (arith, q.2, p.room, same); low = omega (arith, p.low) }

  -- a worker without an update, before and after, promises nothing
  pub rest_promise : (r : Record) → Resting (get_or board i idle).phase → Resting r.phase → Promise n w nodes versions (set board i r)
  rest_promise r e f = change_promise r 0 0 (resting_owed (height_of n + 1) e) (resting_owed (height_of n + 1) f) (omega (arith, p.room)) (le_refl (used_of nodes)) refl

  module _ (weight : ℕ → ℕ) {G : Shared} (v : View (height_of n) G nodes versions) (W : Worker) (ok : WorkerOk (height_of n) weight G W) (shown : Shown W (get_or board i idle).phase) where
    -- an update under way has a version to spare
    pub spare : Working W → used_of nodes < room_of versions
    spare k =
        let q = promised_part (height_of n + 1) w board i p.promised inside long p.is in
        let z : q.0 ≡ owed_by (height_of n) W = cc (q.1, shown_owed (height_of n) weight G W (get_or board i idle).phase ok shown) in
        omega (arith, q.2, p.room, working_owes (height_of n) weight G W k ok)

    -- and its step keeps the promise
    pub step_promise : (s : Stepped) → Follows (height_of n) (step_w (height_of n) weight G W) s → WorkerOk (height_of n) weight (step_w (height_of n) weight G W).0 (step_w (height_of n) weight G W).1
        → used_of nodes ≤ used_of s.nodes → length s.versions ≡ length versions → Promise n w s.nodes s.versions (set board i s.worker)
    step_promise s f ok' grows same =
        change_promise s.worker (owed_by (height_of n) W) (owed_by (height_of n) (step_w (height_of n) weight G W).1)
        (shown_owed (height_of n) weight G W (get_or board i idle).phase ok shown)
        (shown_owed (height_of n) weight (step_w (height_of n) weight G W).0 (step_w (height_of n) weight G W).1 s.worker.phase ok' f.shown)
        (omega (arith, step_owed (height_of n) weight G W ok, f.view.used, v.used, p.room)) grows (room_same versions s.versions same)
