-- The theorem: an accepted open makes a moment that belongs to a machine, every call leaves one, and such a moment has all
-- that the third demand asks. Assumes nothing.
use Rattle.std.specs.Prelude.{◌≡◌, refl, ◌⊎◌, true, false, List, [], ◌∷◌, ◌++◌, ℕ, zero, suc, ◌+◌, ◌*◌, ◌-◌, ◌/◌, ◌^◌, ◌≤◌, ◌<◌, length, get_or}
use Rattle.std.proofs.Common.{sym, ap, ◌∙◌, subst, inl, inr, le_refl, div-one, arith}
use mathlib.Core.List.Memᴰ
use Rattle.std.proofs.Math.Option.{some}
use Rattle.std.proofs.Math.Nat.{div-div-eq-div-mul, pow-succ'}
use Rattle.decibel.specs.Energy.{energy_of}
use Rattle.decibel.specs.Told.{gives}
use Rattle.trie.specs.declared.Update.{Update}
use Rattle.trie.specs.declared.Operation.{Operation}
use Rattle.trie.specs.declared.Phase.{Phase}
use Rattle.trie.specs.declared.Worker.{Worker as Record}
use Rattle.trie.specs.Size.{height_of}
use Rattle.trie.proofs.SizeLaws.{sized}
use Rattle.trie.specs.Tables.{current_of}
use Rattle.trie.specs.Record.{busy_phase, cell_of}
use Rattle.trie.specs.Values.{Ok, ok}
use Rattle.trie.specs.Opening.{open_nodes, open_versions, open_board}
use Rattle.trie.proofs.OpenLaws.{open_board_idle}
use Rattle.trie.specs.Calls.{State, state, After, after as made, open_of, start_of, step_of}
use Rattle.trie.proofs.CallLaws.{Ready, lent_ready, open_lent, open_ready, open_accepted, start_call_refused, step_call_refused, manned_long}
use Rattle.history.specs.Lists.{◌∈◌, all_nil}
use Rattle.history.proofs.ListLaws.{all_map, all_at}
use Rattle.history.proofs.Nodes.{Side, Node, down, Below, below_self, below_up}
use Rattle.history.proofs.Numbers.{number, half, length_leaf, number_leaf}
use Rattle.history.specs.Book.{blank}
use Rattle.history.specs.Arrivals.{Entry, entry}
use Rattle.history.specs.Order.{Placed, placed, Answered, Memory, nothing_yet, ops}
use Rattle.history.specs.Histories.{Call, start, step, Moment, phase_of, after_start, after_step, called, after, history, Refuses, Accepts}
use Rattle.history.specs.Theorem.{replay, Once, Stands, Before, Shows, Reached, Holds, EveryHistoryIsABook}
use Rattle.history.proofs.Machine.{at, cell, initial}
use Rattle.history.proofs.Machine.{State as Machine}
use Rattle.history.proofs.View.{Resting, rests}
use Rattle.history.proofs.AtLeaf.{fit_below}
use Rattle.history.proofs.Once.{reached_down}
use Rattle.history.proofs.Kept.{opening_holds}
use Rattle.history.proofs.Whole.{version_of}
use Rattle.history.proofs.Opens.{opened, opened_view}
use Rattle.history.proofs.Promise.{open_promise, promise_room}
use Rattle.history.proofs.Asked.{root_whole, root_shows}
use Rattle.history.proofs.Beneath.{root_shown}
use Rattle.history.proofs.Chronicle.{stands_before}
use Rattle.history.proofs.Placing.{same_book}
use Rattle.history.proofs.Replay.{view, replay_at}
use Rattle.history.proofs.UnderWay.{Came, Querying, resting}
use Rattle.history.proofs.Tied.{Tied}
use Rattle.history.proofs.OrderGrows.{order_grows}
use Rattle.history.proofs.OwnSteps.{asks, counted}
use Rattle.history.proofs.StepCalls.{Belongs, StepTold, step_told_lem}
use Rattle.history.proofs.StartCalls.{StartTold, start_told}

-- ---- every moment belongs to a machine

open_belongs : (n w : ℕ) (s : State) → (open_of n w s).told ≡ gives ok → Belongs n w (open_of n w s).state nothing_yet
open_belongs n w s told = subst (λ a. Belongs n w a.state nothing_yet) (sym is) (record { machine = initial (height_of n) (2 * n - 1) (version_of (open_versions n s.versions)); tied = tied })
  where
    ready : Ready n w s
    ready = open_ready n w s told

    is : open_of n w s ≡ made (gives ok) (state (open_nodes n s.nodes) (open_versions n s.versions) (open_board w s.board))
    is = open_accepted n w s ready

    long : w ≤ length s.board
    long = manned_long w s.board ready.manned

    idle_phase_lem : (i : ℕ) → i < w → phase_of i (state (open_nodes n s.nodes) (open_versions n s.versions) (open_board w s.board)) ≡ Phase.Idle
    idle_phase_lem i l = ap (λ (x : Record). x.phase) (open_board_idle w s.board i l long)

    tied : Tied n w (initial (height_of n) (2 * n - 1) (version_of (open_versions n s.versions))) (state (open_nodes n s.nodes) (open_versions n s.versions) (open_board w s.board)) nothing_yet
    tied =
        record {
          ready = subst (λ (a : After Ok). Ready n w a.state) is (lent_ready (open_lent n w s) ready);
          promise = open_promise n w s.nodes s.versions s.board ready.sized ready.roomy long;
          inv = opening_holds (height_of n) energy_of (2 * n - 1) (version_of (open_versions n s.versions)) (opened n s.nodes s.versions ready.sized ready.roomy energy_of);
          view = opened_view n s.nodes s.versions ready.sized ready.roomy;
          shown = λ i l. subst (λ p. Resting p) (sym (idle_phase_lem i l)) rests;
          remembers = record { reached = λ y l. refl; waiting = λ y l. refl };
          placed = refl;
          tasked = λ i l. tt;
          ledger = λ o e. absurd (let z : ◌≡◌ {A = ℕ} 0 1 = cc in omega arith);
          next = le_refl 0;
          chronicle = record { once = tt; sorted = tt; started = all_nil; born = λ id l. absurd (omega arith); stands = λ id a l. absurd (omega arith); in_time = λ id l. absurd (omega arith) };
          came = λ id u a l. absurd (omega arith);
          carried = λ id l. absurd (omega arith);
          under_way = λ i l. subst (λ p. Querying (height_of n) nothing_yet (initial (height_of n) (2 * n - 1) (version_of (open_versions n s.versions))).shared 0 p) (sym (idle_phase_lem i l)) resting;
          apart = λ i j l k d b. absurd (let y : false ≡ true = ap busy_phase (sym (idle_phase_lem i l)) ∙ b in let z : ◌≡◌ {A = ℕ} 0 1 = cc in omega arith);
        }

module _ (n w : ℕ) where
  step_belongs : (i : ℕ) (t : Moment) → StepTold n w i t.state t.memory → Belongs n w t.state t.memory → Belongs n w (called n w (step i) t).state (called n w (step i) t).memory
  step_belongs i t (StepTold.turned_away_lem k e d f) b =
      subst (λ x. Belongs n w (step_of n w i t.state).state (after_step x n i t.state t.memory)) (sym e) (subst (λ x. Belongs n w x t.memory) (sym (step_call_refused n w i t.state k e)) b)
  step_belongs i t (StepTold.accepted course e b) _ = subst (λ x. Belongs n w (step_of n w i t.state).state (after_step x n i t.state t.memory)) (sym e) b

  start_belongs : (i : ℕ) (o : Operation) (t : Moment) → StartTold n w i o t.state t.memory → Belongs n w t.state t.memory → Belongs n w (called n w (start i o) t).state (called n w (start i o) t).memory
  start_belongs i o t (StartTold.turned_away_lem k e d) b =
      subst (λ x. Belongs n w (start_of n w i o t.state).state (after_start x i o t.memory)) (sym e) (subst (λ x. Belongs n w x t.memory) (sym (start_call_refused n w i o t.state k e)) b)
  start_belongs i o t (StartTold.accepted e b) _ = subst (λ x. Belongs n w (start_of n w i o t.state).state (after_start x i o t.memory)) (sym e) b

  call_belongs : (c : Call) (t : Moment) → Belongs n w t.state t.memory → Belongs n w (called n w c t).state (called n w c t).memory
  call_belongs (start i o) t b = start_belongs i o t (start_told n w i o t.state t.memory b) b
  call_belongs (step i) t b = step_belongs i t (step_told_lem n w i t.state t.memory b) b

  calls_belong : (calls : List Call) (t : Moment) → Belongs n w t.state t.memory → Belongs n w (after n w calls t).state (after n w calls t).memory
  calls_belong [] t b = b
  calls_belong (c ∷ calls) t b = calls_belong calls (called n w c t) (call_belongs c t b)

-- ---- such a moment has all that is asked

-- a place is told by its operation
once_same : (p q : Placed) (s : List Placed) → Once s → p ∈ s → q ∈ s → p.id ≡ q.id → p ≡ q
once_same p q s u (Memᴰ.head {x = a} {xs = r} e) m i = go (Memᴰ.cases_cons m)
  where
    go : (q ≡ a) ⊎ (q ∈ r) → p ≡ q
    go (inl f) = e ∙ sym f
    go (inr f) = absurd (all_at u.0 f (sym i ∙ ap (λ (z : Placed). z.id) e))
once_same p q s u (Memᴰ.tail {x = a} {xs = r} k) m i = go (Memᴰ.cases_cons m) (λ f. once_same p q r u.1 k f i)
  where
    go : (q ≡ a) ⊎ (q ∈ r) → (q ∈ r → p ≡ q) → p ≡ q
    go (inl f) g = absurd (all_at u.0 k (i ∙ ap (λ (z : Placed). z.id) f))
    go (inr f) g = g f

-- the node d levels above a node
record Above (z : Node) (d : ℕ) : Type 0 where
  node : Node
  below : Below node z
  number_is : number node ≡ number z / 2 ^ d
  deep : length node + d ≡ length z

above : (z : Node) (d : ℕ) → d ≤ length z → Above z d
above z zero l = record { node = z; below = below_self z; number_is = sym (div-one (number z)); deep = omega arith }
above [] (suc d) l = absurd (omega arith)
above (b ∷ x) (suc d) l = up (above x d (omega arith))
  where
    over : {y x : Node} → Below y x → Below y (b ∷ x)
    over {y} {x} p = record { turns = p.turns ++ (b ∷ []); is = ap (λ (z : Node). b ∷ z) p.is ∙ sym (snoc p.turns y) }
      where
        snoc : (t : List Side) (y : Node) → down (t ++ (b ∷ [])) y ≡ b ∷ down t y
        snoc [] y = refl
        snoc (c ∷ t) y = snoc t (c ∷ y)

    up : Above x d → Above (b ∷ x) (suc d)
    up a =
        record {
          node = a.node;
          below = over a.below;
          number_is = a.number_is ∙ ap (λ (m : ℕ). m / 2 ^ d) (sym (half b (number x))) ∙ div-div-eq-div-mul (number (b ∷ x)) 2 (2 ^ d) ∙ ap (λ (m : ℕ). number (b ∷ x) / m) (sym (pow-succ' 2 d));
          deep = omega (arith, a.deep);
        }

module _ (n w : ℕ) (t : Moment) (b : Belongs n w t.state t.memory) where
  abbrev σ : Machine
  σ = b.machine

  abbrev T : Tied n w b.machine t.state t.memory
  T = b.tied

  abbrev h : ℕ
  h = height_of n

  abbrev m : Memory
  m = t.memory

  undamaged : (c : Call) → ¬ Refuses n w c t.state 9
  undamaged (start i o) = by (start_told n w i o t.state t.memory b)
    where
      by : StartTold n w i o t.state t.memory → ¬ Refuses n w (start i o) t.state 9
      by (StartTold.turned_away_lem k e d) f = d (cc)
      by (StartTold.accepted e z) f = absurd (let y : ◌≡◌ {A = ℕ} 0 1 = cc in omega arith)
  undamaged (step i) = by (step_told_lem n w i t.state t.memory b)
    where
      by : StepTold n w i t.state t.memory → ¬ Refuses n w (step i) t.state 9
      by (StepTold.turned_away_lem k e d g) f = d (cc)
      by (StepTold.accepted course e z) f = absurd (let y : ◌≡◌ {A = ℕ} 0 1 = cc in omega arith)

  goes_on_lem : (i : ℕ) → i < w → busy_phase (phase_of i t.state) ≡ true → Accepts n w i t.state
  goes_on_lem i l busy = by (step_told_lem n w i t.state t.memory b)
    where
      by : StepTold n w i t.state t.memory → Accepts n w i t.state
      by (StepTold.turned_away_lem k e d g) = absurd (let y : false ≡ true = sym (g l) ∙ busy in let z : ◌≡◌ {A = ℕ} 0 1 = cc in omega arith)
      by (StepTold.accepted course e z) = record { course = course; is = e }

  precedes : (p q : Placed) (a : Answered) → p ∈ m.order → q ∈ m.order → (m.lives p.id).answer ≡ some a → a.moment < (m.lives q.id).started → Before p q m.order
  precedes p q a k l e f = stands_before p q m.order T.chronicle.sorted k l (by (T.chronicle.stands p.id a (all_at T.chronicle.started k).0 e))
    where
      by : Stands n m.order p.id (m.lives p.id).operation a → p.moment < q.moment
      by s = omega (
        arith,
        s.by,
        (all_at T.chronicle.started l).2,
        ap (λ (z : Placed). z.moment) (once_same p (placed p.id (m.lives p.id).operation s.moment) m.order T.chronicle.once k
            (subst (λ z. placed p.id (m.lives p.id).operation s.moment ∈ z) (sym s.is) (Memᴰ.append_right s.before (Memᴰ.head refl))) refl),
      )

  -- the book of the order is that of the root's list
  book_is : view (at σ.shared []).reached ≡ replay blank m.order
  book_is = sym (same_book blank m.order (at σ.shared []).reached T.placed ∙ (λ k c. replay_at blank c (at σ.shared []).reached k))

  shows : Shows h t.state.versions (current_of t.state.nodes 1).0 (replay blank m.order)
  shows = subst (λ B. Shows h t.state.versions (get_or t.state.nodes 1 0) B) book_is
      (root_shown t.state.versions _ (view (at σ.shared []).reached) h (get_or t.state.nodes 1 0)
      (root_whole n T.ready.sized T.ready.roomy T.promise.low (omega (arith, T.promise.room)) T.view T.inv.closed T.inv.spots)
      (root_shows n T.ready.sized T.ready.roomy T.promise.low (omega (arith, T.promise.room)) T.view T.inv.closed T.inv.spots))

  -- who has reached the root has reached every node on the way to it
  on_path : (e : Entry) → e ∈ (at σ.shared []).reached → (y : Node) → Below y (cell h e.op) → e ∈ (at σ.shared y).reached
  on_path e k [] p = k
  on_path e k (c ∷ y) p = reached_down h energy_of σ.shared T.inv.spots y c e p (on_path e k y (below_up p))

  reached : (id : ℕ) (u : Update) (a : Answered) → id < m.starts → (m.lives id).operation ≡ Operation.Update u → (m.lives id).answer ≡ some a → Reached n m id u a.value
  reached id u a l o e = by (T.came id u a l o e)
    where
      by : Came σ.shared id u a.value → Reached n m id u a.value
      by c = record { result = c.result; told = c.told; path = λ d k. at_node_lem d (above (cell h (record { id = id; update = u })) d (omega (arith, length_leaf h (cell_of u)))) }
        where
          leaf_number : number (cell h (record { id = id; update = u })) ≡ n + cell_of u
          leaf_number = number_leaf h (cell_of u) (fit_below u (all_at (T.inv.spots []).inside c.at_root_lem).1.fit) ∙ ap (λ (z : ℕ). z + cell_of u) (sym (sized n T.ready.sized).power)

          at_node_lem : (d : ℕ) → Above (cell h (record { id = id; update = u })) d → entry (record { id = id; update = u }) c.result ∈ m.reached ((n + cell_of u) / 2 ^ d)
          at_node_lem d x = subst (λ z. entry (record { id = id; update = u }) c.result ∈ m.reached z) (x.number_is ∙ ap (λ (z : ℕ). z / 2 ^ d) leaf_number)
              (subst (λ z. entry (record { id = id; update = u }) c.result ∈ z) (sym (T.remembers.reached x.node (omega (arith, x.deep, length_leaf h (cell_of u)))))
              (on_path (entry (record { id = id; update = u }) c.result) c.at_root_lem x.node x.below))

  holds : Holds n w t
  holds =
      record {
        undamaged = undamaged;
        of_the_root = T.placed ∙ ap ops (sym (T.remembers.reached [] (omega arith)));
        asks = asks n w t;
        kept = λ calls. order_grows n w calls t;
        once = T.chronicle.once;
        started = all_map (λ p k. (k.0, k.1)) T.chronicle.started;
        stands = T.chronicle.stands;
        after_start = all_map (λ p k. k.2) T.chronicle.started;
        precedes = precedes;
        shows = shows;
        in_time = T.chronicle.in_time;
        carried = T.carried;
        goes_on = goes_on_lem;
        counted = counted n w t;
        room = promise_room t.state T.promise;
        reached = reached;
      }

pub every_history_is_a_book : EveryHistoryIsABook
every_history_is_a_book n w s calls told = holds n w (history n w s calls) (calls_belong n w calls (record { state = (open_of n w s).state; memory = nothing_yet }) (open_belongs n w s told))
