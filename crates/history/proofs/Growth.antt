-- What one worker's step does to the rest, as far as the other workers see it; and that facts which hold of them still
-- hold when the shared state has grown so. Each kind of step has then only to show that it grew so. Assumes nothing.
use Rattle.std.specs.Prelude.{◌≡◌, refl, ◌≢◌, ◌⊎◌, true, false, List, [], ◌∷◌, ℕ, ◌≤◌, ◌<◌, length}
use Rattle.std.proofs.Common.{sym, ◌∙◌, subst, inl, inr, arith}
use Rattle.std.proofs.Math.Decide.{ℕ_discrete}
use Rattle.trie.specs.declared.Version.{Version}
use Rattle.trie.specs.Record.{cell_of}
use Rattle.history.specs.Lists.{◌∈◌, Prefix}
use Rattle.history.proofs.ListLaws.{prefix_trans, mem_prefix, all_map}
use Rattle.history.proofs.Nodes.{Side, lo, hi, Node, Below, below_length}
use Rattle.history.proofs.Numbers.{length_leaf}
use Rattle.history.specs.Book.{fits, mark}
use Rattle.history.specs.Arrivals.{Op, Entry, entry}
use Rattle.history.specs.Put.{put}
use Rattle.history.proofs.PutLaws.{put_all}
use Rattle.history.proofs.Machine.{Spot, Shared, Stage, nothing, at_node, at_left, at_both, Climb, Worker, idle, reading, swapping, climbing, answered, State, at, cell, settled}
use Rattle.history.proofs.Invariant.{Closed, Absent, Known, its, Late, Knows, PairOk, OnClimb, OnOp, Pair, Apart, SpotOk, WasAt, HeldOk, SawOk, StageOk, LeafOk, WorkerOk, Inv}
use Rattle.history.proofs.Depicting.{Stable, depicts_ver}

-- the versions from which all that is reached stays as it is: here every version that is used, and where numbers are given
-- out again, those that are current or held
abbrev pub Lasting : Shared → ℕ → Type 0
Lasting G v = v ≤ G.used

module _ (h : ℕ) (weight : ℕ → ℕ) where
  -- at one node. J: the update is not the one that swaps; K: the swap has seen what the refresh has to put in place
  pub data Change (u : ℕ) (J : Op → Type 0) (K : Climb → Type 0) (y : Node) (a a' : Spot) : Type 0 where
    kept : a'.current ≡ a.current → ((b : Side) → a'.taken b ≡ a.taken b) → ((o : Op) → o ∈ a.waiting → o ∈ a'.waiting) → Change u J K y a a'
    leaf : u < a'.current → length y ≡ h → ((o : Op) → o ∈ a.waiting → J o → entry o false ∈ a'.reached) → Change u J K y a a'
    inner : u < a'.current → length y < h → ((c : Climb) → c.node ≡ y → K c → Below (c.side ∷ y) (cell h c.op) → its c ∈ a'.reached) → Change u J K y a a'

  pub record Grow (J : Op → Type 0) (K : Climb → Type 0) (G G' : Shared) : Type 0 where
    pub more : G.used ≤ G'.used
    pub stable : (v : ℕ) → Lasting G v → Stable G.ver G'.ver v
    pub grows : (y : Node) → Prefix (at G y).reached (at G' y).reached
    pub change : (y : Node) → Change G.used J K y (at G y) (at G' y)
    pub nexts : G.next ≤ G'.next
    pub knew : (o : Op) → Known h G o → Known h G' o
    pub absent : (o : Op) (y : Node) → length y ≡ h → J o → Absent o.id (at G y) → Absent o.id (at G' y)

  module _ {J : Op → Type 0} {K : Climb → Type 0} {G G' : Shared} (g : Grow J K G G') where
    pub was_grow : (y : Node) (v : ℕ) → WasAt h weight G y v → WasAt h weight G' y v
    was_grow y v p = record { le = omega (arith, p.le, g.more); list = p.list; pre = prefix_trans p.pre (g.grows y); depicts = depicts_ver h weight (g.stable _ p.le) p.depicts }

    held_grow : (c : Climb) (v : ℕ) → Below (c.side ∷ c.node) (cell h c.op) → (c.again ≡ true → K c) → HeldOk h weight G c v → HeldOk h weight G' c v
    held_grow c v below k p = record { was = was_grow c.node v p.was; placed = λ e. go (g.change c.node) (p.placed e) e }
      where
        go : Change G.used J K c.node (at G c.node) (at G' c.node) → ((at G c.node).current ≡ v) ⊎ (its c ∈ (at G c.node).reached) → c.again ≡ true
            → ((at G' c.node).current ≡ v) ⊎ (its c ∈ (at G' c.node).reached)
        go ch (inr m) e = inr (mem_prefix (g.grows c.node) m)
        go (kept q r s) (inl w) e = inl (q ∙ w)
        go (leaf q r s) (inl w) e = absurd (omega (arith, below_length below, length_leaf h (cell_of c.op.update)))
        go (inner q r s) (inl w) e = inr (s c refl (k e) below)

    saw_grow : (c : Climb) (v : ℕ) (b : Side) (l : ℕ) (s : List Entry) → v ≤ G.used → SawOk h weight G c v b l s → SawOk h weight G' c v b l s
    saw_grow c v b l s vle p =
        record {
          le = omega (arith, p.le, g.more);
          depicts = depicts_ver h weight (g.stable _ p.le) p.depicts;
          pre = prefix_trans p.pre (g.grows (b ∷ c.node));
          taken = go (g.change c.node);
          own = p.own;
        }
      where
        go : Change G.used J K c.node (at G c.node) (at G' c.node) → (at G' c.node).current ≡ v → Prefix ((at G' c.node).taken b) s
        go (kept q r t) e = rw (r b) (p.taken (sym q ∙ e))
        go (leaf q r t) e = absurd (omega arith)
        go (inner q r t) e = absurd (omega arith)

    stage_grow : (c : Climb) (st : Stage) → Below (c.side ∷ c.node) (cell h c.op) → (c.again ≡ true → K c) → StageOk h weight G c st → StageOk h weight G' c st
    stage_grow c nothing below k p = tt
    stage_grow c (at_node v) below k p = held_grow c v below k p
    stage_grow c (at_left v l s) below k p = (held_grow c v below k p.0, saw_grow c v lo l s p.0.was.le p.1)
    stage_grow c (at_both v l s r t) below k p = (held_grow c v below k p.0, saw_grow c v lo l s p.0.was.le p.1, saw_grow c v hi r t p.0.was.le p.2)

    leaf_grow : (o : Op) (v : ℕ) → J o → LeafOk h weight G o v → LeafOk h weight G' o v
    leaf_grow o v j p =
        record {
          was = was_grow (cell h o) v p.was;
          able = rw (g.stable v p.was.le []) p.able;
          waits = waits' (g.change (cell h o));
          done = done' (g.change (cell h o)) (ℕ_discrete (at G (cell h o)).current v);
        }
      where
        waits' : Change G.used J K (cell h o) (at G (cell h o)) (at G' (cell h o)) → (at G' (cell h o)).current ≡ v → o ∈ (at G' (cell h o)).waiting
        waits' (kept q r s) e = s o (p.waits (sym q ∙ e))
        waits' (leaf q r s) e = absurd (omega (arith, p.was.le))
        waits' (inner q r s) e = absurd (omega (arith, p.was.le))

        done' : Change G.used J K (cell h o) (at G (cell h o)) (at G' (cell h o)) → Dec ((at G (cell h o)).current ≡ v) → (at G' (cell h o)).current ≢ v → entry o false ∈ (at G' (cell h o)).reached
        done' ch (no n) e = mem_prefix (g.grows (cell h o)) (p.done n)
        done' (kept q r s) (yes w) e = absurd (e (q ∙ w))
        done' (leaf q r s) (yes w) e = s o (p.waits w) j
        done' (inner q r s) (yes w) e = absurd (omega (arith, length_leaf h (cell_of o.update)))

    pub work_grow : (W : Worker) → OnOp J W → OnClimb (λ c st. c.again ≡ true → K c) W → WorkerOk h weight G W → WorkerOk h weight G' W
    work_grow idle j k p = tt
    work_grow (reading o) j k p = g.absent o (cell h o) (length_leaf h (cell_of o.update)) j p
    work_grow (swapping o v) j k p = leaf_grow o v j p
    work_grow (climbing c st) j k p =
        record { below = p.below; share = p.share; arrived = mem_prefix (g.grows (c.side ∷ c.node)) p.arrived; stages = stage_grow c st p.below k p.stages }
    work_grow (answered o r) j k p = mem_prefix (g.grows []) p

    -- a refresh that holds an old version knows nothing of the new one
    knows_new : (n : ℕ) (b : Side) (d : Climb) (st : Stage) (e : Entry) → G.used < n → StageOk h weight G d st → Knows n b st e
    knows_new n b d nothing e l p = tt
    knows_new n b d (at_node v) e l p = tt
    knows_new n lo d (at_left v l' s) e l p = λ q. absurd (omega (arith, p.0.was.le))
    knows_new n hi d (at_left v l' s) e l p = tt
    knows_new n lo d (at_both v l' s r t) e l p = λ q. absurd (omega (arith, p.0.was.le))
    knows_new n hi d (at_both v l' s r t) e l p = λ q. absurd (omega (arith, p.0.was.le))

    pair_grow : (W X : Worker) → WorkerOk h weight G X → Pair G W X → Pair G' W X
    pair_grow idle X ok p = tt
    pair_grow (reading o) X ok p = tt
    pair_grow (swapping o v) X ok p = tt
    pair_grow (answered o r) X ok p = tt
    pair_grow (climbing c st) idle ok p = tt
    pair_grow (climbing c st) (reading o) ok p = tt
    pair_grow (climbing c st) (swapping o v) ok p = tt
    pair_grow (climbing c st) (answered o r) ok p = tt
    pair_grow (climbing c st) (climbing d su) ok p = λ e late. go (g.change c.node) e late
      where
        go : Change G.used J K c.node (at G c.node) (at G' c.node) → PairOk G' c st d su
        go (kept q r s) e late =
            let late' : Late (at G c.node).current c.again st = subst (λ n. Late n c.again st) q late in
            subst (λ n. Knows n c.side su (its c)) (sym q) (p e late')
        go (leaf q r s) e late = knows_new (at G' c.node).current c.side d su (its c) q ok.stages
        go (inner q r s) e late = knows_new (at G' c.node).current c.side d su (its c) q ok.stages

    -- a node that is not changed
    pub spot_grow : (y : Node) (a : Spot) → SpotOk h weight G y a → SpotOk h weight G' y a
    spot_grow y a p =
        record {
          current_le = omega (arith, p.current_le, g.more);
          depicts = depicts_ver h weight (g.stable _ p.current_le) p.depicts;
          taken_pre = λ b. prefix_trans (p.taken_pre b) (g.grows (b ∷ y));
          taken_eq = p.taken_eq;
          inside = all_map (λ e q. (q.0, g.knew e.op q.1)) p.inside;
          truth = p.truth;
          able = all_map (λ o q. (q.0, subst (λ (n : Version). fits o.update (mark n) ≡ false) (sym (g.stable a.current p.current_le [])) q.1, g.knew o q.2, q.3)) p.able;
          once = p.once;
          once_waiting = p.once_waiting;
        }

  -- ---- a step of one worker, from W to W', with the shared state going from G to G'

  pub record Good (J : Op → Type 0) (K : Climb → Type 0) (G : Shared) (W : Worker) (G' : Shared) (W' : Worker) : Type 0 where
    pub closed : Closed G'.ver G'.used
    pub spots : (y : Node) → SpotOk h weight G' y (at G' y)
    pub grow : Grow J K G G'
    pub is_j : (X : Worker) → Apart X W → OnOp J X
    pub is_k : (X : Worker) → Pair G X W → OnClimb (λ c st. c.again ≡ true → K c) X
    pub self : WorkerOk h weight G' W'
    pub pair_to : (X : Worker) → WorkerOk h weight G X → Pair G X W → Pair G' X W'
    pub pair_from : (X : Worker) → WorkerOk h weight G X → Pair G W X → Pair G' W' X
    pub pair_self : Pair G' W' W'
    pub known : OnOp (Known h G') W'
    pub apart_to : (X : Worker) → OnOp (Known h G) X → Apart X W → Apart X W'
    pub apart_from : (X : Worker) → OnOp (Known h G) X → Apart W X → Apart W' X

  pub onop_map : (P Q : Op → Type 0) → ((o : Op) → P o → Q o) → (W : Worker) → OnOp P W → OnOp Q W
  onop_map P Q f idle p = tt
  onop_map P Q f (reading o) p = f o p
  onop_map P Q f (swapping o v) p = f o p
  onop_map P Q f (climbing c st) p = f c.op p
  onop_map P Q f (answered o r) p = f o p

  pub good_inv : {J : Op → Type 0} {K : Climb → Type 0} (σ : State) (w : ℕ) (G' : Shared) (W' : Worker) → Inv h weight σ → Good J K σ.shared (σ.workers w) G' W' → Inv h weight (settled σ w (G', W'))
  good_inv σ w G' W' i d =
      record {
        closed = d.closed;
        spots = d.spots;
        works = put_all ℕ_discrete (λ u X. WorkerOk h weight G' X) σ.workers w W' d.self works';
        pairs = λ u v. put_all ℕ_discrete (λ u X. Pair G' X (put ℕ_discrete σ.workers w W' v)) σ.workers w W'
            (put_all ℕ_discrete (λ v Y. Pair G' W' Y) σ.workers w W' d.pair_self (λ y n. d.pair_from (σ.workers y) (i.works y) (i.pairs w y)) v)
            (λ y n. put_all ℕ_discrete (λ v Y. Pair G' (σ.workers y) Y) σ.workers w W' (d.pair_to (σ.workers y) (i.works y) (i.pairs y w))
            (λ z m. pair_grow d.grow (σ.workers y) (σ.workers z) (i.works z) (i.pairs y z)) v) u;
        known = put_all ℕ_discrete (λ u X. OnOp (Known h G') X) σ.workers w W' d.known (λ y n. onop_map (Known h σ.shared) (Known h G') d.grow.knew (σ.workers y) (i.known y));
        apart = λ u v. put_all ℕ_discrete (λ u X. u ≢ v → Apart X (put ℕ_discrete σ.workers w W' v)) σ.workers w W'
            (put_all ℕ_discrete (λ v Y. w ≢ v → Apart W' Y) σ.workers w W' (λ n. absurd (n refl)) (λ y n m. d.apart_from (σ.workers y) (i.known y) (i.apart w y m)) v)
            (λ y n. put_all ℕ_discrete (λ v Y. y ≢ v → Apart (σ.workers y) Y) σ.workers w W' (λ m. d.apart_to (σ.workers y) (i.known y) (i.apart y w n))
            (λ z m k. i.apart y z k) v) u;
      }
    where
      works' : (y : ℕ) → y ≢ w → WorkerOk h weight G' (σ.workers y)
      works' y n = work_grow d.grow (σ.workers y) (d.is_j (σ.workers y) (i.apart y w n)) (d.is_k (σ.workers y) (i.pairs y w)) (i.works y)

  pub record Step (G : Shared) (W : Worker) (p : Shared × Worker) : Type 1 where
    pub J : Op → Type 0
    pub K : Climb → Type 0
    pub good : Good J K G W p.0 p.1
