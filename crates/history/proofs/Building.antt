-- How a step of one worker is put together: what it leaves to show where the shared state grows at one node, where the
-- worker goes up, and where only the worker moves. Assumes nothing.
use Rattle.std.specs.Prelude.{◌≡◌, refl, ◌≢◌, Bool, true, false, List, [], ◌∷◌, ◌++◌, ℕ, suc, ◌+◌, ◌≤◌, length}
use Rattle.std.proofs.Common.{le_refl, arith}
use Rattle.std.proofs.Math.Decide.{ℕ_discrete}
use Rattle.trie.specs.declared.Version.{Version}
use Rattle.history.specs.Lists.{◌∈◌, Prefix, all_nil}
use Rattle.history.proofs.ListLaws.{prefix_refl, prefix_append, all_append}
use Rattle.history.proofs.Nodes.{Side, Node, Node-discrete, Below}
use Rattle.history.specs.Arrivals.{Op, Entry, entry}
use Rattle.history.specs.Put.{put}
use Rattle.history.proofs.PutLaws.{put_all, put_other}
use Rattle.history.proofs.Machine.{child, Spot, Shared, Stage, nothing, Climb, Worker, idle, reading, swapping, climbing, answered, at, cell, go_up, with_spot, swap}
use Rattle.history.proofs.Replay.{NoneOf}
use Rattle.history.proofs.Invariant.{Closed, Absent, Known, PairOk, OnClimb, OnOp, Pair, Apart, SpotOk, WorkerOk}
use Rattle.history.proofs.Depicting.{Same, same_stable}
use Rattle.history.proofs.Growth.{Change, kept, Grow, Step, onop_map}

pub onclimb_all : (P : Climb → Stage → Type 0) → ((c : Climb) (st : Stage) → P c st) → (W : Worker) → OnClimb P W
onclimb_all P f idle = tt
onclimb_all P f (reading o) = tt
onclimb_all P f (swapping o v) = tt
onclimb_all P f (climbing c st) = f c st
onclimb_all P f (answered o r) = tt

pub onop_all : (P : Op → Type 0) → ((o : Op) → P o) → (W : Worker) → OnOp P W
onop_all P f idle = tt
onop_all P f (reading o) = f o
onop_all P f (swapping o v) = f o
onop_all P f (climbing c st) = f c.op
onop_all P f (answered o r) = f o

abbrev pub NoJ : Op → Type 0
NoJ o = Unit {0}

abbrev pub NotMe : Op → Op → Type 0
NotMe o q = q.id ≢ o.id

abbrev pub NoK : Climb → Type 0
NoK c = Unit {0}

pub no_j : (X : Worker) → OnOp NoJ X
no_j X = onop_all NoJ (λ o. tt) X

pub no_k : (X : Worker) → OnClimb (λ c st. c.again ≡ true → NoK c) X
no_k X = onclimb_all (λ c st. c.again ≡ true → NoK c) (λ c st e. tt) X

-- what a swap does to the versions
pub same_swap : (ver : ℕ → Version) (u : ℕ) (w : Version) → Same u ver (put ℕ_discrete ver (suc u) w)
same_swap ver u w v l = put_other ℕ_discrete ver (suc u) w v (λ e. omega arith)

pub closed_swap : (ver : ℕ → Version) (u : ℕ) (w : Version) → ((b : Side) → child b w ≤ u) → Closed ver u → Closed (put ℕ_discrete ver (suc u) w) (suc u)
closed_swap ver u w f c =
    put_all ℕ_discrete (λ v X. v ≤ suc u → (b : Side) → child b X ≤ suc u) ver (suc u) w (λ l b. omega (arith, f b))
    (λ v n l b. omega (arith, c v (omega arith) b))

up_op : (P : Op → Type 0) (o : Op) (r : Bool) (m : ℕ) (x : Node) → P o → OnOp P (go_up o r m x)
up_op P o r m [] p = p
up_op P o r m (c ∷ x) p = p

up_to : (G : Shared) (o : Op) (r : Bool) (m : ℕ) (x : Node) (X : Worker) → Pair G X (go_up o r m x)
up_to G o r m [] X = onclimb_all (λ c st. Unit {0}) (λ c st. tt) X
up_to G o r m (b ∷ x) X = onclimb_all (λ c st. PairOk G c st (record { op = o; res = r; side = b; node = x; again = false; made = m }) nothing) (λ c st e l. tt) X

up_from : (G : Shared) (o : Op) (r : Bool) (m : ℕ) (x : Node) (X : Worker) → Pair G (go_up o r m x) X
up_from G o r m [] X = tt
up_from G o r m (b ∷ x) X = onclimb_all (λ d su. PairOk G (record { op = o; res = r; side = b; node = x; again = false; made = m }) nothing d su) (λ d su e l. absurd l) X

up_self : (G : Shared) (o : Op) (r : Bool) (m : ℕ) (x : Node) → Pair G (go_up o r m x) (go_up o r m x)
up_self G o r m x = up_from G o r m x (go_up o r m x)

module _ (h : ℕ) (weight : ℕ → ℕ) where
  -- the worker that steps goes up from x: it holds nothing yet
  pub up_ok : (G : Shared) (o : Op) (r : Bool) (m : ℕ) (x : Node) → m + length x ≤ suc h → Below x (cell h o) → entry o r ∈ (at G x).reached → WorkerOk h weight G (go_up o r m x)
  up_ok G o r m [] d b e = e
  up_ok G o r m (c ∷ x) d b e = record { below = b; arrived = e; share = omega arith; stages = tt }

  module _ (G : Shared) where
    pub grow_spot : (J : Op → Type 0) (K : Climb → Type 0) (x : Node) (a : Spot) → Prefix (at G x).reached a.reached → Change h weight G.used J K x (at G x) a
        → ((o : Op) → length x ≡ h → J o → Absent o.id (at G x) → Absent o.id a) → Grow h weight J K G (with_spot G x a)
    grow_spot J K x a p c f =
        record {
          more = le_refl G.used;
          stable = λ v l t. refl;
          grows = put_all Node-discrete (λ y b. Prefix (at G y).reached b.reached) G.spot x a p (λ y n. prefix_refl (at G y).reached);
          change = put_all Node-discrete (λ y b. Change h weight G.used J K y (at G y) b) G.spot x a c (λ y n. kept refl (λ b. refl) (λ o m. m));
          nexts = le_refl G.next;
          knew = λ o k. record { old = k.old; is = k.is; fit = k.fit };
          absent = λ o. put_all Node-discrete (λ y b. length y ≡ h → J o → Absent o.id (at G y) → Absent o.id b) G.spot x a (f o) (λ y n l j q. q);
        }

    pub grow_swap : Closed G.ver G.used → (J : Op → Type 0) (K : Climb → Type 0) (x : Node) (w : Version) (s : List Entry) (f : Side → List Entry)
        → Change h weight G.used J K x (at G x) (record { current = suc G.used; reached = (at G x).reached ++ s; taken = f; waiting = [] })
        → ((o : Op) → length x ≡ h → J o → Absent o.id (at G x) → NoneOf o.id s) → Grow h weight J K G (swap G x w s f)
    grow_swap cl J K x w s f c z =
        record {
          more = omega arith;
          stable = same_stable G.ver (put ℕ_discrete G.ver (suc G.used) w) G.used cl (same_swap G.ver G.used w);
          grows = put_all Node-discrete (λ y b. Prefix (at G y).reached b.reached) G.spot x _ (prefix_append (at G x).reached s) (λ y n. prefix_refl (at G y).reached);
          change = put_all Node-discrete (λ y b. Change h weight G.used J K y (at G y) b) G.spot x _ c (λ y n. kept refl (λ b. refl) (λ o m. m));
          nexts = le_refl G.next;
          knew = λ o k. record { old = k.old; is = k.is; fit = k.fit };
          absent = λ o. put_all Node-discrete (λ y b. length y ≡ h → J o → Absent o.id (at G y) → Absent o.id b) G.spot x _
              (λ l j q. record { reached = all_append q.reached (z o l j q); waiting = all_nil }) (λ y n l j q. q);
        }

    pub grow_none : Grow h weight NoJ NoK G G
    grow_none =
        record { more = le_refl G.used; stable = λ v l t. refl; grows = λ y. prefix_refl (at G y).reached; change = λ y. kept refl (λ b. refl) (λ o m. m); nexts = le_refl G.next; knew = λ o k. k; absent = λ o y l j q. q }

    pub make : (J : Op → Type 0) (K : Climb → Type 0) (W : Worker) (G' : Shared) (W' : Worker) → ((P : Op → Type 0) → OnOp P W → OnOp P W')
        → OnOp (Known h G) W → Closed G'.ver G'.used → ((y : Node) → SpotOk h weight G' y (at G' y)) → Grow h weight J K G G'
        → ((X : Worker) → Apart X W → OnOp J X) → ((X : Worker) → Pair G X W → OnClimb (λ c st. c.again ≡ true → K c) X)
        → WorkerOk h weight G' W' → ((X : Worker) → WorkerOk h weight G X → Pair G X W → Pair G' X W') → ((X : Worker) → WorkerOk h weight G X → Pair G W X → Pair G' W' X) → Pair G' W' W'
        → Step h weight G W (G', W')
    make J K W G' W' keeps old cl' sp' g isj isk ok to from itself =
        record {
          J = J;
          K = K;
          good =
              record {
                closed = cl';
                spots = sp';
                grow = g;
                is_j = isj;
                is_k = isk;
                self = ok;
                pair_to = to;
                pair_from = from;
                pair_self = itself;
                known = onop_map h weight (Known h G) (Known h G') g.knew W' (keeps (Known h G) old);
                apart_to = λ X q a. onop_map h weight (λ o. OnOp (λ p. o.id ≢ p.id) W) (λ o. OnOp (λ p. o.id ≢ p.id) W') (λ o. keeps (λ p. o.id ≢ p.id)) X a;
                apart_from = λ X q a. keeps (λ o. OnOp (λ p. o.id ≢ p.id) X) a;
              };
        }

    -- the worker goes up from x
    pub up : (J : Op → Type 0) (K : Climb → Type 0) (W : Worker) (G' : Shared) (o : Op) (r : Bool) (m : ℕ) (x : Node) → ((P : Op → Type 0) → OnOp P W → P o)
        → OnOp (Known h G) W → Closed G'.ver G'.used → ((y : Node) → SpotOk h weight G' y (at G' y)) → Grow h weight J K G G'
        → ((X : Worker) → Apart X W → OnOp J X) → ((X : Worker) → Pair G X W → OnClimb (λ c st. c.again ≡ true → K c) X)
        → m + length x ≤ suc h → Below x (cell h o) → entry o r ∈ (at G' x).reached
        → Step h weight G W (G', go_up o r m x)
    up J K W G' o r m x keeps old cl' sp' g isj isk d b e =
        make J K W G' (go_up o r m x) (λ P p. up_op P o r m x (keeps P p)) old cl' sp' g isj isk (up_ok G' o r m x d b e) (λ X q p. up_to G' o r m x X) (λ X q p. up_from G' o r m x X) (up_self G' o r m x)

    module _ (cl : Closed G.ver G.used) (sp : (y : Node) → SpotOk h weight G y (at G y)) where
      -- only the worker moves
      pub move : (W W' : Worker) → ((P : Op → Type 0) → OnOp P W → OnOp P W') → OnOp (Known h G) W → WorkerOk h weight G W'
          → ((X : Worker) → WorkerOk h weight G X → Pair G X W → Pair G X W') → ((X : Worker) → WorkerOk h weight G X → Pair G W X → Pair G W' X) → Pair G W' W'
          → Step h weight G W (G, W')
      move W W' keeps old ok to from itself =
          make NoJ NoK W G W' keeps old cl sp grow_none (λ X a. onop_all NoJ (λ o. tt) X) (λ X p. onclimb_all (λ c st. c.again ≡ true → NoK c) (λ c st e. tt) X) ok to from itself

      pub up_only : (W : Worker) (o : Op) (r : Bool) (m : ℕ) (x : Node) → ((P : Op → Type 0) → OnOp P W → P o) → OnOp (Known h G) W
          → m + length x ≤ suc h → Below x (cell h o) → entry o r ∈ (at G x).reached → Step h weight G W (G, go_up o r m x)
      up_only W o r m x keeps old d b e =
          up NoJ NoK W G o r m x keeps old cl sp grow_none (λ X a. onop_all NoJ (λ o. tt) X) (λ X p. onclimb_all (λ c st. c.again ≡ true → NoK c) (λ c st e. tt) X) d b e

      pub stay : (W : Worker) → OnOp (Known h G) W → WorkerOk h weight G W → Pair G W W → Step h weight G W (G, W)
      stay W old ok p = move W W (λ P q. q) old ok (λ X q r. r) (λ X q r. r) p
