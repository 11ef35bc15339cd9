-- The facts that hold of the machine at every moment: what each version shows, who has reached which node, what a worker
-- holds, and, for the double refresh, what one worker has read of another's update. Assumes nothing.
use Rattle.std.specs.Prelude.{◌≡◌, ◌≢◌, ◌⊎◌, Bool, true, false, List, [], ◌∷◌, ℕ, zero, suc, ◌+◌, ◌^◌, ◌≤◌, ◌<◌, length}
use Rattle.std.proofs.Math.Option.{Option, some, none}
use Rattle.trie.specs.declared.Version.{Version}
use Rattle.trie.specs.Record.{update_fits}
use Rattle.history.specs.Lists.{◌∈◌, Prefix, All}
use Rattle.history.proofs.Nodes.{Side, lo, hi, Node, down, Below}
use Rattle.history.proofs.Numbers.{place}
use Rattle.history.specs.Book.{Book, fits, ones, weights, mark}
use Rattle.history.specs.Arrivals.{Op, Entry, entry}
use Rattle.history.proofs.Machine.{child, look, leaf_version, Spot, Shared, Stage, nothing, at_node, at_left, at_both, Climb, Worker, idle, reading, swapping, climbing, answered, State, at, cell}
use Rattle.history.proofs.Replay.{view, only, Ok, NoneOf, Distinct, NoneOps, DistinctOps}

-- the sum of f over the cells below y, which stand d levels below it
abbrev pub tally : (Option ℕ → ℕ) → ℕ → Node → Book → ℕ
tally f zero y B = f (B (place y))
tally f (suc d) y B = tally f d (lo ∷ y) B + tally f d (hi ∷ y) B

-- the versions up to u refer to such versions only
abbrev pub Closed : (ℕ → Version) → ℕ → Type 0
Closed ver u = (v : ℕ) → v ≤ u → (b : Side) → child b (ver v) ≤ u

-- an inner version: it has two children, and no level
pub record Inner (v : Version) : Type 0 where
  pub flat : v.level.0 ≡ 0
  pub kids : (b : Side) → 1 ≤ child b v

-- the update with the number i has left no trace at the node
pub record Absent (i : ℕ) (a : Spot) : Type 0 where
  pub reached : NoneOf i a.reached
  pub waiting : NoneOps i a.waiting

module _ (h : ℕ) where
  -- o has begun, and it fits the tree
  pub record Known (G : Shared) (o : Op) : Type 0 where
    pub old : o.id < G.next
    pub is : G.ops o.id ≡ some o
    pub fit : update_fits (2 ^ h) o.update ≡ true

abbrev pub its : Climb → Entry
its c = entry c.op c.res

-- c's second refresh, or its first where the node's version (n) is no longer the one that it holds
abbrev pub Late : ℕ → Bool → Stage → Type 0
Late n true st = Unit {0}
Late n false nothing = ⊥
Late n false (at_node v) = n ≢ v
Late n false (at_left v l s) = n ≢ v
Late n false (at_both v l s r t) = n ≢ v

-- a refresh that holds the node's version n and has read the child b has read e there
abbrev pub Knows : ℕ → Side → Stage → Entry → Type 0
Knows n b nothing e = Unit {0}
Knows n b (at_node v) e = Unit {0}
Knows n lo (at_left v l s) e = n ≡ v → e ∈ s
Knows n hi (at_left v l s) e = Unit {0}
Knows n lo (at_both v l s r t) e = n ≡ v → e ∈ s
Knows n hi (at_both v l s r t) e = n ≡ v → e ∈ t

-- why two refreshes are enough: while c is late at a node, whoever can still swap there has read c's update, or will
abbrev pub PairOk : Shared → Climb → Stage → Climb → Stage → Type 0
PairOk G c st d su = c.node ≡ d.node → Late (at G c.node).current c.again st → Knows (at G c.node).current c.side su (its c)

abbrev pub OnClimb : (Climb → Stage → Type 0) → Worker → Type 0
OnClimb P idle = Unit {0}
OnClimb P (reading o) = Unit {0}
OnClimb P (swapping o v) = Unit {0}
OnClimb P (climbing c st) = P c st
OnClimb P (answered o r) = Unit {0}

abbrev pub OnOp : (Op → Type 0) → Worker → Type 0
OnOp P idle = Unit {0}
OnOp P (reading o) = P o
OnOp P (swapping o v) = P o
OnOp P (climbing c st) = P c.op
OnOp P (answered o r) = P o

abbrev pub Pair : Shared → Worker → Worker → Type 0
Pair G W X = OnClimb (λ c st. OnClimb (λ d su. PairOk G c st d su) X) W

abbrev pub Apart : Worker → Worker → Type 0
Apart W X = OnOp (λ o. OnOp (λ p. o.id ≢ p.id) X) W

module _ (h : ℕ) (weight : ℕ → ℕ) where
  -- the version v of node y shows each cell below y as the entries s make it, and counts them right
  pub record Depicts (ver : ℕ → Version) (y : Node) (v : ℕ) (s : List Entry) : Type 0 where
    pub numbered : 1 ≤ v
    pub leaves : (t : List Side) → length (down t y) ≡ h → ver (look ver t v) ≡ leaf_version weight (view s (place (down t y)))
    pub inner : (t : List Side) → length (down t y) < h → Inner (ver (look ver t v))
    pub counts : (t : List Side) (d : ℕ) → length (down t y) + d ≡ h → (ver (look ver t v)).count ≡ tally ones d (down t y) (view s)
    pub energies : (t : List Side) (d : ℕ) → length (down t y) + d ≡ h → (ver (look ver t v)).energy.0 ≡ tally (weights weight) d (down t y) (view s)

  pub record SpotOk (G : Shared) (y : Node) (a : Spot) : Type 0 where
    pub current_le : a.current ≤ G.used
    pub depicts : Depicts G.ver y a.current a.reached
    pub taken_pre : (b : Side) → Prefix (a.taken b) (at G (b ∷ y)).reached
    pub taken_eq : (b : Side) (k : Node) → Below (b ∷ y) k → length k ≡ h → only (place k) a.reached ≡ only (place k) (a.taken b)
    pub inside : All (λ e. Below y (cell h e.op) × Known h G e.op) a.reached
    pub truth : length y ≡ h → Ok none (only (place y) a.reached)
    pub able : All (λ o. (cell h o ≡ y) × (fits o.update (mark (G.ver a.current)) ≡ false) × Known h G o × NoneOf o.id a.reached) a.waiting
    pub once : length y ≡ h → Distinct a.reached
    pub once_waiting : DistinctOps a.waiting

  -- a version v that was node y's when it was read, and the list that it shows
  pub record WasAt (G : Shared) (y : Node) (v : ℕ) : Type 0 where
    pub le : v ≤ G.used
    pub list : List Entry
    pub pre : Prefix list (at G y).reached
    pub depicts : Depicts G.ver y v list

  -- the version of its node that a refresh holds
  pub record HeldOk (G : Shared) (c : Climb) (v : ℕ) : Type 0 where
    pub was : WasAt G c.node v
    pub placed : c.again ≡ true → ((at G c.node).current ≡ v) ⊎ (its c ∈ (at G c.node).reached)

  -- the version l of a child that a refresh has read, with the list s of those that had reached the child by then
  pub record SawOk (G : Shared) (c : Climb) (v : ℕ) (b : Side) (l : ℕ) (s : List Entry) : Type 0 where
    pub le : l ≤ G.used
    pub depicts : Depicts G.ver (b ∷ c.node) l s
    pub pre : Prefix s (at G (b ∷ c.node)).reached
    pub taken : (at G c.node).current ≡ v → Prefix ((at G c.node).taken b) s
    pub own : c.side ≡ b → its c ∈ s

  abbrev pub StageOk : Shared → Climb → Stage → Type 0
  StageOk G c nothing = Unit {0}
  StageOk G c (at_node v) = HeldOk G c v
  StageOk G c (at_left v l s) = HeldOk G c v × SawOk G c v lo l s
  StageOk G c (at_both v l s r t) = HeldOk G c v × SawOk G c v lo l s × SawOk G c v hi r t

  pub record ClimbOk (G : Shared) (c : Climb) (st : Stage) : Type 0 where
    pub below : Below (c.side ∷ c.node) (cell h c.op)
    pub arrived : its c ∈ (at G (c.side ∷ c.node)).reached
    -- one version at most for each node that it has passed, the leaf among them
    pub share : c.made + length c.node ≤ h
    pub stages : StageOk G c st

  pub record LeafOk (G : Shared) (o : Op) (v : ℕ) : Type 0 where
    pub was : WasAt G (cell h o) v
    pub able : fits o.update (mark (G.ver v)) ≡ false
    pub waits : (at G (cell h o)).current ≡ v → o ∈ (at G (cell h o)).waiting
    pub done : (at G (cell h o)).current ≢ v → entry o false ∈ (at G (cell h o)).reached

  abbrev pub WorkerOk : Shared → Worker → Type 0
  WorkerOk G idle = Unit {0}
  WorkerOk G (reading o) = Absent o.id (at G (cell h o))
  WorkerOk G (swapping o v) = LeafOk G o v
  WorkerOk G (climbing c st) = ClimbOk G c st
  WorkerOk G (answered o r) = entry o r ∈ (at G []).reached

  pub record Inv (σ : State) : Type 0 where
    pub closed : Closed σ.shared.ver σ.shared.used
    pub spots : (y : Node) → SpotOk σ.shared y (at σ.shared y)
    pub works : (u : ℕ) → WorkerOk σ.shared (σ.workers u)
    pub pairs : (u w : ℕ) → Pair σ.shared (σ.workers u) (σ.workers w)
    pub known : (u : ℕ) → OnOp (Known h σ.shared) (σ.workers u)
    pub apart : (u w : ℕ) → u ≢ w → Apart (σ.workers u) (σ.workers w)
