-- The machine: versions and workers as the tables have them, nodes as the turns that lead to them, and beside each node
-- the updates that have reached it. Queries are no part of it: a worker with a query rests. Assumes nothing.
use Rattle.std.specs.Prelude.{Bool, true, false, List, [], ◌∷◌, ◌++◌, ℕ, suc, length}
use Rattle.std.proofs.Math.Option.{Option, some, none}
use Rattle.std.proofs.Math.Decide.{ℕ_discrete, dec_le}
use Rattle.trie.specs.declared.Version.{Version}
use Rattle.trie.specs.Record.{cell_of}
use Rattle.trie.specs.Refreshing.{sum_of}
use Rattle.trie.specs.Tables.{version}
use Rattle.history.specs.Put.{choose, put}
use Rattle.history.proofs.Nodes.{Side, lo, hi, Node, Node-discrete}
use Rattle.history.proofs.Numbers.{leaf, number}
use Rattle.history.specs.Book.{fits, want, mark}
use Rattle.history.specs.Arrivals.{Op, Entry, entry, swap_brings, refresh_brings}

-- ---- versions

abbrev pub either : {A : Type 0} → Side → A → A → A
either lo a b = a
either hi a b = b

abbrev pub child : Side → Version → ℕ
child b v = either b v.left.0 v.right.0

-- the version that is reached from v by the turns, the first turn first
abbrev pub look : (ℕ → Version) → List Side → ℕ → ℕ
look ver [] v = v
look ver (b ∷ t) v = look ver t (child b (ver v))

-- ---- the state

-- of a node: its current version; the updates that have reached it, in order; how much of each child's list has come to
-- it; and, at a leaf, the updates that have read the current version and have not swapped yet
pub record Spot : Type 0 where
  pub current : ℕ
  pub reached : List Entry
  pub taken : Side → List Entry
  pub waiting : List Op

pub record Shared : Type 0 where
  pub used : ℕ
  pub ver : ℕ → Version
  pub spot : Node → Spot
  -- the updates that have begun have numbers below `next`; the one with the number i, if there is one, is `ops i`
  pub next : ℕ
  pub ops : ℕ → Option Op

-- what the present refresh has read: the node's version; the left child's, with the list of those that had reached that
-- child by then; the right child's likewise
pub data Stage : Type 0 where
  nothing : Stage
  at_node : ℕ → Stage
  at_left : ℕ → ℕ → List Entry → Stage
  at_both : ℕ → ℕ → List Entry → ℕ → List Entry → Stage

-- an update on its way up: at `node`, to which it came from the child on `side`
pub record Climb : Type 0 where
  pub op : Op
  pub res : Bool
  pub side : Side
  pub node : Node
  pub again : Bool
  pub made : ℕ

-- a worker that has answered an update rests; what it answered is remembered
pub data Worker : Type 0 where
  idle : Worker
  reading : Op → Worker
  swapping : Op → ℕ → Worker
  climbing : Climb → Stage → Worker
  answered : Op → Bool → Worker

pub record State : Type 0 where
  pub shared : Shared
  pub workers : ℕ → Worker

abbrev pub at : Shared → Node → Spot
at G x = G.spot x

-- done with node x: on to its parent, and after the root the answer
abbrev pub go_up : Op → Bool → ℕ → Node → Worker
go_up o r made [] = answered o r
go_up o r made (b ∷ x) = climbing (record { op = o; res = r; side = b; node = x; again = false; made = made }) nothing

abbrev pub second : Climb → Climb
second c = record { op = c.op; res = c.res; side = c.side; node = c.node; again = true; made = c.made }

abbrev pub with_spot : Shared → Node → Spot → Shared
with_spot G x a = record { used = G.used; ver = G.ver; spot = put Node-discrete G.spot x a; next = G.next; ops = G.ops }

-- a successful swap at x: one version more, which is x's current one
abbrev pub swap : Shared → Node → Version → List Entry → (Side → List Entry) → Shared
swap G x v s g =
    record {
      used = suc G.used;
      ver = put ℕ_discrete G.ver (suc G.used) v;
      spot = put Node-discrete G.spot x (record { current = suc G.used; reached = (at G x).reached ++ s; taken = g; waiting = [] });
      next = G.next;
      ops = G.ops;
    }

abbrev pub join : Shared → ℕ → ℕ → Version
join G l r = sum_of (record { 0 = l }) (record { 0 = r }) (G.ver l) (G.ver r)

abbrev pub node_swap : Shared → Node → ℕ → List Entry → ℕ → List Entry → Shared
node_swap G x l s r t = swap G x (join G l r) (refresh_brings (at G x).reached s t) (λ b. either b s t)

-- after a swap that failed: one second refresh, and no third
abbrev pub missed : Bool → Climb → Worker
missed false c = climbing (second c) nothing
missed true c = go_up c.op c.res c.made c.node

abbrev pub node_try : {P : Type 0} → Dec P → Shared → Climb → ℕ → List Entry → ℕ → List Entry → Shared × Worker
node_try (yes p) G c l s r t = (node_swap G c.node l s r t, go_up c.op c.res (suc c.made) c.node)
node_try (no n) G c l s r t = (G, missed c.again c)

abbrev pub climb_step : Shared → Climb → Stage → Shared × Worker
climb_step G c nothing = (G, climbing c (at_node (at G c.node).current))
climb_step G c (at_node v) = (G, climbing c (at_left v (at G (lo ∷ c.node)).current (at G (lo ∷ c.node)).reached))
climb_step G c (at_left v l s) = (G, climbing c (at_both v l s (at G (hi ∷ c.node)).current (at G (hi ∷ c.node)).reached))
climb_step G c (at_both v l s r t) = node_try (ℕ_discrete (at G c.node).current v) G c l s r t

-- a level's energy is a parameter
abbrev pub leaf_version : (ℕ → ℕ) → Option ℕ → Version
leaf_version weight none = version 0 0 0 0 0
leaf_version weight (some l) = version 0 0 1 (weight l) l

-- the tree's height is a parameter: it tells where a cell's leaf is
module _ (h : ℕ) where
  abbrev pub cell : Op → Node
  cell o = leaf h (cell_of o.update)

  -- an update finds its cell as wanted
  abbrev pub note : Shared → Op → Shared
  note G o = with_spot G (cell o) (record { current = (at G (cell o)).current; reached = (at G (cell o)).reached ++ (entry o false ∷ []); taken = (at G (cell o)).taken; waiting = (at G (cell o)).waiting })

  -- an update is about to swap at its leaf
  abbrev pub wait : Shared → Op → Shared
  wait G o = with_spot G (cell o) (record { current = (at G (cell o)).current; reached = (at G (cell o)).reached; taken = (at G (cell o)).taken; waiting = (at G (cell o)).waiting ++ (o ∷ []) })

  abbrev pub leaf_read : Bool → Shared → Op → Shared × Worker
  leaf_read true G o = (note G o, go_up o false 0 (cell o))
  leaf_read false G o = (wait G o, swapping o (at G (cell o)).current)

  module _ (weight : ℕ → ℕ) where
    abbrev pub leaf_swap : Shared → Op → Shared
    leaf_swap G o = swap G (cell o) (leaf_version weight (want o.update)) (swap_brings o (at G (cell o)).waiting) (at G (cell o)).taken

    abbrev pub leaf_try : {P : Type 0} → Dec P → Shared → Op → Shared × Worker
    leaf_try (yes p) G o = (leaf_swap G o, go_up o true 1 (cell o))
    leaf_try (no n) G o = (G, go_up o false 0 (cell o))

    abbrev pub step_w : Shared → Worker → Shared × Worker
    step_w G idle = (G, idle)
    step_w G (reading o) = leaf_read (fits o.update (mark (G.ver (at G (cell o)).current))) G o
    step_w G (swapping o v) = leaf_try (ℕ_discrete (at G (cell o)).current v) G o
    step_w G (climbing c st) = climb_step G c st
    step_w G (answered o r) = (G, answered o r)

-- an update begins, with a number that none before it has
abbrev pub begins : Shared → Op → Shared
begins G o = record { used = G.used; ver = G.ver; spot = G.spot; next = suc o.id; ops = put ℕ_discrete G.ops o.id (some o) }

-- one worker has moved
abbrev pub settled : State → ℕ → Shared × Worker → State
settled σ w p = record { shared = p.0; workers = put ℕ_discrete σ.workers w p.1 }

-- after the opening node x has version `number x`; nodes below the leaves do not exist, and stand here for nothing
abbrev pub initial : ℕ → ℕ → (ℕ → Version) → State
initial h used ver =
    record {
      shared =
          record {
            used = used;
            ver = ver;
            spot = λ x. record { current = choose (dec_le (length x) h) (number x) 1; reached = []; taken = λ b. []; waiting = [] };
            next = 0;
            ops = λ i. none;
          };
      workers = λ w. idle;
    }
