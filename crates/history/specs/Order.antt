-- The order of the third demand: what is remembered beside the tables, and how each accepted call adds to it.
-- Document 01, "Reaching the root", sentence by sentence; nothing here is ever read by a call. Assumes nothing.
use Rattle.std.specs.Prelude.{Bool, true, false, List, [], ◌∷◌, ◌++◌, ℕ, suc, ◌+◌, ◌*◌, eqb, get_or}
use Rattle.std.proofs.Math.Option.{Option, some, none}
use Rattle.std.proofs.Math.Decide.{ℕ_discrete}
use Rattle.trie.specs.declared.VersionNumber.{VersionNumber}
use Rattle.trie.specs.declared.Update.{Update}
use Rattle.trie.specs.declared.Operation.{Operation}
use Rattle.trie.specs.declared.Held.{Held}
use Rattle.trie.specs.declared.Phase.{Phase}
use Rattle.trie.specs.Choice.{pick}
use Rattle.trie.specs.Tables.{current_of, version_at}
use Rattle.trie.specs.Record.{cell_of}
use Rattle.trie.specs.Leaf.{as_wanted}
use Rattle.trie.specs.Values.{Value, Course, on, done}
use Rattle.trie.specs.Calls.{State}
use Rattle.history.specs.Arrivals.{Op, Entry, entry, swap_brings, refresh_brings}
use Rattle.history.specs.Put.{put}

-- an operation in the order: which one, and the moment (the number of the accepted call) that put it there
pub record Placed : Type 0 where
  pub id : ℕ
  pub operation : Operation
  pub moment : ℕ

abbrev pub placed : ℕ → Operation → ℕ → Placed
placed id o moment = record { id = id; operation = o; moment = moment }

pub record Answered : Type 0 where
  pub moment : ℕ
  pub value : Value

-- an operation from its accepted start on: the steps that its worker has taken for it, and its answer
pub record Life : Type 0 where
  pub operation : Operation
  pub started : ℕ
  pub steps : ℕ
  pub answer : Option Answered

abbrev pub life : Operation → ℕ → ℕ → Option Answered → Life
life o started steps answer = record { operation = o; started = started; steps = steps; answer = answer }

-- beside a worker: its operation, and who had reached either child when the present refresh read that child
pub record Task : Type 0 where
  pub id : ℕ
  pub left : List Entry
  pub right : List Entry

abbrev pub task : ℕ → List Entry → List Entry → Task
task id left right = record { id = id; left = left; right = right }

-- accepted calls and accepted starts so far; each operation's life, by the number of its start; each worker's task;
-- for each leaf, who has read its present version and not swapped yet; for each node, who has reached it; and the order
pub record Memory : Type 0 where
  pub moment : ℕ
  pub starts : ℕ
  pub lives : ℕ → Life
  pub tasks : ℕ → Task
  pub waiting : ℕ → List Op
  pub reached : ℕ → List Entry
  pub order : List Placed

abbrev pub memory : ℕ → ℕ → (ℕ → Life) → (ℕ → Task) → (ℕ → List Op) → (ℕ → List Entry) → List Placed → Memory
memory moment starts lives tasks waiting reached order =
    record { moment = moment; starts = starts; lives = lives; tasks = tasks; waiting = waiting; reached = reached; order = order }

-- after the opening nothing has happened
abbrev pub nothing_yet : Memory
nothing_yet = memory 0 0 (λ i. life (Operation.Update (Update.Delete 0)) 0 0 none) (λ i. task 0 [] []) (λ x. []) (λ x. []) []

-- updates that reach the root are placed
abbrev pub places : ℕ → List Entry → List Placed
places moment [] = []
places moment (e ∷ s) = placed e.op.id (Operation.Update e.op.update) moment ∷ places moment s

-- the updates in a part of the order, and those of a list of arrivals
abbrev pub if_update : Operation → ℕ → List Op → List Op
if_update (Operation.Update u) id s = record { id = id; update = u } ∷ s
if_update (Operation.Query q) id s = s

abbrev pub updates : List Placed → List Op
updates [] = []
updates (p ∷ s) = if_update p.operation p.id (updates s)

abbrev pub ops : List Entry → List Op
ops [] = []
ops (e ∷ s) = e.op ∷ ops s

abbrev pub arrive : ℕ → List Entry → Memory → Memory
arrive x who m =
    memory m.moment m.starts m.lives m.tasks m.waiting (put ℕ_discrete m.reached x (m.reached x ++ who))
    (m.order ++ pick (eqb x 1) (places m.moment who) [])

abbrev pub wait : ℕ → List Op → Memory → Memory
wait x who m = memory m.moment m.starts m.lives m.tasks (put ℕ_discrete m.waiting x who) m.reached m.order

abbrev pub read : ℕ → Task → Memory → Memory
read i t m = memory m.moment m.starts m.lives (put ℕ_discrete m.tasks i t) m.waiting m.reached m.order

-- a query is placed at its reading of the root
abbrev pub ask : ℕ → Operation → Memory → Memory
ask id o m = memory m.moment m.starts m.lives m.tasks m.waiting m.reached (m.order ++ (placed id o m.moment ∷ []))

abbrev pub op_of : ℕ → Memory → Update → Op
op_of i m u = record { id = (m.tasks i).id; update = u }

-- a swap succeeds if the node's version is still the one that was read
abbrev pub succeeds : State → ℕ → VersionNumber → Bool
succeeds s x v = eqb (get_or s.nodes x 0) v.0

-- an update reads its leaf: finding the cell as wanted, it has reached it; else it waits there for a swap
abbrev pub reads_leaf : Bool → ℕ → Op → Memory → Memory
reads_leaf true x o m = arrive x (entry o false ∷ []) m
reads_leaf false x o m = wait x (m.waiting x ++ (o ∷ [])) m

-- a successful swap at a leaf: its update reaches it, and just behind it those that wait
abbrev pub swaps_leaf : Bool → ℕ → Op → Memory → Memory
swaps_leaf true x o m = arrive x (swap_brings o (m.waiting x)) (wait x [] m)
swaps_leaf false x o m = m

-- a successful swap at an inner node: who had reached the left child when it was read, and had not yet come; then the right
abbrev pub swaps_node : Bool → ℕ → Task → Memory → Memory
swaps_node true x t m = arrive x (refresh_brings (m.reached x) t.left t.right) m
swaps_node false x t m = m

-- what a step of worker i adds, told by its phase and the tables before the step, in a tree of n cells
abbrev pub advance : ℕ → ℕ → Phase → State → Memory → Memory
advance n i Phase.Idle s m = m
advance n i (Phase.Read u) s m = reads_leaf (as_wanted u (version_at s.versions (current_of s.nodes (n + cell_of u)))) (n + cell_of u) (op_of i m u) m
advance n i (Phase.Swap u v) s m = swaps_leaf (succeeds s (n + cell_of u) v) (n + cell_of u) (op_of i m u) m
advance n i (Phase.Refresh c Held.Nothing) s m = m
advance n i (Phase.Refresh c (Held.Node v)) s m = read i (task (m.tasks i).id (m.reached (2 * c.node.0)) (m.tasks i).right) m
advance n i (Phase.Refresh c (Held.Left v l)) s m = read i (task (m.tasks i).id (m.tasks i).left (m.reached (2 * c.node.0 + 1))) m
advance n i (Phase.Refresh c (Held.Both v l r)) s m = swaps_node (succeeds s c.node.0 v) c.node.0 (m.tasks i) m
advance n i (Phase.Ask q) s m = ask (m.tasks i).id (Operation.Query q) m
advance n i (Phase.Find k p) s m = m
advance n i (Phase.Rank k p c e) s m = m
advance n i (Phase.Select j p x c) s m = m

abbrev pub answer_of : ℕ → Course → Option Answered
answer_of moment on = none
answer_of moment (done v) = some (record { moment = moment; value = v })

-- one step more of worker i's operation, perhaps its answer; and one moment more
abbrev pub lived : ℕ → Course → Memory → Memory
lived i course m =
    memory (suc m.moment) m.starts
    (put ℕ_discrete m.lives (m.tasks i).id
    (life (m.lives (m.tasks i).id).operation (m.lives (m.tasks i).id).started (suc (m.lives (m.tasks i).id).steps) (answer_of m.moment course)))
    m.tasks m.waiting m.reached m.order

-- an accepted start of operation o in worker i
abbrev pub begin : ℕ → Operation → Memory → Memory
begin i o m =
    memory (suc m.moment) (suc m.starts) (put ℕ_discrete m.lives m.starts (life o m.moment 0 none)) (put ℕ_discrete m.tasks i (task m.starts [] []))
    m.waiting m.reached m.order
