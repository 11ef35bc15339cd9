-- What is on its way in a worker: an update with steps left, a query that has not read the root or has its place in the order.
-- Assumes nothing.
use Rattle.std.specs.Prelude.{◌≡◌, ◌≢◌, Bool, true, false, List, [], ◌∷◌, ◌++◌, ℕ, suc, ◌+◌, ◌*◌, ◌^◌, ◌≤◌, ◌<◌}
use Rattle.std.proofs.Common.{sym, ap, ◌∙◌, arith}
use Rattle.std.proofs.Math.Option.{none}
use Rattle.trie.specs.declared.Update.{Update}
use Rattle.trie.specs.declared.Query.{Query}
use Rattle.trie.specs.declared.Operation.{Operation}
use Rattle.trie.specs.declared.Phase.{Phase}
use Rattle.trie.specs.Choice.{pick}
use Rattle.trie.specs.Record.{busy_phase, query_fits}
use Rattle.trie.specs.Values.{Value, yes', no'}
use Rattle.history.specs.Lists.{◌∈◌, All}
use Rattle.history.specs.Book.{blank}
use Rattle.history.specs.Arrivals.{Op, entry}
use Rattle.history.specs.Order.{Placed, placed, Memory}
use Rattle.history.specs.Theorem.{replay, most_steps}
use Rattle.history.proofs.Machine.{Shared, Worker, idle, reading, swapping, climbing, answered, at}
use Rattle.history.proofs.View.{Shown}
use Rattle.history.proofs.Walks.{Under}
use Rattle.history.proofs.Counted.{steps_left}

-- an operation that was started, and has no answer yet
pub record Open (m : Memory) (id : ℕ) (o : Operation) : Type 0 where
  pub known : id < m.starts
  pub operation : (m.lives id).operation ≡ o
  pub unanswered : (m.lives id).answer ≡ none

-- an update that has begun in the machine was started
abbrev pub Entered : Memory → Op → Type 0
Entered m o = (o.id < m.starts) × ((m.lives o.id).operation ≡ Operation.Update o.update)

-- where an operation stands in the order
pub record Place (order : List Placed) (id : ℕ) (o : Operation) : Type 0 where
  pub before : List Placed
  pub behind : List Placed
  pub moment : ℕ
  pub is : order ≡ before ++ (placed id o moment ∷ behind)

-- an update's answer, and its arrival at the root
pub record Came (G : Shared) (id : ℕ) (u : Update) (v : Value) : Type 0 where
  pub result : Bool
  pub told : v ≡ pick result yes' no'
  pub at_root_lem : entry (record { id = id; update = u }) result ∈ (at G []).reached

module _ (h : ℕ) where
  pub record Updating (m : Memory) (id : ℕ) (u : Update) (left : ℕ) : Type 0 where
    pub opened : Open m id (Operation.Update u)
    pub time : (m.lives id).steps + left ≤ 2 + 8 * h

  -- a worker without an update: idle; or its query has not read the root; or it has, and stands in the order
  pub data Querying (m : Memory) (G : Shared) (id : ℕ) : Phase → Type 0 where
    resting : Querying m G id Phase.Idle
    asking : {q : Query} → Open m id (Operation.Query q) → (m.lives id).steps ≡ 0 → query_fits (2 ^ h) q ≡ true → All (λ p. p.id ≢ id) m.order → Querying m G id (Phase.Ask q)
    walking : {q : Query} {p : Phase} {e : ℕ} → Open m id (Operation.Query q) → (m.lives id).steps + suc e ≤ most_steps h (Operation.Query q)
        → (s : Place m.order id (Operation.Query q)) → Under G.ver G.used (replay blank s.before) h e q p → Querying m G id p

  abbrev pub UnderWay : Memory → Shared → ℕ → Worker → Phase → Type 0
  UnderWay m G id idle p = Querying m G id p
  UnderWay m G id (reading o) p = Updating m id o.update (steps_left h (reading o))
  UnderWay m G id (swapping o v) p = Updating m id o.update (steps_left h (swapping o v))
  UnderWay m G id (climbing c st) p = Updating m id c.op.update (steps_left h (climbing c st))
  UnderWay m G id (answered o r) p = Unit {0}

  -- a worker that is busy has an operation that was started
  pub busy_started : (m : Memory) (G : Shared) (id : ℕ) (W : Worker) (p : Phase) → Shown W p → UnderWay m G id W p → busy_phase p ≡ true → id < m.starts
  busy_started m G id idle p s resting b = absurd (let z : ◌≡◌ {A = ℕ} 0 1 = cc in omega arith)
  busy_started m G id idle p s (asking o z k a) b = o.known
  busy_started m G id idle p s (walking o t e u) b = o.known
  busy_started m G id (reading o) p s u b = u.opened.known
  busy_started m G id (swapping o v) p s u b = u.opened.known
  busy_started m G id (climbing c st) p s u b = u.opened.known
  busy_started m G id (answered o r) p s u b = absurd (let y : false ≡ true = sym (ap busy_phase s) ∙ b in let z : ◌≡◌ {A = ℕ} 0 1 = cc in omega arith)
