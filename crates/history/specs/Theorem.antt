-- The third demand: what holds at every moment of every history. Its proof is in proofs/EveryHistory.antt.
-- Every name here leads to Lists, Book, Arrivals, Put, Order and Histories, and to the tree's own definitions. Assumes nothing.
use Rattle.std.specs.Prelude.{◌≡◌, ◌≢◌, Bool, true, List, [], ◌∷◌, ◌++◌, ℕ, zero, suc, ◌+◌, ◌*◌, ◌/◌, ◌%◌, ◌^◌, ◌≤◌, ◌<◌, eqb, Result}
use Rattle.std.proofs.Math.Option.{Option, some, none}
use Rattle.decibel.specs.Told.{gives}
use Rattle.decibel.specs.Energy.{energy_of}
use Rattle.trie.specs.declared.Version.{Version}
use Rattle.trie.specs.declared.Update.{Update}
use Rattle.trie.specs.declared.Query.{Query}
use Rattle.trie.specs.declared.Operation.{Operation}
use Rattle.trie.specs.declared.Phase.{Phase}
use Rattle.trie.specs.Choice.{pick}
use Rattle.trie.specs.Size.{height_of}
use Rattle.trie.specs.Tables.{used_of, current_of, room_of, version_at}
use Rattle.trie.specs.Record.{busy_phase, cell_of, promised_of}
use Rattle.trie.specs.Values.{Value, Course, yes', no', ok}
use Rattle.trie.specs.Calls.{State, open_of, step_of}
use Rattle.history.specs.Lists.{◌∈◌, Prefix, All}
use Rattle.history.specs.Book.{Book, blank, effect, ones, weights, sum, answer, mark}
use Rattle.history.specs.Arrivals.{entry}
use Rattle.history.specs.Order.{Placed, placed, updates, ops, Answered, Life, Memory}
use Rattle.history.specs.Histories.{Call, step, Moment, called, after, history, Refuses, Accepts, phase_of}

-- the book after the operations of a list, in its order
abbrev pub replay : Book → List Placed → Book
replay B [] = B
replay B (p ∷ s) = replay (effect p.operation B) s

-- no operation stands twice
abbrev pub Once : List Placed → Type 0
Once [] = Unit {0}
Once (p ∷ s) = All (λ q. q.id ≢ p.id) s × Once s

-- an answered operation stands in the order, at a moment no later than its answer, and its answer is what the book gives
-- that the operations before it make
pub record Stands (n : ℕ) (order : List Placed) (id : ℕ) (o : Operation) (a : Answered) : Type 0 where
  pub before : List Placed
  pub behind : List Placed
  pub moment : ℕ
  pub is : order ≡ before ++ (placed id o moment ∷ behind)
  pub by : moment ≤ a.moment
  pub answers : a.value ≡ answer n o (replay blank before)

-- p stands before q
pub record Before (p q : Placed) (order : List Placed) : Type 0 where
  pub front : List Placed
  pub middle : List Placed
  pub back : List Placed
  pub is : order ≡ front ++ (p ∷ (middle ++ (q ∷ back)))

-- the version that stands for node x, d levels down, when one follows versions from v: never through the node table
abbrev pub beneath : List ℕ → ℕ → ℕ → ℕ → Version
beneath versions v zero x = version_at versions (record { 0 = v })
beneath versions v (suc d) x = version_at versions (pick (eqb (x % 2) 1) (beneath versions v d (x / 2)).right (beneath versions v d (x / 2)).left)

-- the versions under v show the book: at each leaf the cell's level or none; at each version, of the p-th node d levels
-- down with the 2 ^ e cells below it, their count and energy
pub record Shows (h : ℕ) (versions : List ℕ) (v : ℕ) (B : Book) : Type 0 where
  pub levels : (k : ℕ) → k < 2 ^ h → mark (beneath versions v h (2 ^ h + k)) ≡ B k
  pub counts : (d e p : ℕ) → d + e ≡ h → p < 2 ^ d → (beneath versions v d (2 ^ d + p)).count + sum ones (p * 2 ^ e) B ≡ sum ones (suc p * 2 ^ e) B
  pub energies : (d e p : ℕ) → d + e ≡ h → p < 2 ^ d → (beneath versions v d (2 ^ d + p)).energy.0 + sum (weights energy_of) (p * 2 ^ e) B ≡ sum (weights energy_of) (suc p * 2 ^ e) B

-- the most own steps of an operation
abbrev pub most_steps : ℕ → Operation → ℕ
most_steps h (Operation.Update u) = 2 + 8 * h
most_steps h (Operation.Query (Query.Find k)) = 1 + h
most_steps h (Operation.Query (Query.Rank k)) = 1 + h
most_steps h (Operation.Query (Query.Select j)) = 1 + h
most_steps h (Operation.Query Query.Total) = 1

-- it has answered by its last allowed step: while it has no answer it has taken fewer
abbrev pub InTime : ℕ → Operation → ℕ → Option Answered → Type 0
InTime h o steps none = steps < most_steps h o
InTime h o steps (some a) = steps ≤ most_steps h o

-- an operation that is under way in a worker: its next own step is that worker's
pub record Carried (w : ℕ) (s : State) (m : Memory) (id : ℕ) : Type 0 where
  pub worker : ℕ
  pub inside : worker < w
  pub task : (m.tasks worker).id ≡ id
  pub busy : busy_phase (phase_of worker s) ≡ true

-- all that busy updates may still make has room
pub record Room (share w : ℕ) (s : State) : Type 0 where
  pub promised : ℕ
  pub is : promised_of share w s.board ≡ Result.Ok promised
  pub within : used_of s.nodes + promised ≤ room_of s.versions

-- an update with this answer has reached every node on its cell's path
pub record Reached (n : ℕ) (m : Memory) (id : ℕ) (u : Update) (v : Value) : Type 0 where
  pub result : Bool
  pub told : v ≡ pick result yes' no'
  pub path : (d : ℕ) → d ≤ height_of n → entry (record { id = id; update = u }) result ∈ m.reached ((n + cell_of u) / 2 ^ d)

module _ (n w : ℕ) (t : Moment) where
  abbrev its : ℕ → Life
  its id = t.memory.lives id

  abbrev order : List Placed
  order = t.memory.order

  pub record Holds : Type 0 where
    -- a: no call ever gives 9
    pub undamaged : (c : Call) → ¬ Refuses n w c t.state 9
    -- the order: updates as they reach the root, each query at its reading of the root, and a place once given is kept
    pub of_the_root : updates order ≡ ops (t.memory.reached 1)
    pub asks : (i : ℕ) (q : Query) (course : Course) → phase_of i t.state ≡ Phase.Ask q → (step_of n w i t.state).told ≡ gives course
        → (called n w (step i) t).memory.order ≡ order ++ (placed (t.memory.tasks i).id (Operation.Query q) t.memory.moment ∷ [])
    pub kept : (calls : List Call) → Prefix order (after n w calls t).memory.order
    -- b: nothing stands twice, nothing that was not started, and each answered operation stands in the order
    pub once : Once order
    pub started : All (λ p. (p.id < t.memory.starts) × ((its p.id).operation ≡ p.operation)) order
    -- b, c, d: its place is no later than its answer, and its answer is the book's
    pub stands : (id : ℕ) (a : Answered) → id < t.memory.starts → (its id).answer ≡ some a → Stands n order id (its id).operation a
    -- c: its place is after its start; hence an operation answered before another starts stands before it
    pub after_start : All (λ p. (its p.id).started < p.moment) order
    pub precedes : (p q : Placed) (a : Answered) → p ∈ order → q ∈ order → (its p.id).answer ≡ some a → a.moment < (its q.id).started → Before p q order
    -- e: the root's version shows the book of all updates placed so far
    pub shows : Shows (height_of n) t.state.versions (current_of t.state.nodes 1).0 (replay blank order)
    -- f: whatever the others do, an operation answers in time: until then a worker has it, whose step is never refused, and
    -- every accepted step is one own step of the worker's operation and of no other
    pub in_time : (id : ℕ) → id < t.memory.starts → InTime (height_of n) (its id).operation (its id).steps (its id).answer
    pub carried : (id : ℕ) → id < t.memory.starts → (its id).answer ≡ none → Carried w t.state t.memory id
    pub goes_on : (i : ℕ) → i < w → busy_phase (phase_of i t.state) ≡ true → Accepts n w i t.state
    pub counted : (i : ℕ) (course : Course) → (step_of n w i t.state).told ≡ gives course
        → (id : ℕ) → ((called n w (step i) t).memory.lives id).steps ≡ pick (eqb id (t.memory.tasks i).id) 1 0 + (its id).steps
    -- g: an accepted update never lacks a version
    pub room : Room (height_of n + 1) w t.state
    -- h: an answered update has reached every node on its cell's path
    pub reached : (id : ℕ) (u : Update) (a : Answered) → id < t.memory.starts → (its id).operation ≡ Operation.Update u → (its id).answer ≡ some a
        → Reached n t.memory id u a.value

-- every allowed number of cells and of workers, tables and a board that are long enough, whatever they hold: all that is
-- in the word accepted; and every list of calls
abbrev pub EveryHistoryIsABook : Type 0
EveryHistoryIsABook = (n w : ℕ) (s : State) (calls : List Call) → (open_of n w s).told ≡ gives ok → Holds n w (history n w s calls)
