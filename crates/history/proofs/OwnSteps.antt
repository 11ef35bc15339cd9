-- What an accepted step adds to what is remembered: a query's place at its reading of the root, and one own step of its operation.
-- Assumes nothing.
use Rattle.std.specs.Prelude.{◌≡◌, refl, Bool, true, false, [], ◌∷◌, ◌++◌, ℕ, ◌+◌, eqb}
use Rattle.std.proofs.Common.{ap, ap₂, ◌∙◌, arith, eq-eqb, ne_eqb}
use Rattle.std.proofs.Math.Decide.{ℕ_discrete}
use Rattle.decibel.specs.Told.{Told, gives}
use Rattle.trie.specs.declared.Held.{Held}
use Rattle.trie.specs.declared.Operation.{Operation}
use Rattle.trie.specs.declared.Phase.{Phase}
use Rattle.trie.specs.declared.Query.{Query}
use Rattle.trie.specs.Choice.{pick}
use Rattle.trie.specs.Tables.{current_of, version_at}
use Rattle.trie.specs.Record.{cell_of}
use Rattle.trie.specs.Leaf.{as_wanted}
use Rattle.trie.specs.Values.{Course}
use Rattle.trie.specs.Calls.{State, step_of}
use Rattle.history.specs.Arrivals.{Op}
use Rattle.history.proofs.PutLaws.{put_all, put_same}
use Rattle.history.specs.Order.{Life, Task, Memory, placed, succeeds, reads_leaf, swaps_leaf, swaps_node, op_of, advance, lived}
use Rattle.history.specs.Histories.{step, Moment, phase_of, after_step, called}

-- whose task it is, and every life, are as before
pub record Leaves (i : ℕ) (m m' : Memory) : Type 0 where
  pub id : (m'.tasks i).id ≡ (m.tasks i).id
  pub lives : m'.lives ≡ m.lives

module _ (i : ℕ) (m : Memory) where
  read_leaves : (b : Bool) (x : ℕ) (o : Op) → Leaves i m (reads_leaf b x o m)
  read_leaves true x o = record { id = refl; lives = refl }
  read_leaves false x o = record { id = refl; lives = refl }

  leaf_leaves : (b : Bool) (x : ℕ) (o : Op) → Leaves i m (swaps_leaf b x o m)
  leaf_leaves true x o = record { id = refl; lives = refl }
  leaf_leaves false x o = record { id = refl; lives = refl }

  node_leaves : (b : Bool) (x : ℕ) (t : Task) → Leaves i m (swaps_node b x t m)
  node_leaves true x t = record { id = refl; lives = refl }
  node_leaves false x t = record { id = refl; lives = refl }

  advance_leaves : (n : ℕ) (p : Phase) (s : State) → Leaves i m (advance n i p s m)
  advance_leaves n Phase.Idle s = record { id = refl; lives = refl }
  advance_leaves n (Phase.Read u) s = read_leaves (as_wanted u (version_at s.versions (current_of s.nodes (n + cell_of u)))) (n + cell_of u) (op_of i m u)
  advance_leaves n (Phase.Swap u v) s = leaf_leaves (succeeds s (n + cell_of u) v) (n + cell_of u) (op_of i m u)
  advance_leaves n (Phase.Refresh c Held.Nothing) s = record { id = refl; lives = refl }
  advance_leaves n (Phase.Refresh c (Held.Node v)) s = record { id = ap (λ (t : Task). t.id) (put_same ℕ_discrete m.tasks i _); lives = refl }
  advance_leaves n (Phase.Refresh c (Held.Left v l)) s = record { id = ap (λ (t : Task). t.id) (put_same ℕ_discrete m.tasks i _); lives = refl }
  advance_leaves n (Phase.Refresh c (Held.Both v l r)) s = node_leaves (succeeds s c.node.0 v) c.node.0 (m.tasks i)
  advance_leaves n (Phase.Ask q) s = record { id = refl; lives = refl }
  advance_leaves n (Phase.Find k p) s = record { id = refl; lives = refl }
  advance_leaves n (Phase.Rank k p c e) s = record { id = refl; lives = refl }
  advance_leaves n (Phase.Select j p x c) s = record { id = refl; lives = refl }

  lived_steps : (course : Course) (id : ℕ) → ((lived i course m).lives id).steps ≡ pick (eqb id (m.tasks i).id) 1 0 + (m.lives id).steps
  lived_steps course =
      put_all ℕ_discrete (λ (id : ℕ) (l : Life). l.steps ≡ pick (eqb id (m.tasks i).id) 1 0 + (m.lives id).steps) m.lives (m.tasks i).id _
      (omega (arith, one_if (eq-eqb (m.tasks i).id (m.tasks i).id refl)))
      (λ id apart. omega (arith, one_if (ne_eqb id (m.tasks i).id apart)))
    where
      one_if : {a b : Bool} → a ≡ b → ◌≡◌ {A = ℕ} (pick a 1 0) (pick b 1 0)
      one_if = ap (λ (x : Bool). pick {A = ℕ} x 1 0)

module _ (n w : ℕ) (t : Moment) (i : ℕ) where
  pub counted : (course : Course) → (step_of n w i t.state).told ≡ gives course
      → (id : ℕ) → ((called n w (step i) t).memory.lives id).steps ≡ pick (eqb id (t.memory.tasks i).id) 1 0 + (t.memory.lives id).steps
  counted course e id =
      let l = advance_leaves i t.memory n (phase_of i t.state) t.state in
      ap (λ (x : Told Course). ((after_step x n i t.state t.memory).lives id).steps) e
      ∙ lived_steps i (advance n i (phase_of i t.state) t.state t.memory) course id
      ∙ ap₂ (λ (j : ℕ) (f : ℕ → Life). pick (eqb id j) 1 0 + (f id).steps) l.id l.lives

  pub asks : (q : Query) (course : Course) → phase_of i t.state ≡ Phase.Ask q → (step_of n w i t.state).told ≡ gives course
      → (called n w (step i) t).memory.order ≡ t.memory.order ++ (placed (t.memory.tasks i).id (Operation.Query q) t.memory.moment ∷ [])
  asks q course k e =
      ap (λ (x : Told Course). (after_step x n i t.state t.memory).order) e
      ∙ ap (λ (p : Phase). (advance n i p t.state t.memory).order) k
