-- A place once given is kept: every call leaves the order as it was, or adds to its end.
-- Assumes nothing.
use Rattle.std.specs.Prelude.{Bool, true, false, List, [], ◌∷◌, ℕ, ◌+◌}
use Rattle.decibel.specs.Told.{Told, refused, gives}
use Rattle.trie.specs.declared.Held.{Held}
use Rattle.trie.specs.declared.Operation.{Operation}
use Rattle.trie.specs.declared.Phase.{Phase}
use Rattle.trie.specs.Tables.{current_of, version_at}
use Rattle.trie.specs.Record.{cell_of}
use Rattle.trie.specs.Leaf.{as_wanted}
use Rattle.trie.specs.Values.{Ok, Course}
use Rattle.trie.specs.Calls.{State, start_of, step_of}
use Rattle.history.specs.Lists.{Prefix}
use Rattle.history.proofs.ListLaws.{prefix_refl, prefix_append, prefix_trans}
use Rattle.history.specs.Arrivals.{Op}
use Rattle.history.specs.Order.{Task, Memory, succeeds, reads_leaf, swaps_leaf, swaps_node, op_of, advance}
use Rattle.history.specs.Histories.{Call, start, step, Moment, phase_of, after_start, after_step, called, after}

read_grows : (b : Bool) (x : ℕ) (o : Op) (m : Memory) → Prefix m.order (reads_leaf b x o m).order
read_grows true x o m = prefix_append m.order _
read_grows false x o m = prefix_refl m.order

leaf_grows : (b : Bool) (x : ℕ) (o : Op) (m : Memory) → Prefix m.order (swaps_leaf b x o m).order
leaf_grows true x o m = prefix_append m.order _
leaf_grows false x o m = prefix_refl m.order

node_grows : (b : Bool) (x : ℕ) (t : Task) (m : Memory) → Prefix m.order (swaps_node b x t m).order
node_grows true x t m = prefix_append m.order _
node_grows false x t m = prefix_refl m.order

advance_grows : (n i : ℕ) (p : Phase) (s : State) (m : Memory) → Prefix m.order (advance n i p s m).order
advance_grows n i Phase.Idle s m = prefix_refl m.order
advance_grows n i (Phase.Read u) s m = read_grows (as_wanted u (version_at s.versions (current_of s.nodes (n + cell_of u)))) (n + cell_of u) (op_of i m u) m
advance_grows n i (Phase.Swap u v) s m = leaf_grows (succeeds s (n + cell_of u) v) (n + cell_of u) (op_of i m u) m
advance_grows n i (Phase.Refresh c Held.Nothing) s m = prefix_refl m.order
advance_grows n i (Phase.Refresh c (Held.Node v)) s m = prefix_refl m.order
advance_grows n i (Phase.Refresh c (Held.Left v l)) s m = prefix_refl m.order
advance_grows n i (Phase.Refresh c (Held.Both v l r)) s m = node_grows (succeeds s c.node.0 v) c.node.0 (m.tasks i) m
advance_grows n i (Phase.Ask q) s m = prefix_append m.order _
advance_grows n i (Phase.Find k p) s m = prefix_refl m.order
advance_grows n i (Phase.Rank k p c e) s m = prefix_refl m.order
advance_grows n i (Phase.Select j p x c) s m = prefix_refl m.order

start_grows : (t : Told Ok) (i : ℕ) (o : Operation) (m : Memory) → Prefix m.order (after_start t i o m).order
start_grows (refused number) i o m = prefix_refl m.order
start_grows (gives told) i o m = prefix_refl m.order

step_grows : (t : Told Course) (n i : ℕ) (s : State) (m : Memory) → Prefix m.order (after_step t n i s m).order
step_grows (refused number) n i s m = prefix_refl m.order
step_grows (gives course) n i s m = advance_grows n i (phase_of i s) s m

call_grows : (n w : ℕ) (c : Call) (t : Moment) → Prefix t.memory.order (called n w c t).memory.order
call_grows n w (start i o) t = start_grows (start_of n w i o t.state).told i o t.memory
call_grows n w (step i) t = step_grows (step_of n w i t.state).told n i t.state t.memory

pub order_grows : (n w : ℕ) (calls : List Call) (t : Moment) → Prefix t.memory.order (after n w calls t).memory.order
order_grows n w [] t = prefix_refl t.memory.order
order_grows n w (c ∷ calls) t = prefix_trans (call_grows n w c t) (order_grows n w calls (called n w c t))
