-- No update waits for another worker: how many own steps it has left at most, and that each of its steps takes one away.
-- Assumes nothing.
use Rattle.std.specs.Prelude.{◌≡◌, refl, Bool, true, false, List, [], ◌∷◌, ℕ, suc, ◌+◌, ◌*◌, ◌≤◌, length}
use Rattle.std.proofs.Common.{le_refl, arith}
use Rattle.std.proofs.Math.Decide.{ℕ_discrete}
use Rattle.trie.specs.Record.{cell_of}
use Rattle.history.proofs.Nodes.{Node}
use Rattle.history.proofs.Numbers.{length_leaf}
use Rattle.history.specs.Book.{fits, mark}
use Rattle.history.specs.Arrivals.{Op, Entry}
use Rattle.history.proofs.Machine.{Shared, Stage, nothing, at_node, at_left, at_both, Climb, Worker, idle, reading, swapping, climbing, answered, at, cell, go_up, missed, leaf_read, leaf_try, node_try, step_w}

abbrev pub left_in_refresh : Stage → ℕ
left_in_refresh nothing = 4
left_in_refresh (at_node v) = 3
left_in_refresh (at_left v l s) = 2
left_in_refresh (at_both v l s r t) = 1

abbrev pub left_after : Bool → ℕ
left_after false = 4
left_after true = 0

module _ (h : ℕ) where
  abbrev pub steps_left : Worker → ℕ
  steps_left idle = 0
  steps_left (reading o) = 8 * h + 2
  steps_left (swapping o v) = 8 * h + 1
  steps_left (climbing c st) = 8 * length c.node + left_after c.again + left_in_refresh st
  steps_left (answered o r) = 0

  left_up : (o : Op) (r : Bool) (m : ℕ) (x : Node) → steps_left (go_up o r m x) ≡ 8 * length x
  left_up o r m [] = refl
  left_up o r m (b ∷ x) = omega arith

  left_cell : (o : Op) (r : Bool) (m : ℕ) → steps_left (go_up o r m (cell h o)) ≡ 8 * h
  left_cell o r m = omega (arith, left_up o r m (cell h o), length_leaf h (cell_of o.update))

  module _ (weight : ℕ → ℕ) (G : Shared) where
    left_read : (o : Op) (b : Bool) → steps_left (leaf_read h b G o).1 ≤ 8 * h + 1
    left_read o true = omega (arith, left_cell o false 0)
    left_read o false = le_refl _

    left_try : (o : Op) (v : ℕ) (d : Dec ((at G (cell h o)).current ≡ v)) → steps_left (leaf_try h weight d G o).1 ≤ 8 * h
    left_try o v (yes e) = omega (arith, left_cell o true 1)
    left_try o v (no n) = omega (arith, left_cell o false 0)

    left_missed : (c : Climb) (a : Bool) → steps_left (missed a c) ≤ 8 * length c.node + left_after a
    left_missed c false = omega (arith, left_up c.op c.res c.made c.node)
    left_missed c true = omega (arith, left_up c.op c.res c.made c.node)

    left_node : (c : Climb) (v l : ℕ) (s : List Entry) (r : ℕ) (t : List Entry) (d : Dec ((at G c.node).current ≡ v)) → steps_left (node_try d G c l s r t).1 ≤ 8 * length c.node + left_after c.again
    left_node c v l s r t (yes e) = omega (arith, left_up c.op c.res (suc c.made) c.node)
    left_node c v l s r t (no n) = omega (arith, left_missed c c.again)

    -- an update under way has steps left, and its step takes one away
    pub left_step : (W : Worker) → 1 ≤ steps_left W → suc (steps_left (step_w h weight G W).1) ≤ steps_left W
    left_step idle p = absurd (omega arith)
    left_step (reading o) p = omega (arith, left_read o (fits o.update (mark (G.ver (at G (cell h o)).current))))
    left_step (swapping o v) p = omega (arith, left_try o v (ℕ_discrete (at G (cell h o)).current v))
    left_step (climbing c nothing) p = omega arith
    left_step (climbing c (at_node v)) p = omega arith
    left_step (climbing c (at_left v l s)) p = omega arith
    left_step (climbing c (at_both v l s r t)) p = omega (arith, left_node c v l s r t (ℕ_discrete (at G c.node).current v))
    left_step (answered o r) p = absurd (omega arith)
