-- What a step makes of a worker with an update: it goes on with the same update, or has answered it. Numbers of updates
-- are given out by starts only. Assumes nothing.
use Rattle.std.specs.Prelude.{◌≡◌, refl, Bool, true, false, List, [], ◌∷◌, ℕ}
use Rattle.std.proofs.Math.Decide.{ℕ_discrete}
use Rattle.trie.specs.Choice.{pick}
use Rattle.trie.specs.Values.{yes', no', Course, on, done}
use Rattle.decibel.specs.Told.{gives}
use Rattle.history.proofs.Nodes.{Node}
use Rattle.history.specs.Book.{fits, mark}
use Rattle.history.specs.Arrivals.{Op, Entry}
use Rattle.history.proofs.Machine.{Shared, nothing, at_node, at_left, at_both, Climb, Worker, idle, reading, swapping, climbing, answered, at, cell, go_up, missed, leaf_read, leaf_try, node_try, step_w}
use Rattle.history.proofs.Invariant.{OnOp}
use Rattle.history.proofs.Simulation.{Working, at_read, at_swap, at_climb, told_of}

pub data Turned (o : Op) : Worker → Type 0 where
  still : {W : Worker} → Working W → OnOp (λ q. q ≡ o) W → Turned o W
  ended : (r : Bool) → Turned o (answered o r)

abbrev pub course_of : Worker → Course
course_of idle = on
course_of (reading o) = on
course_of (swapping o v) = on
course_of (climbing c st) = on
course_of (answered o r) = done (pick r yes' no')

pub told_course : (W : Worker) → told_of W ≡ gives (course_of W)
told_course idle = refl
told_course (reading o) = refl
told_course (swapping o v) = refl
told_course (climbing c st) = refl
told_course (answered o r) = refl

turned_up : (o : Op) (r : Bool) (m : ℕ) (x : Node) → Turned o (go_up o r m x)
turned_up o r m [] = ended r
turned_up o r m (b ∷ x) = still at_climb refl

module _ (h : ℕ) (weight : ℕ → ℕ) (G : Shared) where
  turned_read : (o : Op) (b : Bool) → Turned o (leaf_read h b G o).1
  turned_read o true = turned_up o false 0 (cell h o)
  turned_read o false = still at_swap refl

  turned_try : {P : Type 0} (o : Op) (d : Dec P) → Turned o (leaf_try h weight d G o).1
  turned_try o (yes p) = turned_up o true 1 (cell h o)
  turned_try o (no n) = turned_up o false 0 (cell h o)

  turned_missed : (c : Climb) (a : Bool) → Turned c.op (missed a c)
  turned_missed c false = still at_climb refl
  turned_missed c true = turned_up c.op c.res c.made c.node

  turned_node : {P : Type 0} (c : Climb) (d : Dec P) (l : ℕ) (s : List Entry) (r : ℕ) (t : List Entry) → Turned c.op (node_try d G c l s r t).1
  turned_node c (yes p) l s r t = turned_up c.op c.res _ c.node
  turned_node c (no n) l s r t = turned_missed c c.again

  -- the update of a worker, and what its step makes of it
  pub record Outcome (W : Worker) : Type 0 where
    pub op : Op
    pub its : OnOp (λ q. q ≡ op) W
    pub turned : Turned op (step_w h weight G W).1

  pub turns : (W : Worker) → Working W → Outcome W
  turns (reading o) at_read = record { op = o; its = refl; turned = turned_read o (fits o.update (mark (G.ver (at G (cell h o)).current))) }
  turns (swapping o v) at_swap = record { op = o; its = refl; turned = turned_try o (ℕ_discrete (at G (cell h o)).current v) }
  turns (climbing c nothing) at_climb = record { op = c.op; its = refl; turned = still at_climb refl }
  turns (climbing c (at_node v)) at_climb = record { op = c.op; its = refl; turned = still at_climb refl }
  turns (climbing c (at_left v l s)) at_climb = record { op = c.op; its = refl; turned = still at_climb refl }
  turns (climbing c (at_both v l s r t)) at_climb = record { op = c.op; its = refl; turned = turned_node c (ℕ_discrete (at G c.node).current v) l s r t }
  turns idle active = elim active [ ]
  turns (answered _ _) active = elim active [ ]

  same_read : (o : Op) (b : Bool) → ((leaf_read h b G o).0.next ≡ G.next) × ((leaf_read h b G o).0.ops ≡ G.ops)
  same_read o true = (refl, refl)
  same_read o false = (refl, refl)

  same_try : {P : Type 0} (o : Op) (d : Dec P) → ((leaf_try h weight d G o).0.next ≡ G.next) × ((leaf_try h weight d G o).0.ops ≡ G.ops)
  same_try o (yes p) = (refl, refl)
  same_try o (no n) = (refl, refl)

  same_node : {P : Type 0} (c : Climb) (d : Dec P) (l : ℕ) (s : List Entry) (r : ℕ) (t : List Entry) → ((node_try d G c l s r t).0.next ≡ G.next) × ((node_try d G c l s r t).0.ops ≡ G.ops)
  same_node c (yes p) l s r t = (refl, refl)
  same_node c (no n) l s r t = (refl, refl)

  -- a step gives no number out
  pub same_numbers : (W : Worker) → ((step_w h weight G W).0.next ≡ G.next) × ((step_w h weight G W).0.ops ≡ G.ops)
  same_numbers idle = (refl, refl)
  same_numbers (reading o) = same_read o (fits o.update (mark (G.ver (at G (cell h o)).current)))
  same_numbers (swapping o v) = same_try o (ℕ_discrete (at G (cell h o)).current v)
  same_numbers (climbing c nothing) = (refl, refl)
  same_numbers (climbing c (at_node v)) = (refl, refl)
  same_numbers (climbing c (at_left v l s)) = (refl, refl)
  same_numbers (climbing c (at_both v l s r t)) = same_node c (ℕ_discrete (at G c.node).current v) l s r t
  same_numbers (answered o r) = (refl, refl)
