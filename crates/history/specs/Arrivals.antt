-- Updates that reach a node: who arrives with a swap, and in what order.
-- Document 01, "Reaching the root". Assumes nothing.
use Rattle.std.specs.Prelude.{Bool, true, false, ◌||◌, List, [], ◌∷◌, ◌++◌, ℕ, eqb}
use Rattle.trie.specs.declared.Update.{Update}
use Rattle.trie.specs.Choice.{pick}

-- an update, and the number of the accepted start that began it: no two updates have the same
pub record Op : Type 0 where
  pub id : ℕ
  pub update : Update

-- an update that has reached a node, with its result
pub record Entry : Type 0 where
  pub op : Op
  pub res : Bool

abbrev pub entry : Op → Bool → Entry
entry o r = record { op = o; res = r }

-- all of them with the result no
abbrev pub refused : List Op → List Entry
refused [] = []
refused (o ∷ s) = entry o false ∷ refused s

abbrev pub others : ℕ → List Op → List Op
others i [] = []
others i (o ∷ s) = pick (eqb o.id i) (others i s) (o ∷ others i s)

-- at a leaf, a successful swap brings its own update, and just behind it those that wait, in the order of their reads
abbrev pub swap_brings : Op → List Op → List Entry
swap_brings o waiting = entry o true ∷ refused (others o.id waiting)

abbrev pub has : List Entry → ℕ → Bool
has [] i = false
has (e ∷ s) i = eqb e.op.id i || has s i

-- those of s that are not yet among the reached
abbrev pub unseen : List Entry → List Entry → List Entry
unseen reached [] = []
unseen reached (e ∷ s) = pick (has reached e.op.id) (unseen reached s) (e ∷ unseen reached s)

-- at an inner node, a successful swap brings what its refresh has read of the left child and had not yet come, then of the right
abbrev pub refresh_brings : List Entry → List Entry → List Entry → List Entry
refresh_brings reached left right = unseen reached left ++ unseen reached right
