-- What holds of a leaf's list holds of every node's, cell by cell: it tells the truth, and no update stands in it twice.
-- For a node takes a cell's arrivals from its child's list, from the first on. Assumes nothing.
use Rattle.std.specs.Prelude.{◌≡◌, refl, List, [], ◌∷◌, ◌++◌, ℕ, length}
use Rattle.std.proofs.Common.{sym, ap, ◌∙◌, subst}
use mathlib.Core.List.Memᴰ
use Rattle.std.proofs.Math.Option.{none}
use Rattle.trie.specs.Record.{cell_of}
use Rattle.history.specs.Lists.{◌∈◌, Prefix, All}
use Rattle.history.proofs.ListLaws.{mem_prefix, all_map, all_head, all_at}
use Rattle.history.proofs.Nodes.{Side, Node, down, Below}
use Rattle.history.proofs.Numbers.{place, length_leaf, place_leaf}
use Rattle.history.specs.Arrivals.{Entry}
use Rattle.history.proofs.Machine.{Shared, at, cell}
use Rattle.history.proofs.Replay.{Ok, ok_prefix, only, only_append, only_cells, mem_only, only_mem, Distinct, dist_nil, distinct_prefix, distinct_only, distinct_by_cells}
use Rattle.history.proofs.Invariant.{Known, SpotOk}
use Rattle.history.proofs.AtLeaf.{fit_below}

module _ (h : ℕ) (weight : ℕ → ℕ) (G : Shared) (sp : (y : Node) → SpotOk h weight G y (at G y)) where
  -- P holds of a cell's arrivals at every node if it holds of them at the leaf, and of each list that begins another
  up : (P : List Entry → Type 0) → ((s t : List Entry) → P (s ++ t) → P s) → ((y : Node) → length y ≡ h → P (only (place y) (at G y).reached))
      → (t : List Side) (x : Node) → length (down t x) ≡ h → P (only (place (down t x)) (at G x).reached)
  up P part leaf [] x l = leaf x l
  up P part leaf (b ∷ t) x l = go ((sp x).taken_pre b) (up P part leaf t (b ∷ x) l)
    where
      k : ℕ
      k = place (down t (b ∷ x))

      go : Prefix ((at G x).taken b) (at G (b ∷ x)).reached → P (only k (at G (b ∷ x)).reached) → P (only k (at G x).reached)
      go p o = subst P (sym ((sp x).taken_eq b (down t (b ∷ x)) (record { turns = t; is = refl }) l))
          (part (only k ((at G x).taken b)) (only k p.rest)
          (subst P (ap (only k) p.is ∙ only_append k ((at G x).taken b) p.rest) o))

  -- a cell of which the node's list has an entry lies below the node; of any other cell the list has nothing
  every : (P : List Entry → Type 0) → P [] → ((s t : List Entry) → P (s ++ t) → P s) → ((y : Node) → length y ≡ h → P (only (place y) (at G y).reached))
      → (x : Node) (k : ℕ) → P (only k (at G x).reached)
  every P nil part leaf x k = go (only k (at G x).reached) refl
    where
      below : (e : Entry) → cell_of e.op.update ≡ k → Below x (cell h e.op) × Known h G e.op → P (only k (at G x).reached)
      below e c (b, kn) = subst (λ m. P (only m (at G x).reached)) (ap place (sym b.is) ∙ place_leaf h (cell_of e.op.update) (fit_below e.op.update kn.fit) ∙ c)
          (up P part leaf b.turns x (ap length (sym b.is) ∙ length_leaf h (cell_of e.op.update)))

      go : (s : List Entry) → only k (at G x).reached ≡ s → P (only k (at G x).reached)
      go [] q = subst P (sym q) nil
      go (e ∷ s) q = below e (all_head (subst (λ z. All (λ e. cell_of e.op.update ≡ k) z) q (only_cells k (at G x).reached)))
          (all_at (sp x).inside (mem_only k (at G x).reached (subst (λ z. e ∈ z) (sym q) (Memᴰ.head refl))))

  pub truth_at : (x : Node) (k : ℕ) → Ok none (only k (at G x).reached)
  truth_at = every (Ok none) tt (ok_prefix none) (λ y l. (sp y).truth l)

  pub once_at : (x : Node) → Distinct (at G x).reached
  once_at x = distinct_by_cells G.ops (at G x).reached (all_map (λ e p. p.1.is) (sp x).inside)
      (every Distinct dist_nil distinct_prefix (λ y l. distinct_only (place y) ((sp y).once l)) x)

  -- who has reached a node has reached the child on its way
  pub reached_down : (x : Node) (b : Side) (e : Entry) → Below (b ∷ x) (cell h e.op) → e ∈ (at G x).reached → e ∈ (at G (b ∷ x)).reached
  reached_down x b e below m = mem_prefix ((sp x).taken_pre b) (mem_only k ((at G x).taken b) (subst (λ s. e ∈ s) same (only_mem k c m)))
    where
      k : ℕ
      k = place (cell h e.op)

      c : cell_of e.op.update ≡ k
      c = sym (place_leaf h (cell_of e.op.update) (fit_below e.op.update (all_at (sp x).inside m).1.fit))

      same : only k (at G x).reached ≡ only k ((at G x).taken b)
      same = (sp x).taken_eq b (cell h e.op) below (length_leaf h (cell_of e.op.update))
