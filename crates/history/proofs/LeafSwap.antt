-- The swap at a leaf keeps the facts: with it come those that wait, and all that it brings is as AtLeaf says.
-- Assumes nothing.
use Rattle.std.specs.Prelude.{◌≡◌, refl, true, false, List, [], ℕ, suc, ◌≤◌}
use Rattle.std.proofs.Common.{sym, ◌∙◌, subst, le_refl, arith}
use mathlib.Core.List.Memᴰ
use Rattle.std.proofs.Math.Option.{Option, some, none}
use Rattle.std.proofs.Math.Decide.{ℕ_discrete}
use Rattle.trie.specs.Record.{cell_of}
use Rattle.history.specs.Lists.{◌∈◌, all_nil, all_cons}
use Rattle.history.proofs.ListLaws.{all_map, all_at}
use Rattle.history.proofs.Nodes.{Side, lo, hi, Node, Node-discrete, below_self}
use Rattle.history.proofs.Numbers.{length_leaf}
use Rattle.history.specs.Book.{want}
use Rattle.history.specs.Arrivals.{Op, Entry, entry, swap_brings}
use Rattle.history.proofs.PutLaws.{put_all, put_same}
use Rattle.history.proofs.Machine.{child, leaf_version, Shared, swapping, at, cell, go_up, leaf_swap, leaf_try}
use Rattle.history.proofs.Replay.{mem_refused, all_refused, all_others, mem_others, dist_cons, ops_nil, none_others, distinct_others}
use Rattle.history.proofs.Invariant.{Closed, Known, SpotOk, LeafOk}
use Rattle.history.proofs.Depicting.{depicts_leaf}
use Rattle.history.proofs.Growth.{leaf, Grow, Step, spot_grow}
use Rattle.history.proofs.Building.{NotMe, NoK, no_k, closed_swap, grow_swap, up, up_only}
use Rattle.history.proofs.AtLeaf.{places, view_leaf, leaf_spot, swapped_cells, swapped_known, swapped_ok, swapped_run}

module _ (h : ℕ) (weight : ℕ → ℕ) where
  module _ (G : Shared) (cl : Closed G.ver G.used) (sp : (y : Node) → SpotOk h weight G y (at G y)) where
    module _ (o : Op) (v : ℕ) (ok : LeafOk h weight G o v) (kn : Known h G o) (e : (at G (cell h o)).current ≡ v) where
      abbrev swapped : List Entry
      swapped = swap_brings o (at G (cell h o)).waiting

      grow_leaf : Grow h weight (NotMe o) NoK G (leaf_swap h weight G o)
      grow_leaf = grow_swap h weight G cl (NotMe o) NoK (cell h o) (leaf_version weight (want o.update)) swapped (at G (cell h o)).taken
          (leaf (omega arith) (length_leaf h (cell_of o.update)) (λ q m j. Memᴰ.append_right (at G (cell h o)).reached (Memᴰ.tail (mem_refused (mem_others o.id j m)))))
          (λ q l j z. all_cons (λ p. j (sym p)) (all_refused (all_others o.id z.waiting)))

      closed_leaf : Closed (leaf_swap h weight G o).ver (leaf_swap h weight G o).used
      closed_leaf = closed_swap G.ver G.used (leaf_version weight (want o.update)) (kids (want o.update)) cl
        where
          kids : (m : Option ℕ) (b : Side) → child b (leaf_version weight m) ≤ G.used
          kids none lo = omega arith
          kids none hi = omega arith
          kids (some l) lo = omega arith
          kids (some l) hi = omega arith

      spot_leaf : (y : Node) → SpotOk h weight (leaf_swap h weight G o) y (at (leaf_swap h weight G o) y)
      spot_leaf =
          let long = length_leaf h (cell_of o.update) in
          let cells = swapped_cells h weight G cl sp o v ok kn e in
          let known = swapped_known h weight G cl sp o v ok kn e in
          let seen = view_leaf h weight G cl sp (cell h o) swapped (places h weight G cl sp (cell h o) swapped known cells) ∙ swapped_run h weight G cl sp o v ok kn e in
          put_all Node-discrete (λ y a. SpotOk h weight (leaf_swap h weight G o) y a) G.spot (cell h o) _
          (leaf_spot h weight G cl sp grow_leaf (cell h o) swapped (suc G.used) [] long cells (swapped_ok h weight G cl sp o v ok kn e) (le_refl (suc G.used))
          (depicts_leaf h weight _ (cell h o) (suc G.used) _ (want o.update) (omega arith) long (put_same ℕ_discrete G.ver (suc G.used) _) seen) all_nil known
          (dist_cons (all_refused (none_others o.id (at G (cell h o)).waiting)) (distinct_others o.id (sp (cell h o)).once_waiting))
          (all_cons (all_at (sp (cell h o)).able (ok.waits e)).3 (all_refused (all_others o.id (all_map (λ q p. p.3) (sp (cell h o)).able)))) ops_nil)
          (λ y n. spot_grow h weight grow_leaf y (at G y) (sp y))

      leaf_step : Step h weight G (swapping o v) (leaf_swap h weight G o, go_up o true 1 (cell h o))
      leaf_step =
          up h weight G (NotMe o) NoK (swapping o v) (leaf_swap h weight G o) o true 1 (cell h o) (λ P p. p) kn closed_leaf spot_leaf grow_leaf (λ X a. a) (λ X p. no_k X) (omega (arith, length_leaf h (cell_of o.update))) (below_self (cell h o))
          (subst (λ a. entry o true ∈ a.reached) (sym (put_same Node-discrete G.spot (cell h o) _)) (Memᴰ.append_right (at G (cell h o)).reached (Memᴰ.head refl)))

    pub try_step : (o : Op) (v : ℕ) → LeafOk h weight G o v → Known h G o → (d : Dec ((at G (cell h o)).current ≡ v)) → Step h weight G (swapping o v) (leaf_try h weight d G o)
    try_step o v ok old (yes e) = leaf_step o v ok old e
    try_step o v ok old (no n) = up_only h weight G cl sp (swapping o v) o false 0 (cell h o) (λ P p. p) old (omega (arith, length_leaf h (cell_of o.update))) (below_self (cell h o)) (ok.done n)
