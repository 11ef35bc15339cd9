-- A climb that fits stands at a node no further than the leaves: each step up halves the number, so that twice it is a number still.
-- Assumes nothing.
use Rattle.std.specs.Prelude.{◌≡◌, refl, Bool, true, false, ◌&&◌, ◌||◌, ℕ, zero, suc, ◌*◌, ◌/◌, ◌≤◌, eqb, leb}
use Rattle.std.proofs.Common.{arith, eqb-true, leb-true}
use Rattle.trie.specs.declared.Climb.{Climb}
use Rattle.trie.specs.declared.Bounds.{Bounds}
use Rattle.trie.specs.Size.{most_cells}
use Rattle.trie.specs.Record.{update_fits, leaf_of, above, climb_fits}
use Rattle.trie.proofs.SizeLaws.{and_first, and_second}
use Rattle.records.proofs.Tests.{fits_cell}

above_le : (d y x : ℕ) → above d y x ≡ true → x ≤ y
unfolding above
above_le zero y x e = absurd (let z : ◌≡◌ {A = ℕ} 0 1 = cc in omega arith)
above_le (suc d) y x e = by (eqb x (y / 2)) refl e (λ q. above_le d (y / 2) x q)
  where
    by : (t : Bool) → eqb x (y / 2) ≡ t → (t || above d (y / 2) x) ≡ true → (above d (y / 2) x ≡ true → x ≤ y / 2) → x ≤ y
    by true p q more = omega (arith, eqb-true x (y / 2) p)
    by false p q more = omega (arith, more q)

pub climb_node : (b : Bounds) (c : Climb) (t : Bool) → t ≡ (leb b.cells most_cells && climb_fits b c) → t ≡ true → c.node.0 ≤ 2 * most_cells
unfolding climb_fits
climb_node b c t e q =
    let all : (leb b.cells most_cells && climb_fits b c) ≡ true = cc in
    let few = leb-true b.cells most_cells (and_first (leb b.cells most_cells) (climb_fits b c) all) in
    let climb = and_second (leb b.cells most_cells) (climb_fits b c) all in
    let fits : update_fits b.cells c.update ≡ true = and_first (update_fits b.cells c.update) _ climb in
    let rest = and_second (update_fits b.cells c.update) (above b.height (leaf_of b c.update) c.node.0 && leb c.made b.share) climb in
    let up = above_le b.height (leaf_of b c.update) c.node.0 (and_first (above b.height (leaf_of b c.update) c.node.0) _ rest) in
    omega (arith, fits_cell b.cells c.update fits)
