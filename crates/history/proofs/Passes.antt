-- What the machine's facts say of the tables that show it: every version that an update reads or holds is whole, and its climb is on its path.
-- Assumes nothing.
use Rattle.std.specs.Prelude.{◌≡◌, refl, Bool, true, false, ◌||◌, List, [], ◌∷◌, ℕ, zero, suc, ◌+◌, ◌*◌, ◌^◌, ◌≤◌, eqb, length}
use Rattle.std.proofs.Common.{sym, ap, ap₂, ◌∙◌, subst, pow-suc, arith, le-leb, eq-eqb, pow_mono}
use Rattle.std.proofs.lemmas.Bool.{lt-leb}
use Rattle.std.proofs.Math.Dec.{eqb-suc-zero}
use Rattle.decibel.specs.Energy.{energy_of}
use Rattle.trie.specs.declared.Bounds.{Bounds}
use Rattle.trie.proofs.SizeLaws.{and_both}
use Rattle.trie.specs.Tables.{used_of}
use Rattle.trie.specs.Record.{update_fits, leaf_of, cell_of, above, climb_fits}
use Rattle.trie.specs.Refreshing.{over_leaves}
use Rattle.history.specs.Lists.{Prefix}
use Rattle.history.proofs.ListLaws.{prefix_refl, all_map, all_prefix}
use Rattle.history.proofs.Nodes.{Side, Node, down, length_down, Below}
use Rattle.history.proofs.Numbers.{number, number_range, half, length_leaf, number_leaf}
use Rattle.history.specs.Arrivals.{Op, Entry}
use Rattle.history.proofs.Machine.{Shared, Climb, Stage, at, cell}
use Rattle.history.proofs.AtLeaf.{fit_below}
use Rattle.history.proofs.Invariant.{Closed, Known, Depicts, SpotOk, WasAt, SawOk, ClimbOk}
use Rattle.history.proofs.Replay.{view}
use Rattle.history.proofs.View.{View, climb_of}
use Rattle.history.proofs.Whole.{version_of, Whole, whole_grow}
use Rattle.history.proofs.Judged.{Gauge}
use Rattle.history.proofs.Drawn.{Quiet, view_quiet, depicts_whole}

-- ---- paths

or_second : (a b : Bool) → b ≡ true → (a || b) ≡ true
or_second true b e = refl
or_second false b e = e

or_first : (a b : Bool) → a ≡ true → (a || b) ≡ true
or_first a b e = rw e

above_next : (d : ℕ) (b : Side) (y : Node) (x : ℕ) → above d (number y) x ≡ true → above (suc d) (number (b ∷ y)) x ≡ true
unfolding above
above_next d b y x e = rw (half b (number y)) (or_second (eqb x (number y)) (above d (number y) x) e)

above_parent : (d : ℕ) (b : Side) (x : Node) → above (suc d) (number (b ∷ x)) (number x) ≡ true
unfolding above
above_parent d b x = rw (half b (number x)) (or_first (eqb (number x) (number x)) (above d (number x) (number x)) (eq-eqb (number x) (number x) refl))

above_down : (t : List Side) (d : ℕ) (y : Node) (x : ℕ) → above d (number y) x ≡ true → above (d + length t) (number (down t y)) x ≡ true
above_down [] d y x e = let z : d ≡ d + 0 = omega arith in subst (λ (m : ℕ). above m (number y) x ≡ true) z e
above_down (b ∷ t) d y x e =
    let z : suc d + length t ≡ d + suc (length t) = omega arith in
    subst (λ (m : ℕ). above m (number (down t (b ∷ y))) x ≡ true) z (above_down t (suc d) (b ∷ y) x (above_next d b y x e))

-- from a node below it, the parent is met within as many steps as the lower node is deep
pub above_below : (h : ℕ) (b : Side) (x k : Node) → Below (b ∷ x) k → length k ≡ h → above h (number k) (number x) ≡ true
above_below h b x k p e =
    let z : suc (length x) + length p.turns ≡ h = omega (arith, ap length p.is, length_down p.turns (b ∷ x)) in
    subst (λ (m : ℕ). above m (number k) (number x) ≡ true) z
    (subst (λ (y : Node). above (suc (length x) + length p.turns) (number y) (number x) ≡ true) (sym p.is)
    (above_down p.turns (suc (length x)) (b ∷ x) (number x) (above_parent (length x) b x)))

-- ---- an update's numbers

module _ {h u most : ℕ} {b : Bounds} (g : Gauge h u most b) where
  pub leaf_number : (o : Op) → update_fits (2 ^ h) o.update ≡ true → leaf_of b o.update ≡ number (cell h o)
  leaf_number o f = omega (arith, g.cells, number_leaf h (cell_of o.update) (fit_below o.update f))

  pub update_fits_lem : (o : Op) → update_fits (2 ^ h) o.update ≡ true → update_fits b.cells o.update ≡ true
  update_fits_lem o f = ap (λ (n : ℕ). update_fits n o.update) g.cells ∙ f

  pub climb_fits_lem : (weight : ℕ → ℕ) (G : Shared) (c : Climb) (st : Stage) → Known h G c.op → ClimbOk h weight G c st → climb_fits b (climb_of c) ≡ true
  unfolding climb_fits
  climb_fits_lem weight G c st k p =
      and_both _ _ (update_fits_lem c.op k.fit)
      (and_both _ _
      (ap₂ (λ (m : ℕ) (n : ℕ). above m n (number c.node)) g.height (leaf_number c.op k.fit) ∙ above_below h c.side c.node (cell h c.op) p.below (length_leaf h (cell_of c.op.update)))
      (le-leb c.made b.share (omega (arith, p.share, g.share))))

  -- the children of a node are leaves exactly where they stand on the leaves' level
  pub over_leaves_lem : (c : Climb) (d : ℕ) → suc (length c.node) + d ≡ h → eqb d 0 ≡ over_leaves b (climb_of c)
  over_leaves_lem c zero e =
      let m : 2 ^ suc (length c.node) ≡ 2 ^ h = ap (λ (n : ℕ). 2 ^ n) (omega arith) in
      sym (le-leb b.cells (2 * number c.node) (omega (arith, g.cells, (number_range c.node).0, pow-suc 2 (length c.node))))
  over_leaves_lem c (suc d) e =
      let m : 2 ^ suc (suc (length c.node)) ≤ 2 ^ h = pow_mono (omega arith) in
      eqb-suc-zero d
      ∙ sym (lt-leb b.cells (2 * number c.node) (omega (arith, g.cells, (number_range c.node).1, pow-suc 2 (length c.node), pow-suc 2 (suc (length c.node)))))

-- ---- what is read and held is whole

module _ {h : ℕ} {G : Shared} {nodes versions : List ℕ} (v : View h G nodes versions) (closed : Closed G.ver G.used) (spots : (y : Node) → SpotOk h energy_of G y (at G y)) where
  -- as the tables have it
  shown_whole : {d n : ℕ} → Whole energy_of G.ver G.used d n → Whole energy_of (version_of versions) (used_of nodes) d n
  shown_whole w = whole_grow energy_of (omega (arith, v.used)) (λ n l. v.ver n) w

  -- the levels of a list that has reached a node are within the range
  pub quiet : (y : Node) (s : List Entry) → Prefix s (at G y).reached → (k : ℕ) → Quiet (view s k)
  quiet y s p k = view_quiet (2 ^ h) k (all_prefix p (all_map (λ e q. q.1.fit) (spots y).inside))

  pub depicted_whole : (y : Node) (d n : ℕ) (s : List Entry) → length y + d ≡ h → n ≤ G.used → Prefix s (at G y).reached → Depicts h energy_of G.ver y n s
      → Whole energy_of (version_of versions) (used_of nodes) d n
  depicted_whole y d n s e l p q = shown_whole (depicts_whole h energy_of closed (quiet y s p) d e l q)

  pub current_whole : (y : Node) (d : ℕ) → length y + d ≡ h → Whole energy_of (version_of versions) (used_of nodes) d (at G y).current
  current_whole y d e = depicted_whole y d (at G y).current (at G y).reached e (spots y).current_le (prefix_refl (at G y).reached) (spots y).depicts

  pub was_whole : (y : Node) (d n : ℕ) → length y + d ≡ h → WasAt h energy_of G y n → Whole energy_of (version_of versions) (used_of nodes) d n
  was_whole y d n e w = depicted_whole y d n w.list e w.le w.pre w.depicts

  pub saw_whole : (c : Climb) (n : ℕ) (b : Side) (l : ℕ) (s : List Entry) (d : ℕ) → suc (length c.node) + d ≡ h → SawOk h energy_of G c n b l s → Whole energy_of (version_of versions) (used_of nodes) d l
  saw_whole c n b l s d e w = depicted_whole (b ∷ c.node) d l s e w.le w.pre w.depicts
