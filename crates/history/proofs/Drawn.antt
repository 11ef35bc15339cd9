-- A version that depicts a list of arrivals is whole, and shows the book that the list makes.
-- Assumes nothing.
use Rattle.std.specs.Prelude.{◌≡◌, refl, true, List, [], ◌∷◌, ℕ, zero, suc, ◌+◌, ◌*◌, ◌^◌, ◌≤◌, ◌<◌, ltb, leb, length}
use Rattle.std.proofs.Common.{sym, ap, ap₂, ◌∙◌, subst, pow-suc, arith, leb-true}
use Rattle.std.proofs.Math.Option.{Option, some, none}
use Rattle.decibel.specs.Conversion.{loudest}
use Rattle.trie.specs.declared.Update.{Update}
use Rattle.trie.specs.declared.Version.{Version}
use Rattle.trie.proofs.SizeLaws.{and_second}
use Rattle.trie.specs.Record.{update_fits}
use Rattle.history.specs.Lists.{All, all_nil, all_cons}
use Rattle.history.proofs.Nodes.{Side, lo, hi, Node}
use Rattle.history.proofs.Numbers.{place}
use Rattle.history.specs.Book.{after, mark}
use Rattle.history.specs.Arrivals.{Entry}
use Rattle.history.proofs.Machine.{child, leaf_version}
use Rattle.history.proofs.Replay.{run, view, all_only}
use Rattle.history.proofs.Invariant.{Closed, Depicts}
use Rattle.history.proofs.Depicting.{mark_leaf_version}
use Rattle.history.proofs.Whole.{Cell, unmarked, marked, Whole, leaf, inner}
use Rattle.history.proofs.Shows.{Shows, cell, cells, shows_at}

-- ---- levels

-- a cell's level, where it has one, is within the range
pub data Quiet : Option ℕ → Type 0 where
  silent : Quiet none
  heard : {l : ℕ} → l ≤ loudest → Quiet (some l)

after_quiet : (n : ℕ) (u : Update) (m : Option ℕ) → update_fits n u ≡ true → Quiet m → Quiet (after u m)
after_quiet n (Update.Insert k l) none f q = heard (leb-true l.0 loudest (and_second (ltb k n) (leb l.0 loudest) f))
after_quiet n (Update.Insert k l) (some m) f q = q
after_quiet n (Update.Delete k) none f q = q
after_quiet n (Update.Delete k) (some m) f q = silent

run_quiet : (n : ℕ) (m : Option ℕ) {s : List Entry} → All (λ e. update_fits n e.op.update ≡ true) s → Quiet m → Quiet (run m s)
run_quiet n m all_nil q = q
run_quiet n m (all_cons {a = e} h k) q = run_quiet n (after e.op.update m) k (after_quiet n e.op.update m h q)

pub view_quiet : (n k : ℕ) {s : List Entry} → All (λ e. update_fits n e.op.update ≡ true) s → Quiet (view s k)
view_quiet n k a = run_quiet n none (all_only k a) silent

-- ---- versions

-- place y * 2 ^ d is the first cell below y
first_lo : (p d : ℕ) → (2 * p + 0) * 2 ^ d ≡ p * 2 ^ suc d
first_lo p d = rw (pow-suc 2 d) (omega arith)

first_hi : (p d : ℕ) → (2 * p + 1) * 2 ^ d ≡ p * 2 ^ suc d + 2 ^ d
first_hi p d = rw (pow-suc 2 d) (omega arith)

cell_of_lem : (weight : ℕ → ℕ) (m : Option ℕ) → Quiet m → Cell weight (leaf_version weight m)
cell_of_lem weight none silent = unmarked
cell_of_lem weight (some l) (heard q) = marked l q

module _ (h : ℕ) (weight : ℕ → ℕ) {ver : ℕ → Version} {s : List Entry} where
  pub depicts_child : {y : Node} {v : ℕ} (b : Side) → length y < h → Depicts h weight ver y v s → Depicts h weight ver (b ∷ y) (child b (ver v)) s
  depicts_child {y} {v} b l p =
      record {
        numbered = (p.inner [] l).kids b;
        leaves = λ t e. p.leaves (b ∷ t) e;
        inner = λ t e. p.inner (b ∷ t) e;
        counts = λ t d e. p.counts (b ∷ t) d e;
        energies = λ t d e. p.energies (b ∷ t) d e;
      }

  pub depicts_whole : {u : ℕ} → Closed ver u → ((k : ℕ) → Quiet (view s k)) → (d : ℕ) {y : Node} {v : ℕ} → length y + d ≡ h → v ≤ u → Depicts h weight ver y v s → Whole weight ver u d v
  depicts_whole c q zero {y} {v} e l p = leaf p.numbered l (subst (Cell weight) (sym (p.leaves [] (omega arith))) (cell_of_lem weight (view s (place y)) (q (place y))))
  depicts_whole {u} c q (suc d) {y} {v} e l p =
      inner p.numbered l
      (depicts_whole c q d (omega arith) (c v l lo) (depicts_child lo (omega arith) p))
      (depicts_whole c q d (omega arith) (c v l hi) (depicts_child hi (omega arith) p))
      (p.counts [] (suc d) e ∙ sym (ap₂ ◌+◌ (p.counts (lo ∷ []) d (omega arith)) (p.counts (hi ∷ []) d (omega arith))))
      (p.energies [] (suc d) e ∙ sym (ap₂ ◌+◌ (p.energies (lo ∷ []) d (omega arith)) (p.energies (hi ∷ []) d (omega arith))))
      (p.inner [] (omega arith)).flat

  pub depicts_shows : (d : ℕ) {y : Node} {v : ℕ} → length y + d ≡ h → Depicts h weight ver y v s → Shows ver (view s) d (place y * 2 ^ d) v
  depicts_shows zero {y} {v} e p =
      let at : place y ≡ place y * 2 ^ 0 = omega arith in
      cell (ap (λ (r : Version). mark r) (p.leaves [] (omega arith)) ∙ mark_leaf_version weight (view s (place y)) ∙ ap (view s) at)
  depicts_shows (suc d) {y} {v} e p =
      cells (shows_at (first_lo (place y) d) refl (depicts_shows d (omega arith) (depicts_child lo (omega arith) p)))
      (shows_at (first_hi (place y) d) refl (depicts_shows d (omega arith) (depicts_child hi (omega arith) p)))
