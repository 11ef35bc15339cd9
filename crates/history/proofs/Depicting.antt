-- Laws of what a version shows: it goes on showing it when versions are added, a join of two shows both, a leaf shows its
-- cell. Assumes nothing.
use Rattle.std.specs.Prelude.{◌≡◌, refl, List, [], ◌∷◌, ℕ, zero, suc, ◌+◌, ◌≤◌, ◌<◌, length}
use Rattle.std.proofs.Common.{sym, ap, ap₂, ◌∙◌, subst, arith}
use Rattle.std.proofs.Math.Option.{Option, some, none}
use Rattle.trie.specs.declared.Version.{Version}
use Rattle.history.proofs.Nodes.{Side, lo, hi, Node, down, length_down, Below, below_self, below_up, below_down}
use Rattle.history.proofs.Numbers.{place}
use Rattle.history.specs.Book.{Book, ones, weights, mark}
use Rattle.history.specs.Arrivals.{Entry}
use Rattle.history.proofs.Machine.{child, look, leaf_version}
use Rattle.history.proofs.Replay.{view}
use Rattle.history.proofs.Invariant.{tally, Closed, Inner, Depicts}

-- ver' is ver, as far as u
abbrev pub Same : ℕ → (ℕ → Version) → (ℕ → Version) → Type 0
Same u ver ver' = (v : ℕ) → v ≤ u → ver' v ≡ ver v

-- all that is reached from v is in ver' as it was in ver
abbrev pub Stable : (ℕ → Version) → (ℕ → Version) → ℕ → Type 0
Stable ver ver' v = (t : List Side) → ver' (look ver t v) ≡ ver (look ver t v)

look_stable : (ver ver' : ℕ → Version) (t : List Side) (v : ℕ) → Stable ver ver' v → look ver' t v ≡ look ver t v
look_stable ver ver' [] v s = refl
look_stable ver ver' (b ∷ t) v s = ap (λ n. look ver' t (child b n)) (s []) ∙ look_stable ver ver' t (child b (ver v)) (λ r. s (b ∷ r))

look_le : (ver : ℕ → Version) (u : ℕ) → Closed ver u → (t : List Side) (v : ℕ) → v ≤ u → look ver t v ≤ u
look_le ver u c [] v l = l
look_le ver u c (b ∷ t) v l = look_le ver u c t (child b (ver v)) (c v l b)

-- where no version up to u is changed, nothing is that is reached from one of them
pub same_stable : (ver ver' : ℕ → Version) (u : ℕ) → Closed ver u → Same u ver ver' → (v : ℕ) → v ≤ u → Stable ver ver' v
same_stable ver ver' u c e v l t = e (look ver t v) (look_le ver u c t v l)

pub mark_leaf_version : (weight : ℕ → ℕ) (m : Option ℕ) → mark (leaf_version weight m) ≡ m
mark_leaf_version weight none = refl
mark_leaf_version weight (some l) = refl

module _ (h : ℕ) (weight : ℕ → ℕ) where
  tally_cong : (f : Option ℕ → ℕ) (d : ℕ) (y : Node) (B B' : Book) → ((k : Node) → Below y k → length k ≡ h → B (place k) ≡ B' (place k)) → length y + d ≡ h → tally f d y B ≡ tally f d y B'
  tally_cong f zero y B B' g e = ap f (g y (below_self y) (omega arith))
  tally_cong f (suc d) y B B' g e =
      ap₂ ◌+◌ (tally_cong f d (lo ∷ y) B B' (λ k b. g k (below_up b)) (omega arith)) (tally_cong f d (hi ∷ y) B B' (λ k b. g k (below_up b)) (omega arith))

  pub depicts_cong : {ver : ℕ → Version} {y : Node} {v : ℕ} {s s' : List Entry} → ((k : Node) → Below y k → length k ≡ h → view s (place k) ≡ view s' (place k))
      → Depicts h weight ver y v s → Depicts h weight ver y v s'
  depicts_cong {ver} {y} {v} {s} {s'} g p =
      record {
        numbered = p.numbered;
        leaves = λ t l. p.leaves t l ∙ ap (leaf_version weight) (g (down t y) (record { turns = t; is = refl }) l);
        inner = p.inner;
        counts = λ t d e. p.counts t d e ∙ tally_cong ones d (down t y) (view s) (view s') (λ k b. g k (below_down t b)) e;
        energies = λ t d e. p.energies t d e ∙ tally_cong (weights weight) d (down t y) (view s) (view s') (λ k b. g k (below_down t b)) e;
      }

  pub depicts_ver : {ver ver' : ℕ → Version} {y : Node} {v : ℕ} {s : List Entry} → Stable ver ver' v → Depicts h weight ver y v s → Depicts h weight ver' y v s
  depicts_ver {ver} {ver'} {y} {v} {s} e p =
      record {
        numbered = p.numbered;
        leaves = λ t k. at_look t ∙ p.leaves t k;
        inner = λ t k. subst (λ n. Inner n) (sym (at_look t)) (p.inner t k);
        counts = λ t d k. ap (λ n. n.count) (at_look t) ∙ p.counts t d k;
        energies = λ t d k. ap (λ n. n.energy.0) (at_look t) ∙ p.energies t d k;
      }
    where
      at_look : (t : List Side) → ver' (look ver' t v) ≡ ver (look ver t v)
      at_look t = ap ver' (look_stable ver ver' t v e) ∙ e t

  -- a version of an inner node shows what its children show
  pub depicts_join : (ver : ℕ → Version) (x : Node) (v : ℕ) (s : List Entry) → 1 ≤ v → length x < h → Inner (ver v) → ((b : Side) → Depicts h weight ver (b ∷ x) (child b (ver v)) s)
      → (ver v).count ≡ (ver (child lo (ver v))).count + (ver (child hi (ver v))).count → (ver v).energy.0 ≡ (ver (child lo (ver v))).energy.0 + (ver (child hi (ver v))).energy.0
      → Depicts h weight ver x v s
  depicts_join ver x v s f i k p n e =
      record {
        numbered = f;
        leaves = leaves';
        inner = inner';
        counts = counts';
        energies = energies';
      }
    where
      leaves' : (t : List Side) → length (down t x) ≡ h → ver (look ver t v) ≡ leaf_version weight (view s (place (down t x)))
      leaves' [] l = absurd (omega arith)
      leaves' (b ∷ t) l = (p b).leaves t l

      inner' : (t : List Side) → length (down t x) < h → Inner (ver (look ver t v))
      inner' [] l = k
      inner' (b ∷ t) l = (p b).inner t l

      counts' : (t : List Side) (d : ℕ) → length (down t x) + d ≡ h → (ver (look ver t v)).count ≡ tally ones d (down t x) (view s)
      counts' [] zero l = absurd (omega arith)
      counts' [] (suc d) l = n ∙ ap₂ ◌+◌ ((p lo).counts [] d (omega arith)) ((p hi).counts [] d (omega arith))
      counts' (b ∷ t) d l = (p b).counts t d l

      energies' : (t : List Side) (d : ℕ) → length (down t x) + d ≡ h → (ver (look ver t v)).energy.0 ≡ tally (weights weight) d (down t x) (view s)
      energies' [] zero l = absurd (omega arith)
      energies' [] (suc d) l = e ∙ ap₂ ◌+◌ ((p lo).energies [] d (omega arith)) ((p hi).energies [] d (omega arith))
      energies' (b ∷ t) d l = (p b).energies t d l

  pub depicts_leaf : (ver : ℕ → Version) (y : Node) (v : ℕ) (s : List Entry) (m : Option ℕ) → 1 ≤ v → length y ≡ h → ver v ≡ leaf_version weight m → view s (place y) ≡ m → Depicts h weight ver y v s
  depicts_leaf ver y v s m f i e q =
      record {
        numbered = f;
        leaves = leaves';
        inner = inner';
        counts = counts';
        energies = energies';
      }
    where
      count_of : (n : Option ℕ) → (leaf_version weight n).count ≡ ones n
      count_of none = refl
      count_of (some l) = refl

      energy_of_lem : (n : Option ℕ) → (leaf_version weight n).energy.0 ≡ weights weight n
      energy_of_lem none = refl
      energy_of_lem (some l) = refl

      leaves' : (t : List Side) → length (down t y) ≡ h → ver (look ver t v) ≡ leaf_version weight (view s (place (down t y)))
      leaves' [] l = e ∙ ap (leaf_version weight) (sym q)
      leaves' (b ∷ t) l = absurd (omega (arith, length_down t (b ∷ y)))

      inner' : (t : List Side) → length (down t y) < h → Inner (ver (look ver t v))
      inner' t l = absurd (omega (arith, length_down t y))

      counts' : (t : List Side) (d : ℕ) → length (down t y) + d ≡ h → (ver (look ver t v)).count ≡ tally ones d (down t y) (view s)
      counts' [] zero l = ap (λ n. n.count) e ∙ count_of m ∙ ap ones (sym q)
      counts' [] (suc d) l = absurd (omega arith)
      counts' (b ∷ t) d l = absurd (omega (arith, length_down t (b ∷ y)))

      energies' : (t : List Side) (d : ℕ) → length (down t y) + d ≡ h → (ver (look ver t v)).energy.0 ≡ tally (weights weight) d (down t y) (view s)
      energies' [] zero l = ap (λ n. n.energy.0) e ∙ energy_of_lem m ∙ ap (weights weight) (sym q)
      energies' [] (suc d) l = absurd (omega arith)
      energies' (b ∷ t) d l = absurd (omega (arith, length_down t (b ∷ y)))
