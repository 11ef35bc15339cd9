-- A version that is whole: everything that is reached from it is of the right kind at its height, and counts and energies are sums.
-- Being whole is kept where tables grow, and a whole version passes every test of soundness. Assumes nothing.
use Rattle.std.specs.Prelude.{◌≡◌, refl, true, List, ℕ, suc, ◌+◌, ◌*◌, ◌^◌, ◌≤◌}
use Rattle.std.proofs.Common.{sym, ap, ◌∙◌, subst, pow-suc, arith, le-leb}
use Rattle.decibel.specs.Conversion.{loudest}
use Rattle.trie.specs.declared.Version.{Version}
use Rattle.trie.proofs.SizeLaws.{and_both}
use Rattle.trie.specs.Tables.{version, version_at}
use Rattle.trie.specs.Sound.{cell_energy, leaf_sound}
use Rattle.history.proofs.Depicting.{Same}

-- a version by its bare number
abbrev pub version_of : List ℕ → ℕ → Version
version_of versions v = version_at versions (record { 0 = v })

module _ (weight : ℕ → ℕ) where
  -- the words of a leaf's version: unmarked, or marked with a level
  pub data Cell : Version → Type 0 where
    unmarked : Cell (version 0 0 0 0 0)
    marked : (l : ℕ) → l ≤ loudest → Cell (version 0 0 1 (weight l) l)

  -- v is used, and d levels above the leaves; the versions reached from it too
  pub data Whole (ver : ℕ → Version) (u : ℕ) : ℕ → ℕ → Type 0 where
    leaf : {v : ℕ} → 1 ≤ v → v ≤ u → Cell (ver v) → Whole ver u 0 v
    inner : {d v : ℕ} → 1 ≤ v → v ≤ u → Whole ver u d (ver v).left.0 → Whole ver u d (ver v).right.0
        → (ver v).count ≡ (ver (ver v).left.0).count + (ver (ver v).right.0).count
        → (ver v).energy.0 ≡ (ver (ver v).left.0).energy.0 + (ver (ver v).right.0).energy.0
        → (ver v).level.0 ≡ 0 → Whole ver u (suc d) v

  pub whole_low : {ver : ℕ → Version} {u d v : ℕ} → Whole ver u d v → 1 ≤ v
  whole_low (leaf p q c) = p
  whole_low (inner p q l r n e z) = p

  pub whole_top : {ver : ℕ → Version} {u d v : ℕ} → Whole ver u d v → v ≤ u
  whole_top (leaf p q c) = q
  whole_top (inner p q l r n e z) = q

  pub whole_left : {ver : ℕ → Version} {u d v : ℕ} → Whole ver u (suc d) v → Whole ver u d (ver v).left.0
  whole_left (inner p q l r n e z) = l

  pub whole_right : {ver : ℕ → Version} {u d v : ℕ} → Whole ver u (suc d) v → Whole ver u d (ver v).right.0
  whole_right (inner p q l r n e z) = r

  -- ---- tables that grow

  whole_at : {ver : ℕ → Version} {u d v w : ℕ} → v ≡ w → Whole ver u d v → Whole ver u d w
  whole_at {ver} {u} {d} e h = subst (λ (x : ℕ). Whole ver u d x) e h

  pub whole_grow : {ver ver' : ℕ → Version} {u u' d v : ℕ} → u ≤ u' → Same u ver ver' → Whole ver u d v → Whole ver' u' d v
  whole_grow {ver} {ver'} {u} {u'} m s (leaf {v = v} p q c) = leaf p (omega arith) (subst Cell (sym (s v q)) c)
  whole_grow {ver} {ver'} {u} {u'} m s (inner {d = d} {v = v} p q l r n e z) =
      let a : ver (ver v).left.0 ≡ ver' (ver' v).left.0 = sym (s (ver v).left.0 (whole_top l)) ∙ ap (λ (x : Version). ver' x.left.0) (sym (s v q)) in
      let b : ver (ver v).right.0 ≡ ver' (ver' v).right.0 = sym (s (ver v).right.0 (whole_top r)) ∙ ap (λ (x : Version). ver' x.right.0) (sym (s v q)) in
      inner p (omega arith)
      (whole_at (ap (λ (x : Version). x.left.0) (sym (s v q))) (whole_grow m s l))
      (whole_at (ap (λ (x : Version). x.right.0) (sym (s v q))) (whole_grow m s r))
      (ap (λ (x : Version). x.count) (s v q) ∙ n ∙ (λ i. (a i).count + (b i).count))
      (ap (λ (x : Version). x.energy.0) (s v q) ∙ e ∙ (λ i. (a i).energy.0 + (b i).energy.0))
      (ap (λ (x : Version). x.level.0) (s v q) ∙ z)

  -- ---- bounds

  cell_count : {r : Version} → Cell r → r.count ≤ 1
  cell_count unmarked = omega arith
  cell_count (marked l h) = omega arith

  pub whole_count : {ver : ℕ → Version} {u d v : ℕ} → Whole ver u d v → (ver v).count ≤ 2 ^ d
  whole_count (leaf p q c) = cell_count c
  whole_count (inner {d = d} p q l r n e z) = omega (arith, whole_count l, whole_count r, pow-suc 2 d)

  -- no level has more energy than a cell may have
  module _ (light : (l : ℕ) → l ≤ loudest → weight l ≤ cell_energy) where
    cell_energy_lem : {r : Version} → Cell r → r.energy.0 ≤ cell_energy
    cell_energy_lem unmarked = omega arith
    cell_energy_lem (marked l h) = light l h

    pub whole_energy : {ver : ℕ → Version} {u d v : ℕ} → Whole ver u d v → (ver v).energy.0 ≤ 2 ^ d * cell_energy
    whole_energy (leaf p q c) = omega (arith, cell_energy_lem c)
    whole_energy (inner {d = d} p q l r n e z) = omega (arith, whole_energy l, whole_energy r, pow-suc 2 d)

    pub cell_sound : {r : Version} → Cell r → leaf_sound r ≡ true
    cell_sound unmarked = refl
    cell_sound (marked l h) = and_both _ _ (le-leb (weight l) cell_energy (light l h)) (le-leb l loudest h)
