-- The numbers that a call is judged by, for a tree of 2 ^ h cells; and a whole version passes every test of soundness.
-- Assumes nothing.
use Rattle.std.specs.Prelude.{◌≡◌, refl, Bool, false, ◌&&◌, List, ℕ, zero, suc, ◌+◌, ◌*◌, ◌-◌, ◌^◌, ◌≤◌, eqb, leb}
use Rattle.std.proofs.Common.{ap, arith, le-leb, eq-eqb, eqb-true, pow_mono}
use Rattle.std.proofs.Math.Bool.{true}
use Rattle.decibel.specs.Conversion.{loudest}
use Rattle.trie.specs.declared.Bounds.{Bounds}
use Rattle.trie.specs.declared.VersionNumber.{VersionNumber}
use Rattle.trie.specs.Size.{allowed, height_of}
use Rattle.trie.proofs.SizeLaws.{sized, and_both}
use Rattle.trie.specs.Tables.{room_of, used_of}
use Rattle.trie.specs.Sound.{cell_energy, bounds_of, used_sound, numbered, inner_sound, sound_at, sound_in}
use Rattle.history.proofs.Whole.{version_of, Whole, leaf, inner, whole_low, whole_top, whole_count, whole_energy, cell_sound}

-- the bounds of a call to a tree of height h that uses u versions and has room for `most`
pub record Gauge (h u most : ℕ) (b : Bounds) : Type 0 where
  pub cells : b.cells ≡ 2 ^ h
  pub height : b.height ≡ h
  pub energy : b.energy ≡ 2 ^ h * cell_energy
  pub share : b.share ≡ h + 1
  pub used : b.used ≡ u
  pub room : b.room ≡ most

pub gauge : (n : ℕ) (nodes versions : List ℕ) → allowed n ≡ true → Gauge (height_of n) (used_of nodes) (room_of versions) (bounds_of n nodes versions)
unfolding bounds_of
gauge n nodes versions e =
    let s = sized n e in
    record { cells = s.power; height = refl; energy = ap (λ (m : ℕ). m * cell_energy) s.power; share = refl; used = refl; room = refl }

module _ {h u most : ℕ} {b : Bounds} (g : Gauge h u most b) where
  pub used_sound_lem : 2 * 2 ^ h - 1 ≤ u → u ≤ most → used_sound b ≡ true
  unfolding used_sound
  used_sound_lem low top =
      and_both _ _ (le-leb (2 * b.cells - 1) b.used (omega (arith, g.cells, g.used))) (le-leb b.used b.room (omega (arith, g.used, g.room)))

  is_numbered : (v : VersionNumber) → 1 ≤ v.0 → v.0 ≤ u → numbered b v ≡ true
  is_numbered v low top = and_both _ _ (le-leb 1 v.0 low) (le-leb v.0 b.used (omega (arith, g.used)))

  -- counts and energies of up to 2 ^ h cells are within the bounds
  pub few : (d count : ℕ) → d ≤ h → count ≤ 2 ^ d → leb count b.cells ≡ true
  few d count l c = le-leb count b.cells (let m : 2 ^ d ≤ 2 ^ h = pow_mono l in omega (arith, g.cells))

  pub soft : (d energy : ℕ) → d ≤ h → energy ≤ 2 ^ d * cell_energy → leb energy b.energy ≡ true
  soft d energy l e = le-leb energy b.energy (let m : 2 ^ d ≤ 2 ^ h = pow_mono l in omega (arith, g.energy))

  module _ (weight : ℕ → ℕ) (light : (l : ℕ) → l ≤ loudest → weight l ≤ cell_energy) (versions : List ℕ) where
    pub leaf_sound_lem : {v : ℕ} → Whole weight (version_of versions) u 0 v → sound_in b true versions (record { 0 = v }) ≡ true
    unfolding sound_in sound_at
    leaf_sound_lem {v} (leaf p q c) = and_both _ _ (is_numbered (record { 0 = v }) p q) (cell_sound weight light c)

    pub inner_sound_lem : {d v : ℕ} → suc d ≤ h → Whole weight (version_of versions) u (suc d) v → sound_in b false versions (record { 0 = v }) ≡ true
    unfolding sound_in sound_at
    inner_sound_lem {d} {v} m w = by w
      where
        by : Whole weight (version_of versions) u (suc d) v → numbered b (record { 0 = v }) && inner_sound b (version_of versions v) ≡ true
        by (inner p q l r n e z) =
            and_both _ _ (is_numbered (record { 0 = v }) p q)
            (and_both _ _
            (and_both _ _ (is_numbered (version_of versions v).left (whole_low weight l) (whole_top weight l)) (is_numbered (version_of versions v).right (whole_low weight r) (whole_top weight r)))
            (and_both _ _
            (and_both _ _ (few (suc d) (version_of versions v).count m (whole_count weight w)) (soft (suc d) (version_of versions v).energy.0 m (whole_energy weight light w)))
            (eq-eqb (version_of versions v).level.0 0 z)))

    -- at a place so many levels above the leaves
    pub place_sound : (d : ℕ) (at_leaf : Bool) {v : ℕ} → d ≤ h → eqb d 0 ≡ at_leaf → Whole weight (version_of versions) u d v → sound_in b at_leaf versions (record { 0 = v }) ≡ true
    place_sound zero true m e w = leaf_sound_lem w
    place_sound zero false m e w = absurd (let z : ◌≡◌ {A = ℕ} 0 1 = cc in omega arith)
    place_sound (suc d) true m e w = absurd (omega (arith, eqb-true (suc d) 0 e))
    place_sound (suc d) false m e w = inner_sound_lem m w
