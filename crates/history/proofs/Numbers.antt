-- The nodes' numbers: the root is 1, the children of x are 2x and 2x + 1, and cell k of 2 ^ h is node 2 ^ h + k.
-- Assumes nothing.
use Rattle.std.specs.Prelude.{◌≡◌, refl, Bool, true, false, [], ◌∷◌, ℕ, zero, suc, ◌+◌, ◌*◌, ◌^◌, ◌≤◌, ◌<◌, ◌/◌, ◌%◌, eqb, length}
use Rattle.std.proofs.Common.{sym, ap, ap₂, ◌∙◌, pow-suc, arith, eqb-true}
use Rattle.std.proofs.lemmas.Bool.{eqb-false}
use Rattle.history.proofs.Nodes.{Side, lo, hi, Node}

abbrev pub bit : Side → ℕ
bit lo = 0
bit hi = 1

abbrev pub number : Node → ℕ
number [] = 1
number (b ∷ x) = 2 * number x + bit b

-- how many nodes of its depth stand to the left: a leaf's cell
abbrev pub place : Node → ℕ
place [] = 0
place (b ∷ x) = 2 * place x + bit b

abbrev pub side_of : Bool → Side
side_of true = hi
side_of false = lo

-- the leaf of cell k, in a tree of height h
unfoldable pub leaf : ℕ → ℕ → Node
leaf zero k = []
leaf (suc h) k = side_of (eqb (k % 2) 1) ∷ leaf h (k / 2)

pub number_pos : (x : Node) → 1 ≤ number x
number_pos [] = omega arith
number_pos (b ∷ x) = omega (arith, number_pos x)

pub number_place : (x : Node) → number x ≡ 2 ^ length x + place x
number_place [] = refl
number_place (b ∷ x) = omega (arith, pow-suc 2 (length x), number_place x)

bit_lt : (b : Side) → bit b < 2
bit_lt lo = omega arith
bit_lt hi = omega arith

pub place_lt : (x : Node) → place x < 2 ^ length x
place_lt [] = omega arith
place_lt (b ∷ x) = omega (arith, pow-suc 2 (length x), place_lt x, bit_lt b)

-- how deep a node stands is told by its number
pub number_range : (x : Node) → (2 ^ length x ≤ number x) × (number x < 2 * 2 ^ length x)
number_range x = (omega (arith, number_place x), omega (arith, number_place x, place_lt x))

pub number_inj : (x y : Node) → number x ≡ number y → x ≡ y
number_inj [] [] e = refl
number_inj [] (b ∷ y) e = absurd (omega (arith, number_pos y))
number_inj (b ∷ x) [] e = absurd (omega (arith, number_pos x))
number_inj (lo ∷ x) (lo ∷ y) e = ap (λ z. lo ∷ z) (number_inj x y (omega arith))
number_inj (lo ∷ x) (hi ∷ y) e = absurd (omega arith)
number_inj (hi ∷ x) (lo ∷ y) e = absurd (omega arith)
number_inj (hi ∷ x) (hi ∷ y) e = ap (λ z. hi ∷ z) (number_inj x y (omega arith))

pub half : (b : Side) (m : ℕ) → (2 * m + bit b) / 2 ≡ m
half lo m = omega arith
half hi m = omega arith

pub length_leaf : (h k : ℕ) → length (leaf h k) ≡ h
unfolding leaf
length_leaf zero k = refl
length_leaf (suc h) k = ap suc (length_leaf h (k / 2))

bit_of_lem : (k : ℕ) (test : Bool) → eqb (k % 2) 1 ≡ test → bit (side_of test) ≡ k % 2
bit_of_lem k true e = sym (eqb-true _ _ e)
bit_of_lem k false e = let n = eqb-false (k % 2) 1 e in omega arith

pub place_leaf : (h k : ℕ) → k < 2 ^ h → place (leaf h k) ≡ k
unfolding leaf
place_leaf zero k l = omega arith
place_leaf (suc h) k l = omega (arith, place_leaf h (k / 2) (omega (arith, pow-suc 2 h)), bit_of_lem k (eqb (k % 2) 1) refl)

pub leaf_place : (y : Node) → leaf (length y) (place y) ≡ y
unfolding leaf
leaf_place [] = refl
leaf_place (b ∷ y) = rw (half b (place y), leaf_place y, remainder b (place y)) (ap (λ (c : Side). c ∷ y) (side_bit b))
  where
    remainder : (b : Side) (m : ℕ) → (2 * m + bit b) % 2 ≡ bit b
    remainder lo m = omega arith
    remainder hi m = omega arith

    side_bit : (b : Side) → side_of (eqb (bit b) 1) ≡ b
    side_bit lo = refl
    side_bit hi = refl

pub number_leaf : (h k : ℕ) → k < 2 ^ h → number (leaf h k) ≡ 2 ^ h + k
number_leaf h k l = number_place (leaf h k) ∙ ap₂ (λ (m : ℕ) (n : ℕ). 2 ^ m + n) (length_leaf h k) (place_leaf h k l)
