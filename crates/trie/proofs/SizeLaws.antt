-- An allowed number of cells is the power of two at its height, and the height is from 1 to the tallest tree's.
-- Assumes nothing.
use Rattle.std.specs.Prelude.{◌≡◌, refl, Bool, true, false, ◌&&◌, ℕ, zero, suc, ◌*◌, ◌/◌, ◌%◌, ◌^◌, ◌≤◌, ◌<◌, eqb, leb}
use Rattle.std.proofs.Common.{sym, ap, ◌∙◌, subst, pow-suc, add-zero, one-mul, lt_of_not-le, le_of_suc-le-suc, lt_of_le_of_lt, add-one, arith, eqb-true, leb-true, eq-eqb, le-leb, lit<, shr_lt, pow_pos, pow_mono}
use Rattle.std.proofs.Math.Arith.{lt-one}
use Rattle.std.specs.Int.Count.{ones, ones_step, count_trailing_zeros, under}
use Rattle.std.proofs.lemmas.Nat.{ones_cat}
use Rattle.trie.specs.Size.{most_cells, tallest, allowed, height_of}

-- ---- a test of two parts

pub and_first : (a b : Bool) → (a && b) ≡ true → a ≡ true
and_first true b e = refl
and_first false b e = e

pub and_second : (a b : Bool) → (a && b) ≡ true → b ≡ true
and_second true b e = e
and_second false b e = absurd (let z : ◌≡◌ {A = ℕ} 0 1 = cc in omega arith)

pub and_both : (a b : Bool) → a ≡ true → b ≡ true → (a && b) ≡ true
and_both a b p q = rw p q

-- ---- one set bit

half_lt : {n : ℕ} (k : ℕ) → n < 2 ^ suc k → n / 2 < 2 ^ k
half_lt {n} k h = shr_lt k 1 (subst (λ (x : ℕ). n < 2 ^ x) (sym (add-one k)) h)

no_ones : (k n : ℕ) → n < 2 ^ k → ones n ≡ 0 → n ≡ 0
no_ones zero n h e = lt-one h
no_ones (suc k) n h e =
    let s = ones_step n in
    let q : n / 2 ≡ 0 = no_ones k (n / 2) (half_lt k h) (omega arith) in
    omega arith

pub one_is_power : (k n : ℕ) → n < 2 ^ k → ones n ≡ 1 → n ≡ 2 ^ count_trailing_zeros k n
unfolding ones count_trailing_zeros
one_is_power zero n h e = let z : ones n ≡ 0 = ap ones (lt-one h) in omega arith
one_is_power (suc k) n h e = go (n % 2) refl (λ q. one_is_power k (n / 2) (half_lt k h) q)
  where
    go : (r : ℕ) → n % 2 ≡ r → (ones (n / 2) ≡ 1 → n / 2 ≡ 2 ^ count_trailing_zeros k (n / 2)) → n ≡ 2 ^ under r (count_trailing_zeros k (n / 2))
    go zero p ih =
        let s = ones_step n in
        let q : n / 2 ≡ 2 ^ count_trailing_zeros k (n / 2) = ih (omega arith) in
        omega (arith, pow-suc 2 (count_trailing_zeros k (n / 2)))
    go (suc r) p ih =
        let s = ones_step n in
        let q : n / 2 ≡ 0 = no_ones k (n / 2) (half_lt k h) (omega arith) in
        omega arith

pub power_one : (h : ℕ) → ones (2 ^ h) ≡ 1
unfolding ones
power_one h = ap ones (sym (add-zero (1 * 2 ^ h) ∙ one-mul (2 ^ h))) ∙ ones_cat h 1 0 (pow_pos h)

-- powers of two are told apart by their exponents
pub power_only : (a b : ℕ) → 2 ^ a ≡ 2 ^ b → a ≡ b
power_only zero zero e = refl
power_only zero (suc b) e = absurd (omega (arith, pow-suc 2 b))
power_only (suc a) zero e = absurd (omega (arith, pow-suc 2 a))
power_only (suc a) (suc b) e = ap suc (power_only a b (omega (arith, pow-suc 2 a, pow-suc 2 b)))

-- ---- what is allowed

pub record Sized (n : ℕ) : Type 0 where
  pub power : n ≡ 2 ^ height_of n
  pub least : 1 ≤ height_of n
  pub most : height_of n ≤ tallest
  pub from : 2 ≤ n
  pub up_to : n ≤ most_cells

exponent_least : (n h : ℕ) → n ≡ 2 ^ h → 2 ≤ n → 1 ≤ h
exponent_least n zero p q = omega arith
exponent_least n (suc h) p q = omega arith

exponent_most : (n h : ℕ) → n ≡ 2 ^ h → n ≤ most_cells → h ≤ tallest
exponent_most n h p q = le_of_suc-le-suc (lt_of_not-le (λ (l : suc tallest ≤ h). let m : 2 ^ suc tallest ≤ 2 ^ h = pow_mono l in omega arith))

pub sized : (n : ℕ) → allowed n ≡ true → Sized n
unfolding allowed height_of
sized n e =
    let r = and_second (eqb (ones n) 1) (leb 2 n && leb n most_cells) e in
    let low : 2 ≤ n = leb-true 2 n (and_first (leb 2 n) (leb n most_cells) r) in
    let top : n ≤ most_cells = leb-true n most_cells (and_second (leb 2 n) (leb n most_cells) r) in
    let one : ones n ≡ 1 = eqb-true (ones n) 1 (and_first (eqb (ones n) 1) (leb 2 n && leb n most_cells) e) in
    let p : n ≡ 2 ^ count_trailing_zeros 64 n = one_is_power 64 n (lt_of_le_of_lt top (lit< tt)) one in
    record {
      power = p;
      least = exponent_least n (count_trailing_zeros 64 n) p low;
      most = exponent_most n (count_trailing_zeros 64 n) p top;
      from = low;
      up_to = top;
    }

pub power_allowed : (h : ℕ) → 1 ≤ h → h ≤ tallest → allowed (2 ^ h) ≡ true
unfolding allowed
power_allowed h low top =
    let m : 2 ^ 1 ≤ 2 ^ h = pow_mono low in
    let t : 2 ^ h ≤ 2 ^ tallest = pow_mono top in
    and_both _ _ (eq-eqb (ones (2 ^ h)) 1 (power_one h)) (and_both _ _ (le-leb 2 (2 ^ h) (omega arith)) (le-leb (2 ^ h) most_cells (omega arith)))

pub power_height : (h : ℕ) → 1 ≤ h → h ≤ tallest → height_of (2 ^ h) ≡ h
power_height h low top = sym (power_only h (height_of (2 ^ h)) (sized (2 ^ h) (power_allowed h low top)).power)
