-- A node above another is found by how many binary digits fewer its number has.
-- Assumes nothing.
use mathlib.Core.Path.{◌≡◌, refl, sym, ap, ap₂, ◌∙◌, subst}
use mathlib.Core.Bool.{Bool, true, false, ◌&&◌, ◌||◌}
use Prim.Native.Nat.{ℕ, zero, suc, ◌+◌, ◌-◌, ◌*◌, ◌/◌, ◌%◌, ◌^◌, ◌≤◌, ◌<◌}
use native.Mathlib.Nat.{lt_of_not-le, not-le_of_lt, div-le_self, le-add_right, add-zero, add-suc, div-one, div-div-eq-div-mul, pow-succ'}
use native.Mathlib.Omega.{arith}
use borrow.Author.Tests.{leb-true, leb-false, eqb-true, eqb-false, eq-eqb, ne_eqb}
use lib.Count.{count_leading_zeros, leading_length}
use lib.Dec.{eqb, ltb, leb, leb-zero, leb-suc-zero, leb-suc-suc}
use lib.Pow.{pow_mono}
use Rattle.trie.specs.Record.{above}
use Rattle.records.proofs.Zeros.{fewer_zeros, half_zeros}

-- above a node are only numbers up to its half
none_above : (d y x : ℕ) → y / 2 < x → above d y x ≡ false
unfolding above
none_above zero y x h = refl
none_above (suc d) y x h = ap₂ (λ (s t : Bool). s || t) (ne_eqb x (y / 2) (λ e. omega arith)) (none_above d (y / 2) x (omega arith))

past_half : (y x m : ℕ) → y < 2 ^ m → 2 ^ m ≤ 2 * x + 1 → (x ≡ y → ⊥) → y / 2 < x
past_half y x zero short long apart = omega arith
past_half y x (suc m) short long apart = omega (arith, pow-succ' 2 m)

-- neither of two numbers of one length is above the other
level : (d y x m : ℕ) → y < 2 ^ m → 2 ^ m ≤ 2 * x + 1 → (eqb x y || above d y x) ≡ eqb y x
level d y x m short long = by (eqb x y) refl
  where
    by : (t : Bool) → eqb x y ≡ t → (t || above d y x) ≡ eqb y x
    by true e = sym (eq-eqb y x (sym (eqb-true x y e)))
    by false e = none_above d y x (past_half y x m short long (eqb-false x y e)) ∙ sym (ne_eqb y x (λ q. eqb-false x y e (sym q)))

twice : (m u : ℕ) → 2 ^ (m + suc u) ≡ 2 * 2 ^ (m + u)
twice m u = ap (λ (k : ℕ). 2 ^ k) (add-suc m u) ∙ pow-succ' 2 (m + u)

longer : (u y x m : ℕ) → x < 2 ^ m → 2 ^ (m + suc u) ≤ 2 * y + 1 → eqb x y ≡ false
longer u y x m short long =
    let more : 2 ^ m ≤ 2 ^ (m + u) = pow_mono (le-add_right m u) in
    ne_eqb x y (λ e. omega (arith, twice m u, more))

-- x has m binary digits, and y has u more: x is y or above it where y without its u lowest is x
by_length : (d u y x m : ℕ) → x < 2 ^ m → 2 ^ m ≤ 2 * x + 1 → y < 2 ^ (m + u) → 2 ^ (m + u) ≤ 2 * y + 1
    → (eqb x y || above d y x) ≡ (leb u d && eqb (y / 2 ^ u) x)
unfolding above
by_length d zero y x m xs xl ys yl =
    level d y x m (subst (λ (k : ℕ). y < 2 ^ k) (add-zero m) ys) xl
    ∙ ap₂ (λ (t : Bool) (z : ℕ). t && eqb z x) (sym (leb-zero d)) (sym (div-one y))
by_length zero (suc u) y x m xs xl ys yl =
    ap (λ (t : Bool). t || false) (longer u y x m xs yl) ∙ ap (λ (t : Bool). t && eqb (y / 2 ^ suc u) x) (sym (leb-suc-zero u))
by_length (suc d) (suc u) y x m xs xl ys yl =
    let halves : y / 2 / 2 ^ u ≡ y / 2 ^ suc u = div-div-eq-div-mul y 2 (2 ^ u) ∙ ap (λ (k : ℕ). y / k) (sym (pow-succ' 2 u)) in
    ap (λ (t : Bool). t || (eqb x (y / 2) || above d (y / 2) x)) (longer u y x m xs yl)
    ∙ by_length d u (y / 2) x m xs xl (omega (arith, twice m u)) (omega (arith, twice m u))
    ∙ ap₂ (λ (t : Bool) (z : ℕ). t && eqb z x) (sym (leb-suc-suc u d)) halves

-- how many digits more the half of y has than x, by the zeros in front
abbrev digits_more : ℕ → ℕ → ℕ
digits_more y x = (63 + count_leading_zeros 64 x - count_leading_zeros 64 y) % 64

and_false : (t : Bool) → (t && false) ≡ false
and_false true = refl
and_false false = refl

-- the one number to look at is the half of y without that many
pub above_drop : (d y x : ℕ) → 1 ≤ y → y < 2 ^ 64 → x < 2 ^ 64 → (ltb (digits_more y x) d && eqb (y / 2 / 2 ^ digits_more y x) x) ≡ above d y x
unfolding above
above_drop zero y x low fits fits' = ap (λ (t : Bool). t && eqb (y / 2 / 2 ^ digits_more y x) x) (leb-suc-zero (digits_more y x))
above_drop (suc d) y x low fits fits' = by (leb (count_leading_zeros 64 (y / 2)) (count_leading_zeros 64 x)) refl
  where
    more : ℕ
    more = digits_more y x

    by : (t : Bool) → leb (count_leading_zeros 64 (y / 2)) (count_leading_zeros 64 x) ≡ t → (ltb more (suc d) && eqb (y / 2 / 2 ^ more) x) ≡ above (suc d) y x
    by true e =
        let lx = leading_length 64 x fits' in
        let ly = leading_length 64 (y / 2) (omega arith) in
        let same : ly.0 ≡ lx.0 + more = omega (arith, lx.1, ly.1, half_zeros y low fits, leb-true (count_leading_zeros 64 (y / 2)) (count_leading_zeros 64 x) e) in
        ap (λ (t : Bool). t && eqb (y / 2 / 2 ^ more) x) (leb-suc-suc more d)
        ∙ sym (by_length d more (y / 2) x lx.0 lx.2 lx.3 (subst (λ (k : ℕ). y / 2 < 2 ^ k) same ly.2) (subst (λ (k : ℕ). 2 ^ k ≤ 2 * (y / 2) + 1) same ly.3))
    by false e =
        let past : y / 2 < x = lt_of_not-le (λ (h : x ≤ y / 2). not-le_of_lt (leb-false _ _ e) (fewer_zeros 64 (y / 2) x h)) in
        ap (λ (t : Bool). ltb more (suc d) && t) (ne_eqb (y / 2 / 2 ^ more) x (λ q. omega (arith, div-le_self (y / 2) (2 ^ more))))
        ∙ and_false (ltb more (suc d)) ∙ sym (none_above (suc d) y x past)
