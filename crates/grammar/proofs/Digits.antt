-- The digits of a number, one after the other: what one more makes of those before it, and where they end.
-- Assumes nothing.
use mathlib.Core.Path.{◌≡◌, refl}
use mathlib.Core.List.{List, [], ◌∷◌}
use mathlib.Core.Bool.{Bool, true, false, ◌&&◌}
use Prim.Native.Nat.{ℕ, ◌+◌, ◌-◌, ◌*◌, ◌^◌, ◌≤◌, ◌<◌}
use native.Mathlib.Numerals.{add-one}
use native.Mathlib.Nat.{pow-suc, pow-le-pow_right}
use native.Mathlib.Omega.{arith}
use lib.ListN.{length}
use lib.Dec.{leb}
use borrow.Author.Tests.{lt-leb, le-leb, leb-true}
use Rattle.trie.specs.Choice.{pick}
use Rattle.trie.proofs.SizeLaws.{and_first, and_second}
use Rattle.std.proofs.Common.{Option, Some, None}
use Rattle.grammar.specs.Grammar.{digit_of, ended, digits, most_digits}

-- a byte that stands for a digit
pub digit_lies : (x a : ℕ) → digit_of x ≡ Some a → (48 ≤ x) × (x ≤ 57) × (a ≡ x - 48)
digit_lies x a e = by (leb 48 x && leb x 57) refl e
  where
    by : (t : Bool) → leb 48 x && leb x 57 ≡ t → pick t (Some (x - 48)) None ≡ Some a → (48 ≤ x) × (x ≤ 57) × (a ≡ x - 48)
    by true q e = (leb-true 48 x (and_first (leb 48 x) (leb x 57) q), leb-true x 57 (and_second (leb 48 x) (leb x 57) q), cc)
    by false q e = absurd cc

pub digit_small : (x a : ℕ) → digit_of x ≡ Some a → a < 10
digit_small x a e =
    let t = digit_lies x a e in
    omega (arith, t.1, t.2)

over : (k v : ℕ) (s : List ℕ) → most_digits < k → ended k v s ≡ None
unfolding ended
over k v s h = simp (lt-leb k 18 h, le-leb 1 k (omega arith))

-- more than 18 digits are no number
pub digits_over : (k v : ℕ) (s : List ℕ) → most_digits < k → digits k v s ≡ None
unfolding digits
digits_over k v [] h = over k v [] h
digits_over k v (b ∷ s) h = simp (over k v (b ∷ s) h, digits_over (k + 1) (v * 10 + (b - 48)) s (omega arith)) (by (leb 48 b && leb b 57))
  where
    by : (x : Bool) → ◌≡◌ {A = Option (ℕ × List ℕ)} (pick x None None) None
    by true = refl
    by false = refl

-- 1 to 18 digits are one
pub within : (k v : ℕ) (s : List ℕ) → 0 < k → k ≤ most_digits → ended k v s ≡ Some (v, s)
unfolding ended
within k v s h m = simp (le-leb 1 k h, le-leb k 18 m)

pub none_read : (v : ℕ) (s : List ℕ) → ended 0 v s ≡ None
unfolding ended
none_read v s = refl

-- a digit more
module _ (k k' v b d : ℕ) (next : k + 1 ≡ k') where
  pub ten : v < 10 ^ k → d < 10 → v * 10 + d < 10 ^ k'
  ten h m = rw (← next, add-one, pow-suc) (omega arith)

  pub digits_on : (rest s : List ℕ) → rest ≡ b ∷ s → digit_of b ≡ Some d → digits k v rest ≡ digits k' (v * 10 + d) s
  unfolding digits
  digits_on rest s e h =
      let t = digit_lies b d h in
      rw (e, ← next, t.2) (simp (le-leb 48 b t.0, le-leb b 57 t.1))

pub small : (k : ℕ) → k ≤ most_digits → 10 ^ k ≤ 10 ^ most_digits
small k h = pow-le-pow_right {n = 10} (omega arith) h

-- what is no digit ends the number, as the end of the bytes does
pub digits_stop : (k v b : ℕ) (rest s : List ℕ) → rest ≡ b ∷ s → digit_of b ≡ None → digits k v rest ≡ ended k v rest
unfolding digits
digits_stop k v b rest s e h = rw e (by (leb 48 b && leb b 57) refl h)
  where
    by : (t : Bool) → leb 48 b && leb b 57 ≡ t → pick t (Some (b - 48)) None ≡ None → digits k v (b ∷ s) ≡ ended k v (b ∷ s)
    by true q e = absurd cc
    by false q e = simp q

pub digits_done : (k v : ℕ) (s : List ℕ) → length s ≡ 0 → digits k v s ≡ ended k v s
unfolding digits
digits_done k v [] h = refl
digits_done k v (b ∷ s) h = absurd (omega arith)
