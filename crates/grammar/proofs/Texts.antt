-- Two texts put one after the other are one text, and a number's digits are at most 20.
-- Assumes nothing.
use mathlib.Core.Path.{◌≡◌, refl, sym, ap, ◌∙◌}
use mathlib.Core.Bool.{Bool, true, false}
use mathlib.Core.List.{List, ◌∷◌, ◌++◌, append_assoc}
use Prim.Native.Nat.{ℕ, zero, suc, ◌+◌, ◌-◌, ◌*◌, ◌/◌, ◌%◌, ◌^◌, ◌≤◌, ◌<◌}
use native.Mathlib.Nat.{pow-suc, pow-le-pow_right, add_assoc}
use native.Mathlib.Omega.{arith}
use lib.Dec.{leb}
use lib.ListN.{length, take, drop, length-append}
use lib.Seq.{paste, take-paste, drop-paste, drop-drop, take-length}
use borrow.Author.Tests.{leb-true, leb-false, lt-ltb}
use Rattle.std.proofs.lemmas.Fmt.{decimal_step, decimal_digit}
use Rattle.io.specs.Digits.{IsDigitCount, hex_digit_ascii, last_digits}
use Rattle.trie.specs.Values.{level, sums}
use Rattle.grammar.specs.Text.{decimal, newline, refused_word, done_word, refused_text, value_text, done_text, Put}

pub twenty : (n k : ℕ) → n < 2 ^ 64 → IsDigitCount 10 1 n k → k ≤ 20
twenty n k h f = go (leb k 20) refl
  where
    go : (b : Bool) → leb k 20 ≡ b → k ≤ 20
    go true e = leb-true k 20 e
    go false e =
        let m : 20 < k = leb-false k 20 e in
        let p : 10 ^ 20 ≤ 10 ^ (k - 1) = pow-le-pow_right {n = 10} (omega arith) {i = 20} {j = k - 1} (omega arith) in
        let q : 10 ^ (k - 1) ≤ n = f.2 (omega arith) in
        omega arith

glyph : (d : ℕ) → d < 10 → hex_digit_ascii d ≡ 48 + d
glyph d h = simp (lt-ltb d 10 h)

-- a number without its last digit
below : (k n : ℕ) → n < 10 ^ suc k → n / 10 < 10 ^ k
below k n h = let p : 10 ^ suc k ≡ 10 * 10 ^ k = rw pow-suc (omega arith) in omega arith

least : (k n : ℕ) → 10 ^ suc k ≤ n → 10 ^ k ≤ n / 10
least k n h = let p : 10 ^ suc k ≡ 10 * 10 ^ k = rw pow-suc (omega arith) in omega arith

-- the digits of the kit's `io` are those of its `std`
pub decimal_is : (n k : ℕ) → n < 2 ^ 64 → IsDigitCount 10 1 n k → last_digits 10 k n ≡ decimal n
decimal_is n zero h f = absurd (omega (arith, f.0))
decimal_is n (suc zero) h f =
    let few : n < 10 = f.1 in
    let last : n % 10 ≡ n = omega arith in
    simp (last, glyph n few, decimal_digit n few)
decimal_is n (suc (suc k)) h f =
    let fewer : suc (suc k) - 1 ≡ suc k = omega arith in
    let fewest : suc k - 1 ≡ k = omega arith in
    let many : 10 ^ suc k ≤ n = rw fewer at (f.2 (omega arith)) in
    let some : 10 ≤ n = omega (arith, pow-le-pow_right {n = 10} (omega arith) {i = 1} {j = suc k} (omega arith)) in
    let rest : last_digits 10 (suc k) (n / 10) ≡ decimal (n / 10) = decimal_is (n / 10) (suc k) (omega arith) (omega arith, below (suc k) n f.1, λ _. rw fewest (least k n many)) in
    rw (rest, glyph (n % 10) (omega arith)) (sym (decimal_step n some h))

paste_two : (d s t : List ℕ) (at : ℕ) → at + length s ≤ length d
    → paste (paste d at s (length s)) (at + length s) t (length t) ≡ paste d at (s ++ t) (length (s ++ t))
paste_two d s t at h =
    let a : at ≤ length d = omega arith in
    let p : take (at + length s) (paste d at s (length s)) ≡ take at d ++ s = take-paste d at s (length s) a (omega arith) ∙ ap (λ (x : List ℕ). take at d ++ x) (take-length s) in
    let q : drop (at + length s + length t) (paste d at s (length s)) ≡ drop (at + length s + length t) d =
    sym (drop-drop (length t) (at + length s) (paste d at s (length s))) ∙ ap (drop (length t)) (drop-paste d at s (length s) a (omega arith)) ∙ drop-drop (length t) (at + length s) d in
    rw (p, q, take-length t, take-length (s ++ t), length-append, ← add_assoc) (simp append_assoc)

-- one text behind another
pub put_both : (s t d d1 d2 : List ℕ) (at a r : ℕ) → at + length s ≤ length d → Put s at d d1 a → Put t a d1 d2 r → Put (s ++ t) at d d2 r
put_both s t d d1 d2 at a r h p q =
    record {
      ends = let e = length-append s t in omega (arith, p.ends, q.ends);
      holds =
          q.holds ∙ ap (λ (x : List ℕ). paste x a t (length t)) p.holds
          ∙ ap (λ (x : ℕ). paste (paste d at s (length s)) x t (length t)) p.ends ∙ paste_two d s t at h;
    }

pub put_as : (s t d d1 : List ℕ) (at r : ℕ) → s ≡ t → Put s at d d1 r → Put t at d d1 r
put_as s t d d1 at r e p = rw e at p

pub refused_text_lem : (number : ℕ) → (refused_word ++ decimal number) ++ newline ≡ refused_text number
refused_text_lem number = refl

pub number_text : (v : ℕ) → (done_word ++ decimal v) ++ newline ≡ done_text (level v)
unfolding done_text value_text
number_text v = refl

pub sums_text : (count energy : ℕ) → ((done_word ++ decimal count) ++ (32 ∷ decimal energy)) ++ newline ≡ done_text (sums count energy)
unfolding done_text value_text
sums_text count energy = simp append_assoc
