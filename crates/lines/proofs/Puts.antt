-- A text that is put into the rest of a buffer stands behind what was put before it.
-- Assumes nothing.
use Rattle.std.proofs.Common.{◌≡◌, ◌+◌, ◌-◌, ◌≤◌, List, [], ℕ, ◌++◌, refl, sym, ap, ◌∙◌, arith, length, take, drop, length-drop}
use Rattle.std.proofs.Math.Seq.{paste}
use Rattle.std.proofs.lemmas.List.Edits.{paste_all}
use mathlib.Core.List.{append-nil}
use borrow.Rule.Slice.PartMut.{mid_of, post_of, put_mid}
use lib.ListN.{drop_of_length-le}
use lib.Seq.{drop-drop, take_all}
use Rattle.grammar.specs.Text.{Put}
use Rattle.grammar.proofs.Texts.{put_both}

-- the rest of a buffer from `at` on, lent and given back
pub put_behind : (text d part : List ℕ) (at n : ℕ) → Put text 0 (mid_of at (length d - at) d) part n → Put text at d (put_mid at (length d - at) d part) (at + n)
put_behind text d part at n p =
    let rest = length d - at in
    let whole : mid_of at rest d ≡ drop at d = take_all rest (drop at d) (omega (arith, length-drop at d)) in
    let z : 0 + length text ≡ length text = omega arith in
    let none : post_of at rest d ≡ [] = drop_of_length-le (drop at d) (omega (arith, length-drop at d)) in
    record {
      ends = omega (arith, p.ends);
      holds =
          ap (λ (x : List ℕ). take at d ++ x)
          (ap (λ (x : List ℕ). part ++ x) none ∙ append-nil part ∙ p.holds ∙ ap (λ (x : List ℕ). paste x 0 text (length text)) whole
          ∙ paste_all (drop at d) 0 text (length text) refl ∙ ap (λ (k : ℕ). text ++ drop k (drop at d)) z ∙ ap (λ (x : List ℕ). text ++ x) (drop-drop (length text) at d))
          ∙ sym (paste_all d at text (length text) refl);
    }

pub put_then : (s t d d1 part : List ℕ) (a b : ℕ) → length s ≤ length d → Put s 0 d d1 a → Put t 0 (mid_of a (length d1 - a) d1) part b
    → Put (s ++ t) 0 d (put_mid a (length d1 - a) d1 part) (a + b)
put_then s t d d1 part a b h p q = put_both s t d d1 (put_mid a (length d1 - a) d1 part) 0 a (a + b) (omega arith) p (put_behind t d1 part a b q)
