-- A step with one or two digits, found by its bytes: it is the line that the grammar makes of them.
-- Assumes nothing.
use mathlib.Core.Path.{◌≡◌, refl, sym, subst, ap, ◌∙◌}
use mathlib.Core.Bool.{true}
use mathlib.Core.List.{List, [], ◌∷◌, ◌++◌}
use Prim.Native.Nat.{ℕ, ◌+◌, ◌*◌, ◌-◌, ◌≤◌}
use native.Mathlib.Omega.{arith}
use borrow.Author.Tests.{ne_eqb, le-leb}
use lib.ListN.{length, take, drop, get_or}
use Rattle.std.specs.Prelude.{Some}
use Rattle.grammar.specs.declared.Command.{Command}
use Rattle.grammar.specs.Grammar.{digit_of, ended, digits, number_of, line_of}
use Rattle.grammar.proofs.Digits.{digit_lies}
use Rattle.lines.specs.Feeding.{plain, between}
use Rattle.lines.specs.Places.{Found}

six : (l : List ℕ) → 6 ≤ length l → take 6 l ≡ get_or l 0 0 ∷ get_or l 1 0 ∷ get_or l 2 0 ∷ get_or l 3 0 ∷ get_or l 4 0 ∷ get_or l 5 0 ∷ []
six [] h = absurd (omega arith)
six (_ ∷ []) h = absurd (omega arith)
six (_ ∷ _ ∷ []) h = absurd (omega arith)
six (_ ∷ _ ∷ _ ∷ []) h = absurd (omega arith)
six (_ ∷ _ ∷ _ ∷ _ ∷ []) h = absurd (omega arith)
six (_ ∷ _ ∷ _ ∷ _ ∷ _ ∷ []) h = absurd (omega arith)
six (a ∷ b ∷ c ∷ d ∷ e ∷ f ∷ l) h = refl

seven : (l : List ℕ) → 7 ≤ length l → take 7 l ≡ get_or l 0 0 ∷ get_or l 1 0 ∷ get_or l 2 0 ∷ get_or l 3 0 ∷ get_or l 4 0 ∷ get_or l 5 0 ∷ get_or l 6 0 ∷ []
seven [] h = absurd (omega arith)
seven (_ ∷ []) h = absurd (omega arith)
seven (_ ∷ _ ∷ []) h = absurd (omega arith)
seven (_ ∷ _ ∷ _ ∷ []) h = absurd (omega arith)
seven (_ ∷ _ ∷ _ ∷ _ ∷ []) h = absurd (omega arith)
seven (_ ∷ _ ∷ _ ∷ _ ∷ _ ∷ []) h = absurd (omega arith)
seven (_ ∷ _ ∷ _ ∷ _ ∷ _ ∷ _ ∷ []) h = absurd (omega arith)
seven (a ∷ b ∷ c ∷ d ∷ e ∷ f ∷ g ∷ l) h = refl

-- ---- the line that the bytes make

one_line : (d : ℕ) → 48 ≤ d → d ≤ 57 → line_of (115 ∷ 116 ∷ 101 ∷ 112 ∷ 32 ∷ d ∷ []) ≡ Some (Command.Step (d - 48))
unfolding line_of number_of digits ended
one_line d lo hi = simp (le-leb 48 d lo, le-leb d 57 hi) (ap (λ (k : ℕ). Some (Command.Step k)) (omega arith))

two_line : (d f : ℕ) → 48 ≤ d → d ≤ 57 → 48 ≤ f → f ≤ 57 → line_of (115 ∷ 116 ∷ 101 ∷ 112 ∷ 32 ∷ d ∷ f ∷ []) ≡ Some (Command.Step (10 * (d - 48) + (f - 48)))
unfolding line_of number_of digits ended
two_line d f lo hi lo' hi' = simp (le-leb 48 d lo, le-leb d 57 hi, le-leb 48 f lo', le-leb f 57 hi') (ap (λ (k : ℕ). Some (Command.Step k)) (omega arith))

one_plain : (d : ℕ) → 48 ≤ d → plain (115 ∷ 116 ∷ 101 ∷ 112 ∷ 32 ∷ d ∷ []) ≡ true
unfolding plain
one_plain d lo = simp (ne_eqb d 10 (λ z. omega arith))

two_plain : (d f : ℕ) → 48 ≤ d → 48 ≤ f → plain (115 ∷ 116 ∷ 101 ∷ 112 ∷ 32 ∷ d ∷ f ∷ []) ≡ true
unfolding plain
two_plain d f lo lo' = simp (ne_eqb d 10 (λ z. omega arith), ne_eqb f 10 (λ z. omega arith))

-- ---- the bytes where they lie

module _ (line : List ℕ) (long : 8 ≤ length line) (named : line ≡ (115 ∷ 116 ∷ 101 ∷ 112 ∷ 32 ∷ []) ++ drop 5 line) where
  abbrev byte : ℕ → ℕ
  byte k = get_or line k 0

  letter : (k : ℕ) → byte k ≡ get_or ((115 ∷ 116 ∷ 101 ∷ 112 ∷ 32 ∷ []) ++ drop 5 line) k 0
  letter k = ap (λ (l : List ℕ). get_or l k 0) named

  module _ (d : ℕ) (ed : d ≡ byte 5) (lo : 48 ≤ d) (hi : d ≤ 57) where
    one_bytes : between line 0 6 ≡ 115 ∷ 116 ∷ 101 ∷ 112 ∷ 32 ∷ d ∷ []
    one_bytes =
        six line (omega (arith, long))
        ∙ (λ t. letter 0 t ∷ letter 1 t ∷ letter 2 t ∷ letter 3 t ∷ letter 4 t ∷ sym ed t ∷ [])

    short_one : byte 6 ≡ 10 → Found line 0 (Some (record { worker = d - 48; end = 6 }))
    short_one e = (
      record { onward = omega arith; within = omega arith; bytes = ap plain one_bytes ∙ one_plain d lo; newline = λ _. e },
      omega arith,
      ap line_of one_bytes ∙ one_line d lo hi,
    )

    module _ (f : ℕ) (ef : f ≡ byte 6) (lo' : 48 ≤ f) (hi' : f ≤ 57) where
      two_bytes : between line 0 7 ≡ 115 ∷ 116 ∷ 101 ∷ 112 ∷ 32 ∷ d ∷ f ∷ []
      two_bytes =
          seven line (omega (arith, long))
          ∙ (λ t. letter 0 t ∷ letter 1 t ∷ letter 2 t ∷ letter 3 t ∷ letter 4 t ∷ sym ed t ∷ sym ef t ∷ [])

      short_two : byte 7 ≡ 10 → Found line 0 (Some (record { worker = 10 * (d - 48) + (f - 48); end = 7 }))
      short_two e = (
        record { onward = omega arith; within = omega arith; bytes = ap plain two_bytes ∙ two_plain d f lo lo'; newline = λ _. e },
        omega arith,
        ap line_of two_bytes ∙ two_line d f lo hi lo' hi',
      )

  -- with one digit or two
  pub found_one : (tens k n : ℕ) → digit_of (byte 5) ≡ Some tens → k ≡ tens → n ≡ 6 → byte n ≡ 10 → Found line 0 (Some (record { worker = k; end = n }))
  found_one tens k n et ek en nl =
      let t = digit_lies (byte 5) tens et in
      let q : k ≡ byte 5 - 48 = omega (arith, ek, t.2) in
      subst (Found line 0) (λ j. Some (record { worker = sym q j; end = sym en j })) (short_one (byte 5) refl t.0 t.1 (ap byte (sym en) ∙ nl))

  pub found_two : (tens ones k n : ℕ) → digit_of (byte 5) ≡ Some tens → digit_of (byte 6) ≡ Some ones → k ≡ 10 * tens + ones → n ≡ 7 → byte n ≡ 10
      → Found line 0 (Some (record { worker = k; end = n }))
  found_two tens ones k n et eo ek en nl =
      let t = digit_lies (byte 5) tens et in
      let o = digit_lies (byte 6) ones eo in
      let q : k ≡ 10 * (byte 5 - 48) + (byte 6 - 48) = omega (arith, ek, t.2, o.2) in
      subst (Found line 0) (λ j. Some (record { worker = sym q j; end = sym en j }))
      (short_two (byte 5) refl t.0 t.1 (byte 6) refl o.0 o.1 (ap byte (sym en) ∙ nl))
