-- A line at once: the bytes up to its newline do what they do one by one; and text that is put into the buffer is text written.
-- Assumes nothing.
use mathlib.Core.Path.{◌≡◌, refl, sym, ap, ◌∙◌}
use mathlib.Core.Bool.{Bool, true, false, cond}
use mathlib.Core.List.{List, [], ◌∷◌, ◌++◌, append_assoc, append-nil}
use Prim.Native.Nat.{ℕ, zero, suc, ◌+◌, ◌-◌, ◌≤◌, ◌<◌}
use native.Mathlib.Omega.{arith}
use borrow.Author.Tests.{eq-eqb, eqb-true, lt-ltb, le-leb, lt-leb, leb-true, leb-false, ltb-true, ltb-false}
use lib.Dec.{eqb, ltb, leb}
use lib.ListN.{length, take, drop, get_or, length-append, take-append-drop, drop_of_length-le, length-take}
use lib.Seq.{paste, drop-drop, take-length, take-paste, drop-paste, length-take-le}
use Rattle.std.specs.Prelude.{Option, Some, None}
use Rattle.std.specs.Option.{unwrap_or}
use Rattle.std.specs.List.{position, position_or_len}
use Rattle.std.proofs.lemmas.List.Quantifiers.{position-Some}
use Rattle.std.proofs.lemmas.List.Sums.{fails_before_first}
use Rattle.std.proofs.lemmas.List.{drop_more}
use Rattle.grammar.specs.Grammar.{longest, line_of}
use Rattle.trie.specs.Choice.{pick}
use Rattle.lines.specs.declared.Begun.{Begun}
use Rattle.grammar.specs.Text.{Put}
use Rattle.lines.specs.declared.Watch.{Watch}
use Rattle.lines.specs.Turns.{Answered, line_turn}
use Rattle.lines.specs.Chunks.{Part, upto, over, more, line_at, listing, ended, served_of, zeros, part_of, begun_of}
use Rattle.lines.specs.Feeding.{plain, grown, between, Ends}

pub not_both : false ≡ true → ⊥
not_both e = let z : ◌≡◌ {A = ℕ} 0 1 = ap (λ (b : Bool). pick b 1 0) e in omega arith

-- ---- bytes that are no newline

plain_one : (t : Bool) (x : Bool) → t ≡ false → x ≡ true → pick t false x ≡ true
plain_one true x e f = absurd (not_both (sym e))
plain_one false x e f = f

plain_take : (n : ℕ) (xs : List ℕ) → ((k : ℕ) → k < n → eqb (get_or xs k 0) 10 ≡ false) → n ≤ length xs → plain (take n xs) ≡ true
unfolding plain
plain_take zero xs h l = refl
plain_take (suc n) [] h l = absurd (omega (arith, l))
plain_take (suc n) (x ∷ xs) h l = plain_one (eqb x 10) (plain (take n xs)) (h 0 (omega arith)) (plain_take n xs (λ k q. h (suc k) (omega (arith, q))) (omega (arith, l)))

-- a line ends before its first newline, or with the chunk where it has none
abbrev newline : ℕ → Bool
newline b = eqb b 10

minus_zero : (n : ℕ) → n - 0 ≡ n
minus_zero n = omega arith

ends_first : (bytes : List ℕ) (n : ℕ) → position newline bytes ≡ Some n → Ends bytes 0 n
ends_first bytes n q =
    let p = position-Some newline bytes n 0 q in
    record {
      onward = omega arith;
      within = omega (arith, p.0);
      bytes = ap (λ (k : ℕ). plain (take k bytes)) (minus_zero n) ∙ plain_take n bytes p.2 (omega (arith, p.0));
      newline = λ _. eqb-true _ 10 p.1;
    }

ends_none : (bytes : List ℕ) → position newline bytes ≡ None → Ends bytes 0 (length bytes)
ends_none bytes q =
    let none : length bytes ≤ position_or_len newline bytes = by (ltb (position_or_len newline bytes) (length bytes)) refl q in
    record {
      onward = omega arith;
      within = omega arith;
      bytes = ap (λ (k : ℕ). plain (take k bytes)) (minus_zero (length bytes)) ∙ plain_take (length bytes) bytes (λ k l. fails_before_first newline bytes k 0 (omega (arith, l, none))) (omega arith);
      newline = λ l. absurd (omega (arith, l));
    }
  where
    by : (t : Bool) → ltb (position_or_len newline bytes) (length bytes) ≡ t → cond t (Some (position_or_len newline bytes)) None ≡ None → length bytes ≤ position_or_len newline bytes
    by true e f = absurd cc
    by false e f = ltb-false _ _ e

pub ends_line : (bytes : List ℕ) → Ends bytes 0 (unwrap_or (position newline bytes) (length bytes))
ends_line bytes = by (position newline bytes) refl
  where
    by : (o : Option ℕ) → position newline bytes ≡ o → Ends bytes 0 (unwrap_or o (length bytes))
    by (Some n) e = ends_first bytes n e
    by None e = ends_none bytes e

-- ---- a line grows

grown_over : (xs : List ℕ) → grown over xs ≡ over
unfolding grown
grown_over [] = refl
grown_over (b ∷ xs) = grown_over xs

pub grown_is : (l xs : List ℕ) → length l ≤ longest → grown (upto l) xs ≡ pick (leb (length l + length xs) longest) (upto (l ++ xs)) over
unfolding grown
grown_is l [] h = sym (ap (λ (t : Bool). pick t (upto (l ++ [])) over) (le-leb (length l + 0) longest (omega arith)) ∙ ap upto (append-nil l))
grown_is l (b ∷ xs) h =
    let n : length (l ++ (b ∷ [])) ≡ length l + 1 = length-append l (b ∷ []) in
    by (ltb (length l) longest) refl (λ k. grown_is (l ++ (b ∷ [])) xs (omega (arith, n)))
  where
    by : (t : Bool) → ltb (length l) longest ≡ t
        → (length l < longest → grown (upto (l ++ (b ∷ []))) xs ≡ pick (leb (length (l ++ (b ∷ [])) + length xs) longest) (upto ((l ++ (b ∷ [])) ++ xs)) over)
        → grown (pick t (upto (l ++ (b ∷ []))) over) xs ≡ pick (leb (length l + suc (length xs)) longest) (upto (l ++ (b ∷ xs))) over
    by true e f =
        let m : length (l ++ (b ∷ [])) + length xs ≡ length l + suc (length xs) = omega (arith, length-append l (b ∷ [])) in
        f (ltb-true (length l) longest e) ∙ (λ i. pick (leb (m i) longest) (upto (append_assoc l (b ∷ []) xs i)) over)
    by false e f =
        grown_over xs ∙ sym (ap (λ (t : Bool). pick t (upto (l ++ (b ∷ xs))) over) (lt-leb (length l + suc (length xs)) longest (omega (arith, ltb-false (length l) longest e))))

-- a line that lies whole in a chunk
pub line_whole : (xs : List ℕ) → line_at (grown (upto []) xs) ≡ line_of xs
unfolding line_of
line_whole xs = ap line_at (grown_is [] xs (omega arith)) ∙ by (leb (0 + length xs) longest) refl
  where
    by : (t : Bool) → leb (0 + length xs) longest ≡ t → line_at (pick t (upto xs) over) ≡ line_of xs
    by true e = refl
    by false e = rw (lt-ltb 40 (length xs) (omega (arith, leb-false (0 + length xs) longest e)))

-- ---- the bytes of a line at once

served_plain : (xs ys : List ℕ) (p : Part) (s : Watch) (w : List ℕ) → plain xs ≡ true → served_of (listing p s w) (xs ++ ys) ≡ served_of (listing (grown p xs) s w) ys
unfolding served_of grown plain
served_plain [] ys p s w e = refl
served_plain (b ∷ xs) ys p s w e = by (eqb b 10) e (served_plain xs ys (more p b) s w)
  where
    by : (t : Bool) → pick t false (plain xs) ≡ true
        → (plain xs ≡ true → served_of (listing (more p b) s w) (xs ++ ys) ≡ served_of (listing (grown (more p b) xs) s w) ys)
        → served_of (pick t (ended (line_turn (line_at p) s) w) (listing (more p b) s w)) (xs ++ ys) ≡ served_of (listing (grown (more p b) xs) s w) ys
    by true e f = absurd (not_both e)
    by false e f = f e

served_newline : (ys : List ℕ) (b : ℕ) (p : Part) (s : Watch) (w : List ℕ) → b ≡ 10 → served_of (listing p s w) (b ∷ ys) ≡ served_of (ended (line_turn (line_at p) s) w) ys
unfolding served_of
served_newline ys b p s w e = simp (eq-eqb b 10 e)

module _ (chunk : List ℕ) (i e : ℕ) (h : Ends chunk i e) (p : Part) (s : Watch) (w : List ℕ) where
  abbrev xs : List ℕ
  xs = between chunk i e

  cut : drop i chunk ≡ xs ++ drop e chunk
  cut =
      let q : i + (e - i) ≡ e = omega (arith, h.onward) in
      sym (take-append-drop (e - i) (drop i chunk)) ∙ ap (λ (l : List ℕ). xs ++ l) (drop-drop (e - i) i chunk ∙ ap (λ (n : ℕ). drop n chunk) q)

  pub served_line : e < length chunk → served_of (ended (line_turn (line_at (grown p xs)) s) w) (drop (e + 1) chunk) ≡ served_of (listing p s w) (drop i chunk)
  served_line l =
      sym (ap (served_of (listing p s w)) cut ∙ served_plain xs (drop e chunk) p s w h.bytes
      ∙ ap (served_of (listing (grown p xs) s w)) (drop_more chunk e 0 l) ∙ served_newline (drop (e + 1) chunk) (get_or chunk e 0) (grown p xs) s w (h.newline l))

  pub served_rest : length chunk ≤ e → listing (grown p xs) s w ≡ served_of (listing p s w) (drop i chunk)
  unfolding served_of
  served_rest l =
      sym (ap (served_of (listing p s w)) cut ∙ served_plain xs (drop e chunk) p s w h.bytes
      ∙ ap (served_of (listing (grown p xs) s w)) (drop_of_length-le chunk l))

-- ---- text that is put is text written

pub put_take : (text out out' : List ℕ) (n n' : ℕ) → n ≤ length out → Put text n out out' n' → take n' out' ≡ take n out ++ text
put_take text out out' n n' h p =
    (λ k. take (p.ends k) (p.holds k)) ∙ take-paste out n text (length text) h (omega arith) ∙ ap (λ (x : List ℕ). take n out ++ x) (take-length text)

pub put_drop : (text out out' out₀ : List ℕ) (n n' : ℕ) → n ≤ length out → Put text n out out' n' → drop n out ≡ drop n out₀ → drop n' out' ≡ drop n' out₀
put_drop text out out' out₀ n n' h p e =
    (λ k. drop (p.ends k) (p.holds k)) ∙ drop-paste out n text (length text) h (omega arith)
    ∙ sym (drop-drop (length text) n out) ∙ ap (drop (length text)) e ∙ drop-drop (length text) n out₀ ∙ ap (λ (k : ℕ). drop k out₀) (sym p.ends)

-- a line that is answered, and its text put
pub line_answered : (chunk : List ℕ) (i e : ℕ) → Ends chunk i e → e < length chunk → (p : Part) (s : Watch) (a : Answered) (out out' : List ℕ) (n n' : ℕ)
    → n ≤ length out → a ≡ line_turn (line_at (grown p (between chunk i e))) s → Put a.text n out out' n'
    → served_of (listing (upto []) a.watch (take n' out')) (drop (e + 1) chunk) ≡ served_of (listing p s (take n out)) (drop i chunk)
line_answered chunk i e h l p s a out out' n n' k q t =
    ap (λ (x : List ℕ). served_of (listing (upto []) a.watch x) (drop (e + 1) chunk)) (put_take a.text out out' n n' k t)
    ∙ ap (λ (b : Answered). served_of (ended b (take n out)) (drop (e + 1) chunk)) q
    ∙ served_line chunk i e h p s (take n out) l

-- ---- the line that is begun, as the code keeps it

abbrev pub fits : Part → Type 0
fits (upto l) = length l ≤ longest
fits over = Unit {0}

module _ (b : Begun) (held : b.held ≤ longest) (room : length b.bytes ≡ longest) where
  part_is : part_of b ≡ upto (take b.held b.bytes)
  part_is = ap (λ (t : Bool). pick t (upto (take b.held b.bytes)) over) (le-leb b.held longest held)

  taken : length (take b.held b.bytes) ≡ b.held
  taken = length-take-le b.held b.bytes (omega arith)

  pub keeps : (s : List ℕ) → b.held + length s ≤ longest → grown (part_of b) s ≡ upto (take b.held b.bytes ++ s)
  keeps s h =
      ap (λ (p : Part). grown p s) part_is ∙ grown_is (take b.held b.bytes) s (omega (arith, taken))
      ∙ ap (λ (t : Bool). pick t (upto (take b.held b.bytes ++ s)) over) (le-leb (length (take b.held b.bytes) + length s) longest (omega (arith, taken)))

pub keeps_none : (b : Begun) (s : List ℕ) → length b.bytes ≡ longest → longest < b.held + length s → grown (part_of b) s ≡ over
keeps_none b s room h = by (leb b.held longest) refl
  where
    by : (t : Bool) → leb b.held longest ≡ t → grown (pick t (upto (take b.held b.bytes)) over) s ≡ over
    by true e =
        let taken : length (take b.held b.bytes) ≡ b.held = length-take-le b.held b.bytes (omega (arith, room, leb-true b.held longest e)) in
        grown_is (take b.held b.bytes) s (omega (arith, taken, leb-true b.held longest e))
        ∙ ap (λ (t : Bool). pick t (upto (take b.held b.bytes ++ s)) over) (lt-leb (length (take b.held b.bytes) + length s) longest (omega (arith, taken)))
    by false e = grown_over s

pub part_over : (b : Begun) → longest < b.held → part_of b ≡ over
part_over b h = ap (λ (t : Bool). pick t (upto (take b.held b.bytes)) over) (lt-leb b.held longest h)

pub part_upto : (b : Begun) → b.held ≤ longest → part_of b ≡ upto (take b.held b.bytes)
part_upto b h = ap (λ (t : Bool). pick t (upto (take b.held b.bytes)) over) (le-leb b.held longest h)

-- a part that fits comes back
back_upto : (l : List ℕ) → length l ≤ longest → part_of (begun_of (upto l)) ≡ upto l
back_upto l h =
    let z : length l ≡ 0 + length l = omega arith in
    part_upto (begun_of (upto l)) h
    ∙ ap upto (ap (λ (k : ℕ). take k (paste zeros 0 l (length l))) z ∙ take-paste zeros 0 l (length l) (omega arith) (omega arith) ∙ take-length l)

pub begun_back_lem : (p : Part) → fits p → part_of (begun_of p) ≡ p
begun_back_lem (upto l) h = back_upto l h
begun_back_lem over h = part_over (begun_of over) (omega arith)

grown_fits : (xs : List ℕ) (p : Part) → fits p → fits (grown p xs)
unfolding grown
grown_fits [] p h = h
grown_fits (b ∷ xs) over h = grown_fits xs over h
grown_fits (b ∷ xs) (upto l) h = by (ltb (length l) longest) refl (grown_fits xs (upto (l ++ (b ∷ [])))) (grown_fits xs over tt)
  where
    by : (t : Bool) → ltb (length l) longest ≡ t → (length (l ++ (b ∷ [])) ≤ longest → fits (grown (upto (l ++ (b ∷ []))) xs)) → fits (grown over xs) → fits (grown (pick t (upto (l ++ (b ∷ []))) over) xs)
    by true e f g = f (omega (arith, length-append l (b ∷ []), ltb-true (length l) longest e))
    by false e f g = g

pub part_fits : (b : Begun) → fits (part_of b)
part_fits b = by (leb b.held longest) refl
  where
    by : (t : Bool) → leb b.held longest ≡ t → fits (pick t (upto (take b.held b.bytes)) over)
    by true e = omega (arith, length-take b.held b.bytes, leb-true b.held longest e)
    by false e = tt
