-- What the program writes on an input, however it is given in chunks, is the answers to the lines of the input, one after the other.
-- Assumes nothing.
use mathlib.Core.Path.{◌≡◌, refl, sym, ap, ◌∙◌}
use mathlib.Core.Bool.{Bool, true, false}
use mathlib.Core.List.{List, [], ◌∷◌, ◌++◌, append_assoc, append-nil}
use Prim.Native.Nat.{ℕ, ◌+◌}
use native.Mathlib.Omega.{arith}
use lib.Dec.{eqb, leb, eqb-suc-zero}
use lib.ListN.{length, take, drop}
use Rattle.std.proofs.Common.{Option, None}
use Rattle.grammar.specs.declared.Command.{Command}
use Rattle.grammar.specs.Grammar.{longest, line_of}
use Rattle.trie.specs.Choice.{pick}
use Rattle.lines.specs.declared.Watch.{Watch}
use Rattle.lines.specs.Turns.{Answered, line_turn}
use Rattle.lines.specs.Chunks.{Part, upto, over, more, line_at, Listing, listing, ended, byte_of, served_of, part_of, begun_of, outcome, serve_of, finish_of}
use Rattle.lines.specs.Feeding.{grown}
use Rattle.lines.specs.Whole.{last_of, lines_from, lines_of, answers_of, text_of, writes_of, joined}
use Rattle.lines.proofs.Feeds.{fits, begun_back_lem, grown_is, line_whole}
use Rattle.lines.proofs.Cuts.{served_two, served_behind, served_fits}

-- what the input's end adds: the answer to a line that is begun
abbrev closing : Part → Watch → List ℕ
closing (upto []) s = []
closing (upto (b ∷ bs)) s = (line_turn (line_of (b ∷ bs)) s).text
closing over s = (line_turn None s).text

abbrev closed : Listing → List ℕ
closed l = l.written ++ closing l.part l.watch

take_first : (xs ys : List ℕ) → take (length xs) (xs ++ ys) ≡ xs
take_first [] ys = refl
take_first (x ∷ xs) ys = ap (λ (zs : List ℕ). x ∷ zs) (take_first xs ys)

-- ---- the chunks together

written_out : (l : Listing) (out : List ℕ) → text_of (outcome l out) ≡ l.written
written_out l out = take_first l.written (drop (length l.written) out)

finish_text : (p : Part) (s : Watch) (out : List ℕ) → fits p → text_of (finish_of (begun_of p) s out) ≡ closing p s
unfolding finish_of
finish_text p s out h =
    written_out (pick (eqb (begun_of p).held 0) (listing (part_of (begun_of p)) s []) (byte_of (listing (part_of (begun_of p)) s []) 10)) out
    ∙ ap (λ (q : Part). (pick (eqb (begun_of p).held 0) (listing q s []) (byte_of (listing q s []) 10)).written) (begun_back_lem p h)
    ∙ by p
  where
    by : (q : Part) → (pick (eqb (begun_of q).held 0) (listing q s []) (byte_of (listing q s []) 10)).written ≡ closing q s
    by (upto []) = refl
    by (upto (b ∷ bs)) = rw (eqb-suc-zero (length bs))
    by over = refl

serve_text : (p : Part) (s : Watch) (out chunk : List ℕ) → fits p → text_of (serve_of (begun_of p) s out chunk) ≡ (served_of (listing p s []) chunk).written
unfolding serve_of
serve_text p s out chunk h = written_out (served_of (listing (part_of (begun_of p)) s []) chunk) out ∙ ap (λ (q : Part). (served_of (listing q s []) chunk).written) (begun_back_lem p h)

closed_behind : (xs : List ℕ) (p : Part) (s : Watch) (u : List ℕ) → closed (served_of (listing p s u) xs) ≡ u ++ closed (served_of (listing p s []) xs)
closed_behind xs p s u =
    let n = served_of (listing p s []) xs in
    ap (λ (v : List ℕ). closed (served_of (listing p s v) xs)) (sym (append-nil u))
    ∙ ap closed (served_behind xs p s u [])
    ∙ append_assoc u n.written (closing n.part n.watch)

kept_begun : (p : Part) (s : Watch) (out chunk : List ℕ) → fits p → (serve_of (begun_of p) s out chunk).begun ≡ begun_of (served_of (listing p s []) chunk).part
unfolding serve_of
kept_begun p s out chunk h = ap (λ (q : Part). begun_of (served_of (listing q s []) chunk).part) (begun_back_lem p h)

kept_watch : (p : Part) (s : Watch) (out chunk : List ℕ) → fits p → (serve_of (begun_of p) s out chunk).watch ≡ (served_of (listing p s []) chunk).watch
unfolding serve_of
kept_watch p s out chunk h = ap (λ (q : Part). (served_of (listing q s []) chunk).watch) (begun_back_lem p h)

chunks_together : (chunks : List (List ℕ)) (p : Part) (s : Watch) (out : List ℕ) → fits p → writes_of (begun_of p) s out chunks ≡ closed (served_of (listing p s []) (joined chunks))
unfolding writes_of joined served_of
chunks_together [] p s out h = finish_text p s out h
chunks_together (chunk ∷ chunks) p s out h =
    let l = served_of (listing p s []) chunk in
    let o = serve_of (begun_of p) s out chunk in
    let kept : o.begun ≡ begun_of l.part = kept_begun p s out chunk h in
    let watched : o.watch ≡ l.watch = kept_watch p s out chunk h in
    (λ i. serve_text p s out chunk h i ++ writes_of (kept i) (watched i) o.out chunks)
    ∙ ap (λ (x : List ℕ). l.written ++ x) (chunks_together chunks l.part l.watch o.out (served_fits chunk p s [] h))
    ∙ sym (closed_behind (joined chunks) l.part l.watch l.written)
    ∙ ap closed (sym (served_two (listing p s []) chunk (joined chunks)))

-- ---- the lines one after the other

grown_more : (xs : List ℕ) (p : Part) (b : ℕ) → more (grown p xs) b ≡ grown p (xs ++ (b ∷ []))
unfolding grown
grown_more [] p b = refl
grown_more (x ∷ xs) p b = grown_more xs (more p x) b

closing_last : (begun : List ℕ) (s : Watch) → closing (grown (upto []) begun) s ≡ answers_of s (last_of begun)
unfolding answers_of grown
closing_last [] s = refl
closing_last (b ∷ bs) s =
    ap (λ (p : Part). closing p s) (grown_is [] (b ∷ bs) (omega arith))
    ∙ by (leb (length {A = ℕ} [] + length (b ∷ bs)) longest) refl
    ∙ sym (append-nil (line_turn (line_of (b ∷ bs)) s).text)
  where
    by : (t : Bool) → leb (length {A = ℕ} [] + length (b ∷ bs)) longest ≡ t → closing (pick t (upto (b ∷ bs)) over) s ≡ (line_turn (line_of (b ∷ bs)) s).text
    by true e = refl
    by false e =
        ap (λ (l : Option Command). (line_turn l s).text)
        (ap (λ (t : Bool). line_at (pick t (upto (b ∷ bs)) over)) (sym e) ∙ ap line_at (sym (grown_is [] (b ∷ bs) (omega arith))) ∙ line_whole (b ∷ bs))

-- a newline: the line's answer, and then those of the lines behind it
at_newline : (input begun : List ℕ) (s : Watch) (a : Answered) → a ≡ line_turn (line_at (grown (upto []) begun)) s → closed (served_of (listing (upto []) a.watch []) input) ≡ answers_of a.watch (lines_from [] input)
    → closed (served_of (ended a []) input) ≡ answers_of s (begun ∷ lines_from [] input)
unfolding answers_of
at_newline input begun s a e behind =
    closed_behind input (upto []) a.watch a.text
    ∙ ap (λ (x : List ℕ). a.text ++ x) behind
    ∙ ap (λ (t : Answered). t.text ++ answers_of t.watch (lines_from [] input)) (e ∙ ap (λ (l : Option Command). line_turn l s) (line_whole begun))

-- one byte more: a newline, or a byte of the line that is begun
at_byte : (t : Bool) (b : ℕ) (input begun : List ℕ) (s : Watch) (a : Answered) → a ≡ line_turn (line_at (grown (upto []) begun)) s
    → closed (served_of (listing (upto []) a.watch []) input) ≡ answers_of a.watch (lines_from [] input)
    → closed (served_of (listing (grown (upto []) (begun ++ (b ∷ []))) s []) input) ≡ answers_of s (lines_from (begun ++ (b ∷ [])) input)
    → closed (served_of (pick t (ended a []) (listing (more (grown (upto []) begun) b) s [])) input) ≡ answers_of s (pick t (begun ∷ lines_from [] input) (lines_from (begun ++ (b ∷ [])) input))
at_byte true b input begun s a e behind further = at_newline input begun s a e behind
at_byte false b input begun s a e behind further = ap (λ (q : Part). closed (served_of (listing q s []) input)) (grown_more begun (upto []) b) ∙ further

lines_answered : (input begun : List ℕ) (s : Watch) → closed (served_of (listing (grown (upto []) begun) s []) input) ≡ answers_of s (lines_from begun input)
unfolding served_of lines_from grown
lines_answered [] begun s = closing_last begun s
lines_answered (b ∷ input) begun s =
    let a = line_turn (line_at (grown (upto []) begun)) s in
    at_byte (eqb b 10) b input begun s a refl (lines_answered input [] a.watch) (lines_answered input (begun ++ (b ∷ [])) s)

-- from a line that is not begun, whatever history, tables and board are kept
pub whole : (chunks : List (List ℕ)) (s : Watch) (out : List ℕ) → writes_of (begun_of (upto [])) s out chunks ≡ answers_of s (lines_of (joined chunks))
unfolding grown
whole chunks s out = chunks_together chunks (upto []) s out (omega arith) ∙ lines_answered (joined chunks) [] s
