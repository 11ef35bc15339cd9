-- How the input is cut into chunks changes nothing of what is written, nor of what is kept.
-- Assumes nothing.
use mathlib.Core.Path.{◌≡◌, refl, sym, ap, ◌∙◌}
use mathlib.Core.Bool.{Bool, true, false}
use mathlib.Core.List.{List, [], ◌∷◌, ◌++◌, append_assoc, append-nil}
use Prim.Native.Nat.{ℕ}
use native.Mathlib.Omega.{arith}
use borrow.Author.Tests.{ltb-true}
use lib.Dec.{eqb, ltb}
use lib.ListN.{length, length-append}
use Rattle.trie.specs.Choice.{pick}
use Rattle.lines.specs.declared.Begun.{Begun}
use Rattle.lines.specs.declared.Watch.{Watch}
use Rattle.lines.specs.Turns.{Answered, line_turn}
use Rattle.grammar.specs.Grammar.{longest}
use Rattle.lines.specs.Chunks.{Part, upto, over, more, line_at, Listing, listing, ended, byte_of, served_of, part_of, serve_of}
use Rattle.lines.proofs.Feeds.{fits, begun_back_lem, part_fits}

-- two runs of bytes, one after the other, do what they do as one
pub served_two : (l : Listing) (xs ys : List ℕ) → served_of l (xs ++ ys) ≡ served_of (served_of l xs) ys
unfolding served_of
served_two l [] ys = refl
served_two l (b ∷ xs) ys = served_two (byte_of l b) xs ys

-- what is written goes behind what was written before
written_by : (t : Bool) (p q : Part) (s : Watch) (a : Answered) (u w : List ℕ)
    → pick t (ended a (u ++ w)) (listing q s (u ++ w)) ≡ listing (pick t (ended a w) (listing q s w)).part (pick t (ended a w) (listing q s w)).watch (u ++ (pick t (ended a w) (listing q s w)).written)
written_by true p q s a u w = ap (λ (x : List ℕ). listing (upto []) a.watch x) (append_assoc u w a.text)
written_by false p q s a u w = refl

pub served_behind : (xs : List ℕ) (p : Part) (s : Watch) (u w : List ℕ)
    → served_of (listing p s (u ++ w)) xs ≡ listing (served_of (listing p s w) xs).part (served_of (listing p s w) xs).watch (u ++ (served_of (listing p s w) xs).written)
unfolding served_of
served_behind [] p s u w = refl
served_behind (b ∷ xs) p s u w =
    let n = byte_of (listing p s w) b in
    ap (λ (l : Listing). served_of l xs) (written_by (eqb b 10) p (more p b) s (line_turn (line_at p) s) u w)
    ∙ served_behind xs n.part n.watch u n.written

-- the line that is begun is kept whole from chunk to chunk
more_fits : (p : Part) (b : ℕ) → fits p → fits (more p b)
more_fits over b h = h
more_fits (upto l) b h = by (ltb (length l) longest) refl
  where
    by : (t : Bool) → ltb (length l) longest ≡ t → fits (pick t (upto (l ++ (b ∷ []))) over)
    by true e = omega (arith, length-append l (b ∷ []), ltb-true (length l) longest e)
    by false e = tt

byte_fits : (t : Bool) (q : Part) (s : Watch) (a : Answered) (w : List ℕ) → fits q → fits (pick t (ended a w) (listing q s w)).part
byte_fits true q s a w h = omega arith
byte_fits false q s a w h = h

pub served_fits : (xs : List ℕ) (p : Part) (s : Watch) (w : List ℕ) → fits p → fits (served_of (listing p s w) xs).part
unfolding served_of
served_fits [] p s w h = h
served_fits (b ∷ xs) p s w h =
    let n = byte_of (listing p s w) b in
    served_fits xs n.part n.watch n.written (byte_fits (eqb b 10) (more p b) s (line_turn (line_at p) s) w (more_fits p b h))

pub kept_whole : (begun : Begun) (s : Watch) (out xs : List ℕ) → part_of (serve_of begun s out xs).begun ≡ (served_of (listing (part_of begun) s []) xs).part
unfolding serve_of
kept_whole begun s out xs = begun_back_lem (served_of (listing (part_of begun) s []) xs).part (served_fits xs (part_of begun) s [] (part_fits begun))

-- a chunk and then another: kept and written together as by one chunk of both
pub cut : (begun : Begun) (s : Watch) (out out' xs ys : List ℕ)
    → served_of (listing (part_of begun) s []) (xs ++ ys)
    ≡ listing (served_of (listing (part_of (serve_of begun s out xs).begun) (serve_of begun s out xs).watch []) ys).part
    (served_of (listing (part_of (serve_of begun s out xs).begun) (serve_of begun s out xs).watch []) ys).watch
    ((served_of (listing (part_of begun) s []) xs).written ++ (served_of (listing (part_of (serve_of begun s out xs).begun) (serve_of begun s out xs).watch []) ys).written)
unfolding serve_of
cut begun s out out' xs ys =
    let l = served_of (listing (part_of begun) s []) xs in
    served_two (listing (part_of begun) s []) xs ys
    ∙ ap (λ (x : List ℕ). served_of (listing l.part l.watch x) ys) (sym (append-nil l.written))
    ∙ served_behind ys l.part l.watch l.written []
    ∙ ap (λ (p : Part). listing (served_of (listing p l.watch []) ys).part (served_of (listing p l.watch []) ys).watch (l.written ++ (served_of (listing p l.watch []) ys).written))
    (sym (kept_whole begun s out xs))
