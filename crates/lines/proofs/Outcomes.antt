-- What a whole chunk comes to: the line that is begun at its end, and what was written at the start of the buffer.
-- Assumes nothing.
use mathlib.Core.Path.{◌≡◌, sym, ap, ◌∙◌}
use mathlib.Core.Bool.{Bool}
use mathlib.Core.List.{List, [], ◌∷◌, ◌++◌}
use Prim.Native.Nat.{ℕ, ◌*◌, ◌-◌, ◌≤◌}
use native.Mathlib.Omega.{arith}
use borrow.Author.Tests.{eq-eqb, ne_eqb}
use lib.Dec.{leb}
use lib.ListN.{length, take, drop, take-append-drop, length-drop}
use lib.Seq.{length-take-le, take_all}
use Rattle.trie.specs.Choice.{pick}
use Rattle.lines.specs.declared.Begun.{Begun}
use Rattle.lines.specs.declared.Place.{Place}
use Rattle.lines.specs.declared.Watch.{Watch}
use Rattle.grammar.specs.Grammar.{longest}
use Rattle.lines.specs.Chunks.{Part, upto, over, Listing, listing, byte_of, served_of, zeros, part_of, begun_of, Outcome, outcome, serve_of, finish_of}
use Rattle.lines.specs.Replies.{widest}
use Rattle.lines.specs.Feeding.{grown, between, before}
use Rattle.lines.specs.Places.{Runs}
use Rattle.lines.proofs.Feeds.{served_rest}

abbrev at_end : Begun → Watch → List ℕ → ℕ → Outcome
at_end kept s out filled = record { begun = kept; watch = s; out = out; filled = filled }

module _ (begun : Begun) (s₀ : Watch) (out₀ chunk : List ℕ) where
  pub outcome_is : (part : Part) (s : Watch) (out : List ℕ) (filled : ℕ) (kept : Begun) → kept ≡ begun_of part → filled ≤ length out → drop filled out ≡ drop filled out₀
      → listing part s (take filled out) ≡ served_of (listing (part_of begun) s₀ []) chunk → at_end kept s out filled ≡ serve_of begun s₀ out₀ chunk
  unfolding serve_of
  outcome_is part s out filled kept e h d q =
      let n : filled ≡ length (take filled out) = sym (length-take-le filled out h) in
      let o : out ≡ take filled out ++ drop (length (take filled out)) out₀ = sym (take-append-drop filled out) ∙ ap (λ (l : List ℕ). take filled out ++ l) (d ∙ ap (λ (k : ℕ). drop k out₀) n) in
      (λ i. at_end (e i) s (o i) (n i)) ∙ ap (λ (l : Listing). outcome l out₀) q

  -- the lines that end in the chunk are served, and the line behind them is kept
  pub closes_all : (p : Place) (s : Watch) (out : List ℕ) (kept : Begun) → Runs begun chunk s₀ out₀ p s out → length chunk ≤ p.end → widest * length chunk ≤ length out
      → kept ≡ begun_of (grown (before begun p.from) (drop p.from chunk)) → at_end kept s out p.filled ≡ serve_of begun s₀ out₀ chunk
  closes_all p s out kept r all k q =
      let h = r.ends in
      let i = p.from in
      let n : length (drop i chunk) ≤ p.end - i = omega (arith, length-drop i chunk, all) in
      outcome_is (grown (before begun i) (between chunk i p.end)) s out p.filled kept (q ∙ ap (λ (x : List ℕ). begun_of (grown (before begun i) x)) (sym (take_all (p.end - i) (drop i chunk) n)))
      (omega (arith, r.room, h.onward, h.within)) r.behind
      (served_rest chunk i p.end h (before begun i) s (take p.filled out) all ∙ r.same)

-- ---- the input has ended

pub finish_none : (begun : Begun) (s : Watch) (out : List ℕ) → begun.held ≡ 0 → at_end (record { bytes = zeros; held = 0 }) s out 0 ≡ finish_of begun s out
unfolding finish_of
finish_none begun s out e =
    let b : record { bytes = zeros; held = 0 } ≡ begun_of (part_of begun) = sym (ap (λ (h : ℕ). begun_of (pick (leb h longest) (upto (take h begun.bytes)) over)) e) in
    (λ i. at_end (b i) s out 0) ∙ ap (λ (t : Bool). outcome (pick t (listing (part_of begun) s []) (byte_of (listing (part_of begun) s []) 10)) out) (sym (eq-eqb begun.held 0 e))

pub finish_line : (begun : Begun) (s : Watch) (out : List ℕ) → (begun.held ≡ 0 → ⊥) → serve_of begun s out (10 ∷ []) ≡ finish_of begun s out
unfolding serve_of finish_of served_of
finish_line begun s out n = ap (λ (t : Bool). outcome (pick t (listing (part_of begun) s []) (byte_of (listing (part_of begun) s []) 10)) out) (sym (ne_eqb begun.held 0 n))
