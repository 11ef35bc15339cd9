-- The bytes that were held and the further ones stand behind one another in an empty line, or they are too many for any command.
-- Assumes nothing.
use Rattle.std.proofs.Common.{◌≡◌, ℕ, ◌+◌, ◌-◌, List, ◌++◌, sym, ap, ◌∙◌, arith, length, take, drop, length-append, length-take-le}
use Rattle.std.proofs.Math.Seq.{paste}
use Rattle.std.proofs.lemmas.List.Edits.{paste_all, paste-paste}
use Rattle.std.proofs.lemmas.Slice.{put_mid-paste}
use borrow.Rule.Slice.PartMut.{put_mid}
use Rattle.lines.specs.declared.Begun.{Begun}
use Rattle.lines.specs.Chunks.{upto, zeros, begun_of}
use Rattle.lines.proofs.Feeds.{keeps, keeps_none}
use Rattle.lines.proofs.keeping.keep.Goals as goal

-- two copies, one behind the other
copied : (old s front back : List ℕ) (k n : ℕ) → k ≡ length old → n ≡ k + length s → front ≡ old → back ≡ s
    → ◌≡◌ {A = Begun} (record { bytes = put_mid k (n - k) (front ++ drop k zeros) back; held = n }) (begun_of (upto (old ++ s)))
copied old s front back k n ek en ef eb =
    let m : length s ≡ n - k = omega (arith, en) in
    let z : 0 + k ≡ k = omega arith in
    let e : n ≡ length (old ++ s) = omega (arith, en, ek, length-append old s) in
    let first : front ++ drop k zeros ≡ paste zeros 0 old k = ap (λ (x : List ℕ). x ++ drop k zeros) ef ∙ sym (ap (λ (j : ℕ). old ++ drop j zeros) z) ∙ sym (paste_all zeros 0 old k ek) in
    let both : put_mid k (n - k) (front ++ drop k zeros) back ≡ paste zeros 0 (old ++ s) (length (old ++ s)) =
    put_mid-paste k (n - k) (front ++ drop k zeros) back s (length s) eb m (omega arith)
    ∙ ap (λ (x : List ℕ). paste x k s (length s)) first
    ∙ ap (λ (j : ℕ). paste (paste zeros 0 old k) j s (length s)) (sym z)
    ∙ paste-paste zeros 0 old s k (length s) ek (omega arith) (omega arith)
    ∙ ap (paste zeros 0 (old ++ s)) (sym en ∙ e) in
    λ i. record { bytes = both i; held = e i }

pub returns-then-length-gt-LONGEST_LINE : goal.returns-then-length-gt-LONGEST_LINE
returns-then-length-gt-LONGEST_LINE c =
    sym (ap begun_of (keeps_none c.args.begun c.args.s.now (omega (arith, c.well_formed)) (omega (arith, c.saturating_add-length.ensures))))

pub returns : goal.returns
returns c =
    let b = c.args.begun in
    let room : length b.bytes ≡ 40 = omega (arith, c.well_formed) in
    let n : c.saturating_add-length.result ≡ b.held + length c.args.s.now = omega (arith, c.saturating_add-length.ensures) in
    copied (take b.held b.bytes) c.args.s.now c.copy_from_slice.new.self c.copy_from_slice-2.new.self b.held c.saturating_add-length.result
    (sym (length-take-le b.held b.bytes (omega (arith, n, room)))) n c.copy_from_slice.ensures.after c.copy_from_slice-2.ensures.after
    ∙ sym (ap begun_of (keeps b (omega (arith, n)) room c.args.s.now (omega (arith, n))))
