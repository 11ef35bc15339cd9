-- The contract of serving a chunk leaves one answer, and one state of all that is lent.
-- Assumes nothing.
use Rattle.std.specs.Prelude.{◌≡◌, List, ℕ}
use Rattle.std.proofs.Common.{sym, ap, ◌∙◌}
use Rattle.lines.specs.declared.Kept.{Kept}
use Rattle.lines.specs.Chunks.{Outcome, came}

-- whatever a chunk is to come to, as `serve_of begun s out chunk` or `finish_of begun s out`, is come to in one way
pub serve_decided : (o : Outcome) (a b : Kept) (out out' : List ℕ) (filled filled' : ℕ) → came a out filled ≡ o → came b out' filled' ≡ o → (a ≡ b) × (out ≡ out') × (filled ≡ filled')
serve_decided o a b out out' filled filled' p q =
    let e = p ∙ sym q in (
      λ i. record { begun = (e i).begun; watch = (e i).watch },
      ap (λ (x : Outcome). x.out) e,
      ap (λ (x : Outcome). x.filled) e,
    )
