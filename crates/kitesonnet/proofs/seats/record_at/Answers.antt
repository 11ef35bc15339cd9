-- `kitesonnet::seats::record_at` meets its contract: chunk i of the board is the words of worker i.
-- Assumes nothing.
use Rattle.std.proofs.Common.{refl, ap, ◌∙◌, arith, drop-drop}
use Rattle.std.specs.Prelude.{◌≡◌, List, ℕ, zero, suc, ◌+◌, ◌*◌, ◌<◌, get_or, take, drop}
use Rattle.std.specs.Simd.{first_chunks}
use Rattle.kitesonnet.specs.Reading.{record_of}
use Rattle.kitesonnet.specs.Seats.{record_words, seats_of}
use Rattle.kitesonnet.proofs.seats.record_at.Goals as goal

chunk_at : (k : ℕ) (words : List ℕ) (i : ℕ) (none : List ℕ) → i < k → get_or (first_chunks record_words k words) i none ≡ take record_words (drop (record_words * i) words)
chunk_at zero words i none h = absurd (omega arith)
chunk_at (suc k) words zero none h = refl
chunk_at (suc k) words (suc i) none h =
    let e : record_words + record_words * i ≡ record_words * suc i = omega arith in
    chunk_at k (drop record_words words) i none (omega arith) ∙ ap (take record_words) (drop-drop (record_words * i) record_words words ∙ ap (λ (k : ℕ). drop k words) e)

pub returns : goal.returns
returns c =
    c.record_of.ensures ∙ ap record_of
    (ap (λ (seats : List (List ℕ)). get_or seats c.args.i _) c.as_chunks.ensures.front ∙ chunk_at (seats_of c.args.board.now) c.args.board.now c.args.i _ (omega (arith, c.requires)))
