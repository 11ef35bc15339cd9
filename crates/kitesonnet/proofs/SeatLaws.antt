-- The workers that a board's words say: as many as it has room for, each by its own twelve words, and a record that is written is said.
-- Assumes nothing.
use Rattle.std.specs.Prelude.{◌≡◌, refl, List, ℕ, zero, suc, ◌+◌, ◌*◌, ◌<◌, length, get_or, take, drop}
use Rattle.std.proofs.Common.{sym, ap, ◌∙◌, add-one, arith, drop-drop}
use Rattle.trie.specs.declared.Worker.{Worker}
use Rattle.trie.specs.Record.{idle}
use Rattle.kitesonnet.specs.Reading.{record_of}
use Rattle.kitesonnet.specs.Seats.{record_words, seats_of, record_at, worker_of, workers_in, said, seat_put, seats_put, seats_rested}

pub workers_length : (k : ℕ) (words : List ℕ) → length (workers_in k words) ≡ k
unfolding workers_in
workers_length zero words = refl
workers_length (suc k) words = ap suc (workers_length k (drop record_words words))

pub said_length : (board : List ℕ) → length (said board) ≡ seats_of board
said_length board = workers_length (seats_of board) board

pub at_next : (words : List ℕ) (i : ℕ) → record_at (drop record_words words) i ≡ record_at words (suc i)
at_next words i =
    let e : record_words + record_words * i ≡ record_words * suc i = omega arith in
    ap (λ (t : List ℕ). record_of (take record_words t)) (drop-drop (record_words * i) record_words words ∙ ap (λ (k : ℕ). drop k words) e)

pub workers_at : (k : ℕ) (words : List ℕ) (i : ℕ) → i < k → get_or (workers_in k words) i idle ≡ worker_of (record_at words i)
unfolding workers_in
workers_at zero words i h = absurd (omega arith)
workers_at (suc k) words zero h = refl
workers_at (suc k) words (suc i) h = workers_at k (drop record_words words) i (omega arith) ∙ ap worker_of (at_next words i)

pub said_at : (board : List ℕ) (i : ℕ) → i < seats_of board → get_or (said board) i idle ≡ worker_of (record_at board i)
said_at board i h = workers_at (seats_of board) board i h

-- ---- workers at rest

pub seats_rest : (k : ℕ) (board : List ℕ) (workers : List Worker) → ((i : ℕ) → i < k → get_or workers i idle ≡ idle) → seats_put k board workers ≡ seats_rested k board
unfolding seats_put seats_rested
seats_rest zero board workers h = refl
seats_rest (suc k) board workers h =
    ap (λ (b : List ℕ). seat_put b k (get_or workers k idle)) (seats_rest k board workers (λ i l. h i (omega arith))) ∙ ap (seat_put (seats_rested k board) k) (h k (omega arith))

-- none yet, and one more, as the loop that rests them has it
pub rested_first : (board : List ℕ) → board ≡ seats_rested 0 board
unfolding seats_rested
rested_first board = refl

pub rested_on : (board now : List ℕ) (i : ℕ) (w : Worker) (next : List ℕ) → now ≡ seats_rested i board → w ≡ idle → next ≡ seat_put now i w → next ≡ seats_rested (i + 1) board
unfolding seats_rested
rested_on board now i w next e g h =
    h ∙ ap (λ (b : List ℕ). seat_put b i w) e ∙ ap (seat_put (seats_rested i board) i) g ∙ ap (λ (k : ℕ). seats_rested k board) (sym (add-one i))
