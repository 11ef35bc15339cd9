-- The board as words: twelve for each worker, and the records that they say.
-- docs/WORDS.md, "The board". Assumes nothing.
use Rattle.std.specs.Prelude.{Bool, true, ◌&&◌, List, [], ◌∷◌, ℕ, zero, suc, ◌*◌, ◌/◌, length, get_or, take, drop, Option, is_some, unwrap_or}
use Rattle.std.proofs.Math.Seq.{paste}
use Rattle.trie.specs.declared.Worker.{Worker}
use Rattle.trie.specs.Record.{idle}
use Rattle.kitesonnet.specs.Reading.{record_of}
use Rattle.kitesonnet.specs.Writing.{words_of}

-- the words of a record
abbrev pub record_words : ℕ
record_words = 12

-- how many records a board of words has room for
abbrev pub seats_of : List ℕ → ℕ
seats_of board = length board / record_words

-- what the words of worker i say
abbrev pub record_at : List ℕ → ℕ → Option Worker
record_at board i = record_of (take record_words (drop (record_words * i) board))

-- words that are no record stand for an idle worker, so that 5 is not given for them: 9 is
abbrev pub worker_of : Option Worker → Worker
worker_of says = unwrap_or says idle

-- the first k workers that the words say
unfoldable pub workers_in : ℕ → List ℕ → List Worker
workers_in zero words = []
workers_in (suc k) words = worker_of (record_of (take record_words words)) ∷ workers_in k (drop record_words words)

-- the workers that a board of words says
abbrev pub said : List ℕ → List Worker
said board = workers_in (seats_of board) board

-- the words of each of the first w workers are a record
unfoldable pub readable : ℕ → List ℕ → Bool
readable zero words = true
readable (suc w) words = is_some (record_of (take record_words words)) && readable w (drop record_words words)

-- the board with the words of a record in worker i's place
abbrev pub seat_put : List ℕ → ℕ → Worker → List ℕ
seat_put board i w = paste board (record_words * i) (words_of w) record_words

-- the board with the words of the first k of some workers in their places
unfoldable pub seats_put : ℕ → List ℕ → List Worker → List ℕ
seats_put zero board workers = board
seats_put (suc k) board workers = seat_put (seats_put k board workers) k (get_or workers k idle)

-- the board with the words of an idle record in the places of the first k workers
unfoldable pub seats_rested : ℕ → List ℕ → List ℕ
seats_rested zero board = board
seats_rested (suc k) board = seat_put (seats_rested k board) k idle
