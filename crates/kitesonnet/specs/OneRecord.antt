-- What the code does with one record of the board's words, once the lengths have been judged: the contract of `refusal_of_lost` and the laws of the calls speak of it.
-- Assumes nothing.
use Rattle.std.specs.Prelude.{List, ℕ, ◌+◌, Option, None, Some}
use Rattle.trie.specs.declared.Operation.{Operation}
use Rattle.trie.specs.declared.Refusal.{Refusal}
use Rattle.trie.specs.declared.Worker.{Worker}
use Rattle.trie.specs.Choice.{pick}
use Rattle.trie.specs.Size.{allowed, height_of}
use Rattle.trie.specs.Tables.{roomy}
use Rattle.trie.specs.Refusing.{number_of}
use Rattle.trie.specs.Starting.{Started, start_record_of}
use Rattle.trie.specs.Stepping.{Stepped, step_record_of}
use Rattle.kitesonnet.specs.Seats.{record_at, worker_of, seat_put}
use Rattle.kitesonnet.specs.Calls.{Lent, lent, Back, back, returned, Answered, answered, answer_after}
use Rattle.kitesonnet.specs.Promising.{promised_in}

-- one record's start, told in words
abbrev pub started_in : ℕ → Lent → Started → Back
started_in i s r = returned r.told s (lent s.nodes s.versions (seat_put s.board i r.worker))

-- a start of worker i, which has its words on the board
abbrev pub starts_at : ℕ → ℕ → ℕ → Operation → Lent → Back
starts_at n w i o s = started_in i s (start_record_of n o (promised_in (height_of n + 1) w s.board) (worker_of (record_at s.board i)) s.nodes s.versions)

-- the refusal of a worker whose words are no record
abbrev pub lost_in : ℕ → List ℕ → List ℕ → Refusal
lost_in n nodes versions = pick (allowed n) (pick (roomy n nodes versions) Refusal.Damaged Refusal.Tables) Refusal.Cells

-- one record's step, told in words
abbrev pub stepped_in : ℕ → Lent → List ℕ → Stepped → Answered
stepped_in i s answer r = answered (returned r.told s (lent r.nodes r.versions (seat_put s.board i r.worker))) (answer_after r.told answer)

abbrev pub steps_in : ℕ → ℕ → Option Worker → Lent → List ℕ → Answered
steps_in n i None s answer = answered (back (number_of (lost_in n s.nodes s.versions)) s) answer
steps_in n i (Some w) s answer = stepped_in i s answer (step_record_of n w s.nodes s.versions)
