-- The four calls of the library: document 01's calls over the records that the board's words say, told in words.
-- A refused call leaves every word. Assumes nothing.
use Rattle.std.specs.Prelude.{Bool, true, false, not, List, ℕ, leb, length, get_or, Option, None, Some, ⊤, Result}
use Rattle.decibel.specs.Told.{Told, refused, gives}
use Rattle.decibel.specs.Conversion.{convert_of}
use Rattle.trie.specs.declared.Operation.{Operation}
use Rattle.trie.specs.declared.Refusal.{Refusal}
use Rattle.trie.specs.declared.Worker.{Worker}
use Rattle.trie.specs.Refusing.{number_of}
use Rattle.trie.specs.Record.{idle, busy, operation_fits}
use Rattle.trie.specs.Values.{Ok, Course}
use Rattle.trie.specs.Calls.{State, state, After, after, check, check_call, open_of, start_of, step_of}
use Rattle.kitesonnet.specs.Operations.{operation_of}
use Rattle.kitesonnet.specs.Seats.{said, record_at, readable, seat_put, seats_put}
use Rattle.kitesonnet.specs.Answers.{answer_words, course_put, energy_put}

-- ---- what is lent, and what comes back

-- the rows of words that are lent to a call: both tables and the board
pub record Lent : Type 0 where
  pub nodes : List ℕ
  pub versions : List ℕ
  pub board : List ℕ

abbrev pub lent : List ℕ → List ℕ → List ℕ → Lent
lent nodes versions board = record { nodes = nodes; versions = versions; board = board }

-- the state that the words say
abbrev pub state_of : Lent → State
state_of s = state s.nodes s.versions (said s.board)

-- what a call returns, 0 or a refusal's number, and the rows as they stand afterwards
pub record Back : Type 0 where
  pub number : ℕ
  pub lent : Lent

abbrev pub back : ℕ → Lent → Back
back number s = record { number = number; lent = s }

-- the number of what a call comes to
abbrev pub number_by : Result ⊤ Refusal → ℕ
number_by (Result.Err refusal) = number_of refusal
number_by (Result.Ok accepted) = 0

-- a refused call leaves the rows as they were; an accepted one has the tables of the state after it, and a board
abbrev pub returned : {A : Type 0} → Told A → Lent → Lent → Back
returned (refused number) before written = back number before
returned (gives a) before written = back 0 written

-- a call after which the first w records are written
abbrev pub writes_first : {A : Type 0} → ℕ → Lent → After A → Back
writes_first w s a = returned a.told s (lent a.state.nodes a.state.versions (seats_put w s.board a.state.board))

-- a call after which the record of worker i is written
abbrev pub writes_at : {A : Type 0} → ℕ → Lent → After A → Back
writes_at i s a = returned a.told s (lent a.state.nodes a.state.versions (seat_put s.board i (get_or a.state.board i idle)))

-- ---- open

unfoldable pub kite_open_of : ℕ → ℕ → Lent → Back
kite_open_of n w s = writes_first w s (open_of n w (state_of s))

-- ---- start

-- some worker's words are no record: 9 at its place, behind 1, 2, 3, 4, 5 and 7
abbrev pub start_damaged : ℕ → ℕ → ℕ → Operation → State → After Ok
start_damaged n w i o s =
    check_call n w i s
    (check (not (busy (get_or s.board i idle))) 5 s
    (check (operation_fits n o) 7 s
    (after (refused 9) s)))

abbrev pub start_said : Bool → ℕ → ℕ → ℕ → Operation → State → After Ok
start_said true n w i o s = start_of n w i o s
start_said false n w i o s = start_damaged n w i o s

-- numbers that are no operation are refused first
abbrev pub start_given : Option Operation → ℕ → ℕ → ℕ → Lent → Back
start_given None n w i s = back 10 s
start_given (Some o) n w i s = writes_at i s (start_said (readable w s.board) n w i o (state_of s))

unfoldable pub kite_start_of : ℕ → ℕ → ℕ → ℕ → ℕ → ℕ → Lent → Back
kite_start_of n w i kind first second s = start_given (operation_of kind first second) n w i s

-- ---- step

-- what a step returns, the rows, and the answer's row
pub record Answered : Type 0 where
  pub number : ℕ
  pub lent : Lent
  pub answer : List ℕ

abbrev pub answered : Back → List ℕ → Answered
answered b answer = record { number = b.number; lent = b.lent; answer = answer }

abbrev pub answer_after : Told Course → List ℕ → List ℕ
answer_after (refused number) answer = answer
answer_after (gives c) answer = course_put answer c

-- the worker's own words are no record: 9 at its place, behind 1, 2, 3 and 4
abbrev pub step_said : Option Worker → ℕ → ℕ → ℕ → State → After Course
step_said None n w i s = check_call n w i s (after (refused 9) s)
step_said (Some r) n w i s = step_of n w i s

abbrev pub step_told : ℕ → Lent → List ℕ → After Course → Answered
step_told i s answer a = answered (writes_at i s a) (answer_after a.told answer)

-- an answer's row that is too short is refused first
abbrev pub step_roomy : Bool → ℕ → ℕ → ℕ → Lent → List ℕ → Answered
step_roomy true n w i s answer = step_told i s answer (step_said (record_at s.board i) n w i (state_of s))
step_roomy false n w i s answer = answered (back 20 s) answer

unfoldable pub kite_step_of : ℕ → ℕ → ℕ → Lent → List ℕ → Answered
kite_step_of n w i s answer = step_roomy (leb answer_words (length answer)) n w i s answer

-- ---- the conversion

pub record Converted : Type 0 where
  pub number : ℕ
  pub answer : List ℕ

abbrev pub converted : ℕ → List ℕ → Converted
converted number answer = record { number = number; answer = answer }

abbrev pub convert_told : Told ℕ → List ℕ → Converted
convert_told (refused number) answer = converted number answer
convert_told (gives energy) answer = converted 0 (energy_put answer energy)

abbrev pub convert_roomy : Bool → ℕ → List ℕ → Converted
convert_roomy true level answer = convert_told (convert_of level) answer
convert_roomy false level answer = converted 20 answer

unfoldable pub kite_energy_of : ℕ → List ℕ → Converted
kite_energy_of level answer = convert_roomy (leb answer_words (length answer)) level answer
