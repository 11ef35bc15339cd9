-- Document 01's number of each refusal, and the library's for a row that is too short for an answer.
-- Assumes nothing.
use Rattle.std.specs.Prelude.{ℕ, Result}
use Rattle.trie.specs.declared.Refusal.{Refusal}
use Rattle.trie.specs.declared.Damage.{Damage}

abbrev pub number_of : Refusal → ℕ
number_of Refusal.Cells = 1
number_of Refusal.Workers = 2
number_of Refusal.Tables = 3
number_of Refusal.Worker = 4
number_of Refusal.Busy = 5
number_of Refusal.Idle = 6
number_of Refusal.Argument = 7
number_of Refusal.Room = 8
number_of Refusal.Damaged = 9
number_of Refusal.Command = 10
number_of Refusal.AnswerRow = 20

abbrev pub damaged : {A : Type 0} → Result A Damage
damaged = Result.Err (record {})
