-- Document 01's number and values for each case of an answer.
-- Assumes nothing.
use Rattle.std.specs.Prelude.{ℕ, ⊤, Result}
use Rattle.decibel.specs.Told.{Told, refused, gives}
use Rattle.trie.specs.declared.Answer.{Answer}
use Rattle.trie.specs.declared.Refusal.{Refusal}
use Rattle.trie.specs.declared.Progress.{Progress}
use Rattle.trie.specs.Refusing.{number_of}

-- what an operation answers
pub data Value : Type 0 where
  yes' no' none : Value
  level : ℕ → Value
  cell : ℕ → Value
  sums : ℕ → ℕ → Value

-- what open and start tell where they do not refuse
pub data Ok : Type 0 where
  ok : Ok

-- what a step tells where it does not refuse
pub data Course : Type 0 where
  on : Course
  done : Value → Course

abbrev pub value_of : Answer → Value
value_of Answer.Yes = yes'
value_of Answer.No = no'
value_of Answer.None = none
value_of (Answer.Level l) = level l.0
value_of (Answer.Cell k) = cell k
value_of (Answer.Sums c e) = sums c e.0

abbrev pub accepted_of : Result ⊤ Refusal → Told Ok
accepted_of (Result.Err refusal) = refused (number_of refusal)
accepted_of (Result.Ok accepted) = gives ok

abbrev pub progress_of : Result Progress Refusal → Told Course
progress_of (Result.Err refusal) = refused (number_of refusal)
progress_of (Result.Ok Progress.On) = gives on
progress_of (Result.Ok (Progress.Done a)) = gives (done (value_of a))
