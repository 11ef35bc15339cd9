-- Lists of calls run from the definitions, so that the soundings of document 01 can be computed.
-- Assumes nothing.
use Rattle.std.specs.Prelude.{List, [], ◌∷◌, ℕ, zero, suc, ◌*◌}
use Rattle.decibel.specs.Told.{Told, gives}
use Rattle.trie.specs.declared.Update.{Update}
use Rattle.trie.specs.declared.Operation.{Operation}
use Rattle.trie.specs.Record.{idle}
use Rattle.trie.specs.Values.{Ok, Course, on}
use Rattle.trie.specs.Calls.{State, state, open_of, start_of, step_of}

-- a call of a listing, after N and W are known
pub data Call : Type 0 where
  begin : Call
  start : ℕ → Operation → Call
  step : ℕ → Call

-- what a call told: open and start, or a step
pub data Line : Type 0 where
  said : Told Ok → Line
  went : Told Course → Line

abbrev pub repeat : {A : Type 0} → ℕ → A → List A
repeat zero a = []
repeat (suc n) a = a ∷ repeat n a

-- tables of n cells and V versions that hold something else before, and w workers
abbrev pub lent : ℕ → ℕ → ℕ → State
lent n w room = state (repeat (2 * n) 7) (repeat (5 * room) 9) (repeat w idle)

pub record Ran : Type 0 where
  pub lines : List Line
  pub state : State

abbrev pub told : Line → Ran → Ran
told l r = record { lines = l ∷ r.lines; state = r.state }

abbrev pub run : ℕ → ℕ → List Call → State → Ran
run n w [] s = record { lines = []; state = s }
run n w (begin ∷ calls) s = told (said (open_of n w s).told) (run n w calls (open_of n w s).state)
run n w (start i o ∷ calls) s = told (said (start_of n w i o s).told) (run n w calls (start_of n w i o s).state)
run n w (step i ∷ calls) s = told (went (step_of n w i s).told) (run n w calls (step_of n w i s).state)

abbrev pub insert : ℕ → ℕ → Operation
insert k level = Operation.Update (Update.Insert k (record { 0 = level }))

abbrev pub steps : ℕ → ℕ → List Call
steps times i = repeat times (step i)

-- so many steps that do not answer yet
abbrev pub ons : ℕ → List Line
ons times = repeat times (went (gives on))
