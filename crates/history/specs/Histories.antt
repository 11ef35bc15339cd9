-- A history: one accepted open, then any list of start and step calls, with any numbers; a refused call is no part of it.
-- Document 01, the end of "Reaching the root". Assumes nothing.
use Rattle.std.specs.Prelude.{◌≡◌, List, [], ◌∷◌, ℕ, get_or}
use Rattle.decibel.specs.Told.{Told, refused, gives}
use Rattle.trie.specs.declared.Operation.{Operation}
use Rattle.trie.specs.declared.Phase.{Phase}
use Rattle.trie.specs.Record.{idle}
use Rattle.trie.specs.Values.{Ok, Course}
use Rattle.trie.specs.Calls.{State, open_of, start_of, step_of}
use Rattle.history.specs.Order.{Memory, nothing_yet, advance, lived, begin}

pub data Call : Type 0 where
  start : ℕ → Operation → Call
  step : ℕ → Call

-- a moment of a history: all that is lent, and what is remembered
pub record Moment : Type 0 where
  pub state : State
  pub memory : Memory

abbrev pub phase_of : ℕ → State → Phase
phase_of i s = (get_or s.board i idle).phase

-- an accepted call is remembered; a refused one is not
abbrev pub after_start : Told Ok → ℕ → Operation → Memory → Memory
after_start (refused number) i o m = m
after_start (gives told) i o m = begin i o m

abbrev pub after_step : Told Course → ℕ → ℕ → State → Memory → Memory
after_step (refused number) n i s m = m
after_step (gives course) n i s m = lived i course (advance n i (phase_of i s) s m)

abbrev pub called : ℕ → ℕ → Call → Moment → Moment
called n w (start i o) t =
    record { state = (start_of n w i o t.state).state; memory = after_start (start_of n w i o t.state).told i o t.memory }
called n w (step i) t =
    record { state = (step_of n w i t.state).state; memory = after_step (step_of n w i t.state).told n i t.state t.memory }

abbrev pub after : ℕ → ℕ → List Call → Moment → Moment
after n w [] t = t
after n w (c ∷ calls) t = after n w calls (called n w c t)

-- the calls after an opening of the lent state s
abbrev pub history : ℕ → ℕ → State → List Call → Moment
history n w s calls = after n w calls (record { state = (open_of n w s).state; memory = nothing_yet })

-- a call that is refused with this number
abbrev pub Refuses : ℕ → ℕ → Call → State → ℕ → Type 0
Refuses n w (start i o) s number = (start_of n w i o s).told ≡ refused number
Refuses n w (step i) s number = (step_of n w i s).told ≡ refused number

-- a step that is accepted, and what it tells
pub record Accepts (n w i : ℕ) (s : State) : Type 0 where
  pub course : Course
  pub is : (step_of n w i s).told ≡ gives course
