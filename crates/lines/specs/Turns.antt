-- What one line does: its text, and what is kept after it.
-- Document 01, "The listing program". Assumes nothing.
use Rattle.std.specs.Prelude.{List, ℕ, leb, Option, Some, None, Result}
use Rattle.decibel.specs.Told.{Told, refused, gives}
use Rattle.grammar.specs.declared.Command.{Command}
use Rattle.trie.specs.declared.Operation.{Operation}
use Rattle.trie.specs.declared.Refusal.{Refusal}
use Rattle.trie.specs.declared.Worker.{Worker}
use Rattle.trie.specs.Choice.{pick}
use Rattle.trie.specs.Refusing.{number_of}
use Rattle.trie.specs.Values.{Ok, ok, Course}
use Rattle.trie.specs.Calls.{After, open_of, start_of, step_of}
use Rattle.lines.specs.declared.History.{History}
use Rattle.grammar.specs.Text.{refused_text, accepted_text, course_text}
use Rattle.lines.specs.declared.Watch.{Watch}
use Rattle.lines.specs.Watch.{watch, history, most_cells, most_versions, opened, lent, returned}

pub record Answered : Type 0 where
  pub text : List ℕ
  pub watch : Watch

abbrev pub answered : List ℕ → Watch → Answered
answered text s = record { text = text; watch = s }

-- a refused line changes nothing
abbrev pub refuses : ℕ → Watch → Answered
refuses number s = answered (refused_text number) s

-- N, W and V are kept only where the open is accepted
abbrev pub opened_as : ℕ → ℕ → ℕ → Told Ok → Watch → Watch → Answered
opened_as n w v (refused number) before s = refuses number before
opened_as n w v (gives a) before s = answered (accepted_text (gives a)) (watch (history n w v) s.nodes s.versions s.board)

-- more versions than there are here are not lent at all, so that open refuses them with 3
abbrev pub room : ℕ → ℕ
room v = pick (leb v most_versions) v 0

abbrev pub opens : ℕ → ℕ → ℕ → Watch → After Ok → Answered
opens n w v s a = opened_as n w v a.told s (returned (room v) a.state s)

unfoldable pub open_line : ℕ → ℕ → ℕ → Watch → Answered
open_line n w v s = pick (leb n most_cells) (opens n w v s (open_of n w (lent (room v) s))) (refuses 1 s)

abbrev pub starts : Watch → After Ok → Answered
starts s a = answered (accepted_text a.told) (returned s.history.versions a.state s)

abbrev pub steps : Watch → After Course → Answered
steps s a = answered (course_text a.told) (returned s.history.versions a.state s)

-- a start or a step before the first accepted open gives 10
unfoldable pub start_line : ℕ → Operation → Watch → Answered
start_line i o s =
    pick (opened s.history) (starts s (start_of s.history.cells s.history.workers i o (lent s.history.versions s))) (refuses 10 s)

unfoldable pub step_line : ℕ → Watch → Answered
step_line i s =
    pick (opened s.history) (steps s (step_of s.history.cells s.history.workers i (lent s.history.versions s))) (refuses 10 s)

-- a line that is no command gives 10
unfoldable pub line_turn : Option Command → Watch → Answered
line_turn (Some (Command.Step i)) s = step_line i s
line_turn (Some (Command.Start i o)) s = start_line i o s
line_turn (Some (Command.Open n w v)) s = open_line n w v s
line_turn None s = refuses 10 s

-- ---- an open that the code carries out: the history that it begins, or its refusal

-- what is told of it
abbrev pub told_by : Result History Refusal → Told Ok
told_by (Result.Err refusal) = refused (number_of refusal)
told_by (Result.Ok kept) = gives ok

-- the history after it, where h was before it
abbrev pub history_by : Result History Refusal → History → History
history_by (Result.Err refusal) h = h
history_by (Result.Ok kept) h = kept

-- what it comes to, with the tables and the board after it
abbrev pub turned : Result History Refusal → History → List ℕ → List ℕ → List Worker → Answered
turned turn h nodes versions board = answered (accepted_text (told_by turn)) (watch (history_by turn h) nodes versions board)
