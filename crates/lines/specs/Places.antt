-- The places of a chunk: the line that is next, where it begins and ends, and how far the lines before it are served.
-- Assumes nothing.
use Rattle.std.specs.Prelude.{◌≡◌, Option, Some, None, Result, ⊤, List, [], ℕ, ◌+◌, ◌*◌, ◌≤◌, ◌<◌, length, take, drop}
use Rattle.grammar.specs.declared.Command.{Command}
use Rattle.grammar.specs.Grammar.{line_of}
use Rattle.lines.specs.declared.Begun.{Begun}
use Rattle.lines.specs.declared.History.{History}
use Rattle.trie.specs.declared.Progress.{Progress}
use Rattle.trie.specs.declared.Refusal.{Refusal}
use Rattle.trie.specs.Choice.{pick}
use Rattle.trie.specs.Values.{accepted_of, progress_of}
use Rattle.lines.specs.declared.Place.{Place}
use Rattle.lines.specs.declared.Run.{Run}
use Rattle.lines.specs.declared.Step.{Step}
use Rattle.grammar.specs.Text.{Put, accepted_text, course_text}
use Rattle.lines.specs.Replies.{widest}
use Rattle.lines.specs.declared.Watch.{Watch}
use Rattle.lines.specs.Watch.{opened}
use Rattle.lines.specs.Chunks.{line_at, listing, served_of, part_of}
use Rattle.lines.specs.Feeding.{grown, between, Ends, before}

-- a short step is the line from i on, and its newline is in the chunk
abbrev pub Found : List ℕ → ℕ → Option Step → Type 0
Found chunk i None = Unit {0}
Found chunk i (Some s) = Ends chunk i s.end × (s.end < length chunk) × (line_of (between chunk i s.end) ≡ Some (Command.Step s.worker))

-- the place of a line that lies whole in the chunk
pub record Placed (chunk : List ℕ) (from at : ℕ) (p : Place) : Type 0 where
  pub begins : p.from ≡ from
  pub filled : p.filled ≡ at
  pub ends : Ends chunk from p.end
  pub line : p.line ≡ line_of (between chunk from p.end)

-- the place of the first line, of which some bytes may have come before
pub record First (begun : Begun) (chunk : List ℕ) (p : Place) : Type 0 where
  pub begins : p.from ≡ 0
  pub filled : p.filled ≡ 0
  pub ends : Ends chunk 0 p.end
  pub line : p.line ≡ line_at (grown (part_of begun) (take p.end chunk))

-- a line's answer is written, and the next place is that of the line behind it
pub record Goes (turn : Result ⊤ Refusal) (p : Place) (chunk out out' : List ℕ) (r : Place) : Type 0 where
  pub placed : Placed chunk (p.end + 1) r.filled r
  pub put : Put (accepted_text (accepted_of turn)) p.filled out out' r.filled
  pub most : r.filled ≤ p.filled + widest

-- the lines before a place are served: what is left has the outcome of the whole, and the buffer is as it was behind what is written
pub record Runs (begun : Begun) (chunk : List ℕ) (s₀ : Watch) (out₀ : List ℕ) (p : Place) (s : Watch) (out : List ℕ) : Type 0 where
  pub ends : Ends chunk p.from p.end
  pub line : p.line ≡ line_at (grown (before begun p.from) (between chunk p.from p.end))
  pub room : p.filled ≤ widest * p.from
  pub same : served_of (listing (before begun p.from) s (take p.filled out)) (drop p.from chunk) ≡ served_of (listing (part_of begun) s₀ []) chunk
  pub behind : drop p.filled out ≡ drop p.filled out₀

-- ---- runs of steps

-- the step that a line with this end is, where it steps the history under way
abbrev pub step_of_line : Option Command → ℕ → History → Option Step
step_of_line (Some (Command.Step i)) end h = pick (opened h) (Some (record { worker = i; end = end })) None
step_of_line (Some (Command.Start i o)) end h = None
step_of_line (Some (Command.Open n w v)) end h = None
step_of_line None end h = None

-- the run that the line at a place begins
abbrev pub run_of : Place → History → Run
run_of p h = record { from = p.from; step = step_of_line p.line p.end h; filled = p.filled }

-- a step's answer is written, and the run goes on behind its line where a short step lies whole in the chunk
pub record Passes (progress : Result Progress Refusal) (s : Step) (at : ℕ) (chunk out out' : List ℕ) (q : Run) : Type 0 where
  pub begins : q.from ≡ s.end + 1
  pub step : Found chunk q.from q.step
  pub put : Put (course_text (progress_of progress)) at out out' q.filled
  pub most : q.filled ≤ at + widest

-- where a run may stand
pub record Steady (chunk : List ℕ) (r : Run) : Type 0 where
  pub within : r.from ≤ length chunk
  pub room : r.filled ≤ widest * r.from
  pub ahead : (s : Step) → r.step ≡ Some s → (r.from ≤ s.end) × (s.end < length chunk)

-- the lines before a run's step are served, as `Runs` has it for a place
pub record Ran (begun : Begun) (chunk : List ℕ) (s₀ : Watch) (out₀ : List ℕ) (r : Run) (s : Watch) (out : List ℕ) : Type 0 where
  pub step : (t : Step) → r.step ≡ Some t → Ends chunk r.from t.end × (line_at (grown (before begun r.from) (between chunk r.from t.end)) ≡ Some (Command.Step t.worker))
  pub same : served_of (listing (before begun r.from) s (take r.filled out)) (drop r.from chunk) ≡ served_of (listing (part_of begun) s₀ []) chunk
  pub behind : drop r.filled out ≡ drop r.filled out₀
