-- What is lent to the call that a line makes, and which lines make none.
-- Assumes nothing.
use Rattle.std.specs.Prelude.{Bool, false, ℕ, ◌*◌, Option, Some, None}
use Rattle.grammar.specs.declared.Command.{Command}
use Rattle.trie.specs.Tables.{width}
use Rattle.lines.specs.declared.History.{History}
use Rattle.lines.specs.Watch.{opened}
use Rattle.lines.specs.Turns.{room}

-- the words that are lent where V is v
abbrev pub words_of : ℕ → ℕ
words_of v = width * room v

-- a step of the history under way, which is served in a run of steps and makes no call here
abbrev pub stepping : Option Command → History → Bool
stepping (Some (Command.Step i)) h = opened h
stepping (Some (Command.Start i o)) h = false
stepping (Some (Command.Open n w v)) h = false
stepping None h = false
