-- How the text of a line's answer is put into a buffer, and the most bytes that it takes.
-- Assumes nothing.
use Rattle.std.specs.Prelude.{List, ℕ, ◌≤◌}
use Rattle.grammar.specs.Text.{Put}

-- the most bytes that an answer takes
abbrev pub widest : ℕ
widest = 64

-- an answer's text stands at the start of the buffer and has n bytes, and the rest is as it was
pub record Answers (text before after : List ℕ) (n : ℕ) : Type 0 where
  pub put : Put text 0 before after n
  pub most : n ≤ widest
