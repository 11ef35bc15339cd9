-- A whole input: its lines, what they answer, and what the program writes that is given the input in chunks.
-- Document 01, "The listing program". Assumes nothing.
use Rattle.std.specs.Prelude.{List, [], ◌∷◌, ◌++◌, ℕ, eqb, take}
use Rattle.grammar.specs.Grammar.{line_of}
use Rattle.trie.specs.Choice.{pick}
use Rattle.lines.specs.declared.Begun.{Begun}
use Rattle.lines.specs.declared.Watch.{Watch}
use Rattle.lines.specs.Turns.{line_turn}
use Rattle.lines.specs.Chunks.{Outcome, serve_of, finish_of}

-- ---- the lines of an input

-- a line that is begun where the input ends is the last one; after a final newline there is none
abbrev pub last_of : List ℕ → List (List ℕ)
last_of [] = []
last_of (b ∷ bs) = (b ∷ bs) ∷ []

unfoldable pub lines_from : List ℕ → List ℕ → List (List ℕ)
lines_from begun [] = last_of begun
lines_from begun (b ∷ bs) = pick (eqb b 10) (begun ∷ lines_from [] bs) (lines_from (begun ++ (b ∷ [])) bs)

abbrev pub lines_of : List ℕ → List (List ℕ)
lines_of input = lines_from [] input

-- ---- their answers, one after the other

unfoldable pub answers_of : Watch → List (List ℕ) → List ℕ
answers_of s [] = []
answers_of s (l ∷ ls) = (line_turn (line_of l) s).text ++ answers_of (line_turn (line_of l) s).watch ls

-- ---- what the program writes: the filled part of its buffer after each chunk, and after the input's end

abbrev pub text_of : Outcome → List ℕ
text_of o = take o.filled o.out

unfoldable pub writes_of : Begun → Watch → List ℕ → List (List ℕ) → List ℕ
writes_of begun s out [] = text_of (finish_of begun s out)
writes_of begun s out (chunk ∷ chunks) =
    text_of (serve_of begun s out chunk)
    ++ writes_of (serve_of begun s out chunk).begun (serve_of begun s out chunk).watch (serve_of begun s out chunk).out chunks

-- the input that is given in these chunks
unfoldable pub joined : List (List ℕ) → List ℕ
joined [] = []
joined (chunk ∷ chunks) = chunk ++ joined chunks
