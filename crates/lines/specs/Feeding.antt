-- Several bytes of a line at once, and where a line of a chunk ends.
-- Assumes nothing.
use Rattle.std.specs.Prelude.{◌≡◌, Bool, true, false, List, [], ◌∷◌, ℕ, ◌-◌, ◌≤◌, ◌<◌, eqb, length, take, drop, get_or}
use Rattle.trie.specs.Choice.{pick}
use Rattle.lines.specs.declared.Begun.{Begun}
use Rattle.lines.specs.Chunks.{Part, upto, more, part_of}

-- no byte is a newline
unfoldable pub plain : List ℕ → Bool
plain [] = true
plain (b ∷ bs) = pick (eqb b 10) false (plain bs)

-- the line that is begun, with some bytes more
unfoldable pub grown : Part → List ℕ → Part
grown p [] = p
grown p (b ∷ bs) = grown (more p b) bs

-- the bytes from i up to e
abbrev pub between : List ℕ → ℕ → ℕ → List ℕ
between chunk i e = take (e - i) (drop i chunk)

-- the line from i on ends at e, by a newline or with the chunk
pub record Ends (chunk : List ℕ) (i e : ℕ) : Type 0 where
  pub onward : i ≤ e
  pub within : e ≤ length chunk
  pub bytes : plain (between chunk i e) ≡ true
  pub newline : e < length chunk → get_or chunk e 0 ≡ 10

-- what of a line came before the byte at `from`: all that is begun where that is the first byte of a chunk, and else nothing
abbrev pub before : Begun → ℕ → Part
before begun from = pick (eqb from 0) (part_of begun) (upto [])
