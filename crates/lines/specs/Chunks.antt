-- What the bytes of the input do, one after the other: a newline ends a line, and any other byte goes into the line that is begun.
-- Document 01, "The listing program". Assumes nothing.
use Rattle.std.specs.Prelude.{List, [], ◌∷◌, ◌++◌, ℕ, ◌+◌, ◌*◌, eqb, ltb, leb, length, take, drop, replicate, Option, None}
use Rattle.std.proofs.Math.Seq.{paste}
use Rattle.grammar.specs.declared.Command.{Command}
use Rattle.grammar.specs.Grammar.{longest, line_of}
use Rattle.trie.specs.Choice.{pick}
use Rattle.trie.specs.Size.{most_workers}
use Rattle.trie.specs.Tables.{width}
use Rattle.trie.specs.Record.{idle}
use Rattle.lines.specs.declared.Begun.{Begun}
use Rattle.lines.specs.declared.Kept.{Kept}
use Rattle.lines.specs.declared.Watch.{Watch}
use Rattle.lines.specs.Watch.{watch, history, most_cells, most_versions}
use Rattle.lines.specs.Turns.{Answered, line_turn}

-- the line that is begun: its bytes so far, or that they are more than the longest line has
pub data Part : Type 0 where
  upto : List ℕ → Part
  over : Part

-- a byte more
abbrev pub more : Part → ℕ → Part
more (upto l) b = pick (ltb (length l) longest) (upto (l ++ (b ∷ []))) over
more over b = over

-- the line, once it has ended; one that is too long is no command, whatever its bytes are
abbrev pub line_at : Part → Option Command
line_at (upto l) = line_of l
line_at over = None

-- where a listing stands: the line that is begun, what is kept, and all that has been written
pub record Listing : Type 0 where
  pub part : Part
  pub watch : Watch
  pub written : List ℕ

abbrev pub listing : Part → Watch → List ℕ → Listing
listing p s written = record { part = p; watch = s; written = written }

-- a line has ended: its answer is written, and the next line begins
abbrev pub ended : Answered → List ℕ → Listing
ended a written = listing (upto []) a.watch (written ++ a.text)

-- one byte more; 10 is the newline
abbrev pub byte_of : Listing → ℕ → Listing
byte_of l b = pick (eqb b 10) (ended (line_turn (line_at l.part) l.watch) l.written) (listing (more l.part b) l.watch l.written)

unfoldable pub served_of : Listing → List ℕ → Listing
served_of l [] = l
served_of l (b ∷ bs) = served_of (byte_of l b) bs

-- ---- how the code keeps a line that is begun, and where it writes

abbrev pub zeros : List ℕ
zeros = replicate longest 0

abbrev pub part_of : Begun → Part
part_of b = pick (leb b.held longest) (upto (take b.held b.bytes)) over

abbrev pub begun_of : Part → Begun
begun_of (upto l) = record { bytes = paste zeros 0 l (length l); held = length l }
begun_of over = record { bytes = zeros; held = longest + 1 }

-- what is kept before the first chunk: no line is begun, no history is under way, the tables are blank, and every worker is idle
abbrev pub at_start : Kept
at_start = record {
  begun = record { bytes = zeros; held = 0 };
  watch = watch (history 0 0 0) (replicate (2 * most_cells) 0) (replicate (width * most_versions) 0) (replicate most_workers idle);
}

-- what is kept after a chunk, the buffer with what was written at its start, and where that ends
pub record Outcome : Type 0 where
  pub begun : Begun
  pub watch : Watch
  pub out : List ℕ
  pub filled : ℕ

-- what the code keeps after a chunk, with the buffer and where the text in it ends
abbrev pub came : Kept → List ℕ → ℕ → Outcome
came k out filled = record { begun = k.begun; watch = k.watch; out = out; filled = filled }

abbrev pub outcome : Listing → List ℕ → Outcome
outcome l out = record { begun = begun_of l.part; watch = l.watch; out = l.written ++ drop (length l.written) out; filled = length l.written }

unfoldable pub serve_of : Begun → Watch → List ℕ → List ℕ → Outcome
serve_of begun s out chunk = outcome (served_of (listing (part_of begun) s []) chunk) out

-- the input has ended, and a line of which bytes are held ends with it, as by a newline; after a final newline there is no further line
unfoldable pub finish_of : Begun → Watch → List ℕ → Outcome
finish_of begun s out = outcome (pick (eqb begun.held 0) (listing (part_of begun) s []) (byte_of (listing (part_of begun) s []) 10)) out
