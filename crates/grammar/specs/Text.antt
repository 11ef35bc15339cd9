-- The text of an answer: `ok`, `on`, `done` with the values, or `refused` and the number; each ends with a newline.
-- Document 01, "The listing program". Assumes nothing.
use Rattle.std.specs.Prelude.{◌≡◌, List, [], ◌∷◌, ◌++◌, ℕ, ◌+◌, length, codes}
-- numbers are written as `{}` writes them
pub use Rattle.std.specs.Prelude.{decimal}
use Rattle.std.proofs.Math.Seq.{paste}
use Rattle.decibel.specs.Told.{Told, refused, gives}
use Rattle.trie.specs.Values.{Value, yes', no', none, level, cell, sums, Ok, ok, Course, on, done}

abbrev pub newline : List ℕ
newline = 10 ∷ []

abbrev pub ok_word : List ℕ
ok_word = codes "ok"

abbrev pub on_word : List ℕ
on_word = codes "on"

abbrev pub done_word : List ℕ
done_word = codes "done "

abbrev pub refused_word : List ℕ
refused_word = codes "refused "

-- the values that a step gives; of a sum its count, and then its energy
unfoldable pub value_text : Value → List ℕ
value_text yes' = codes "yes"
value_text no' = codes "no"
value_text none = codes "none"
value_text (level l) = decimal l
value_text (cell k) = decimal k
value_text (sums count energy) = decimal count ++ (32 ∷ decimal energy)

-- what open and start tell, before the newline
abbrev pub accepted_words : Told Ok → List ℕ
accepted_words (refused number) = refused_word ++ decimal number
accepted_words (gives ok) = ok_word

-- what a step tells, before the newline
abbrev pub course_words : Told Course → List ℕ
course_words (refused number) = refused_word ++ decimal number
course_words (gives on) = on_word
course_words (gives (done v)) = done_word ++ value_text v

-- ---- the same as lines

abbrev pub refused_text : ℕ → List ℕ
refused_text number = accepted_words (refused number) ++ newline

unfoldable pub accepted_text : Told Ok → List ℕ
accepted_text told = accepted_words told ++ newline

unfoldable pub course_text : Told Course → List ℕ
course_text told = course_words told ++ newline

-- one of the lines of a step, so it unfolds with them
unfoldable abbrev pub done_text : Value → List ℕ
unfolding course_text
done_text v = course_text (gives (done v))

-- text stands in the buffer at `at`, which ends at r, and the rest is as it was
pub record Put (text : List ℕ) (at : ℕ) (before after : List ℕ) (r : ℕ) : Type 0 where
  pub ends : r ≡ at + length text
  pub holds : after ≡ paste before at text (length text)
