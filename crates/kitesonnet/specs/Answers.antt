-- An answer in words: its kind and two values.
-- docs/WORDS.md, "An answer". Assumes nothing.
use Rattle.std.specs.Prelude.{List, ℕ, set}
use Rattle.trie.specs.Values.{Value, Course}

-- the words of an answer
abbrev pub answer_words : ℕ
answer_words = 3

-- the kinds of answers
abbrev pub on_kind : ℕ
on_kind = 0

abbrev pub yes_kind : ℕ
yes_kind = 1

abbrev pub no_kind : ℕ
no_kind = 2

abbrev pub none_kind : ℕ
none_kind = 3

abbrev pub level_kind : ℕ
level_kind = 4

abbrev pub cell_kind : ℕ
cell_kind = 5

abbrev pub sums_kind : ℕ
sums_kind = 6

abbrev pub energy_kind : ℕ
energy_kind = 7

-- the answer's row with the three words at its start; the rest untouched
unfoldable pub answer_put : List ℕ → ℕ → ℕ → ℕ → List ℕ
answer_put answer kind first second = set (set (set answer 0 kind) 1 first) 2 second

abbrev pub value_put : List ℕ → Value → List ℕ
value_put answer Value.yes' = answer_put answer yes_kind 0 0
value_put answer Value.no' = answer_put answer no_kind 0 0
value_put answer Value.none = answer_put answer none_kind 0 0
value_put answer (Value.level l) = answer_put answer level_kind l 0
value_put answer (Value.cell k) = answer_put answer cell_kind k 0
value_put answer (Value.sums c e) = answer_put answer sums_kind c e

-- what a step tells: the operation goes on, or its answer
abbrev pub course_put : List ℕ → Course → List ℕ
course_put answer Course.on = answer_put answer on_kind 0 0
course_put answer (Course.done v) = value_put answer v

-- what a conversion tells
abbrev pub energy_put : List ℕ → ℕ → List ℕ
energy_put answer energy = answer_put answer energy_kind energy 0
