-- The grammar of a line: words parted by exactly one space, numbers of 1 to 18 decimal digits, and at most 40 bytes.
-- Document 01, "The listing program". Assumes nothing.
--   open N W V      start w insert k L    start w delete k    start w find k
--   step w          start w select j      start w rank k      start w total
use Rattle.std.specs.Prelude.{◌&&◌, List, [], ◌∷◌, ℕ, ◌+◌, ◌-◌, ◌*◌, ltb, leb, length, take, drop, codes, bytes_eq, Option, Some, None, option_map, option_and_then}
use Rattle.std.specs.Option.{option_or}
use Rattle.trie.specs.Choice.{pick}
use Rattle.trie.specs.declared.Operation.{Operation}
use Rattle.trie.specs.declared.Query.{Query}
use Rattle.trie.specs.declared.Update.{Update}
use Rattle.grammar.specs.declared.Command.{Command}

-- ---- reading: each reader gives what it reads, or nothing

-- the second reading goes on from what the first gives, and gives nothing where that gives nothing
infixl 10 ◌>>=◌
abbrev pub ◌>>=◌ : {A B : Type 0} → Option A → (A → Option B) → Option B
o >>= f = option_and_then f o

-- the first reading, or where it gives nothing the second
infixl 9 ◌<|>◌
abbrev pub ◌<|>◌ : {A : Type 0} → Option A → Option A → Option A
o <|> p = option_or o p

-- what follows the word, where the bytes start with it
abbrev pub after : List ℕ → List ℕ → Option (List ℕ)
after word s = pick (bytes_eq (take (length word) s) word) (Some (drop (length word) s)) None

-- x, where no bytes are left
abbrev pub whole : {A : Type 0} → A → List ℕ → Option A
whole x [] = Some x
whole x (b ∷ s) = None

-- ---- numbers

-- the most digits of a number
abbrev pub most_digits : ℕ
most_digits = 18

-- a number after k digits of value v, with what follows it: it has 1 to 18 of them
unfoldable pub ended : ℕ → ℕ → List ℕ → Option (ℕ × List ℕ)
ended k v s = pick (leb 1 k && leb k most_digits) (Some (v, s)) None

-- the number that a byte stands for as a digit; `0` is 48 and `9` is 57
abbrev pub digit_of : ℕ → Option ℕ
digit_of x = pick (leb 48 x && leb x 57) (Some (x - 48)) None

-- the digits at the start of the bytes, after k digits of value v; `0` is 48 and `9` is 57
unfoldable pub digits : ℕ → ℕ → List ℕ → Option (ℕ × List ℕ)
digits k v [] = ended k v []
digits k v (b ∷ s) = pick (leb 48 b && leb b 57) (digits (k + 1) (v * 10 + (b - 48)) s) (ended k v (b ∷ s))

-- a number at the start of the bytes, and what follows it
unfoldable pub number_of : List ℕ → Option (ℕ × List ℕ)
number_of s = digits 0 0 s

-- one number and no more
abbrev pub one_of : List ℕ → Option ℕ
one_of s = do
  number ← number_of s
  whole number.0 number.1

-- a number with the one space that has to follow it, and what follows that
abbrev pub first_of : List ℕ → Option (ℕ × List ℕ)
first_of s = do
  number ← number_of s
  rest ← after (codes " ") number.1
  Some (number.0, rest)

-- two numbers, parted by one space, and no more
abbrev pub two_of : List ℕ → Option (ℕ × ℕ)
two_of s = do
  first ← first_of s
  second ← one_of first.1
  Some (first.0, second)

abbrev pub three_of : List ℕ → Option (ℕ × ℕ × ℕ)
three_of s = do
  first ← first_of s
  others ← two_of first.1
  Some (first.0, others.0, others.1)

-- ---- operations

-- the word, and then one number and no more
abbrev pub argument_of : List ℕ → List ℕ → Option ℕ
argument_of word s = after word s >>= one_of

abbrev pub insert_of : List ℕ → Option Update
insert_of s = do
  rest ← after (codes " insert ") s
  arguments ← two_of rest
  Some (Update.Insert arguments.0 (record { 0 = arguments.1 }))

abbrev pub update_of : List ℕ → Option Update
update_of s = insert_of s <|> option_map Update.Delete (argument_of (codes " delete ") s)

-- nothing follows the word
abbrev pub total_of : List ℕ → Option Query
total_of s = after (codes " total") s >>= whole Query.Total

abbrev pub query_of : List ℕ → Option Query
query_of s =
    option_map Query.Find (argument_of (codes " find ") s)
    <|> option_map Query.Select (argument_of (codes " select ") s)
    <|> option_map Query.Rank (argument_of (codes " rank ") s)
    <|> total_of s

abbrev pub operation_of : List ℕ → Option Operation
operation_of s = option_map Operation.Update (update_of s) <|> option_map Operation.Query (query_of s)

-- ---- commands

abbrev pub step_of : List ℕ → Option Command
step_of s = option_map Command.Step (argument_of (codes "step ") s)

-- the worker's number, then its operation
abbrev pub start_of : List ℕ → Option Command
start_of s = do
  rest ← after (codes "start ") s
  worker ← number_of rest
  operation ← operation_of worker.1
  Some (Command.Start worker.0 operation)

abbrev pub open_of : List ℕ → Option Command
open_of s = do
  rest ← after (codes "open ") s
  sizes ← three_of rest
  Some (Command.Open sizes.0 sizes.1 sizes.2)

abbrev pub command_of : List ℕ → Option Command
command_of s = step_of s <|> start_of s <|> open_of s

-- the most bytes of a line that can be a command
abbrev pub longest : ℕ
longest = 40

-- a longer line is no command
unfoldable pub line_of : List ℕ → Option Command
line_of s = pick (ltb longest (length s)) None (command_of s)
