-- The book: cells with levels, at first none; what each operation does to it, and what it answers from it.
-- Document 01, "Reaching the root" and "Steps". Assumes nothing.
use Rattle.std.specs.Prelude.{Bool, true, false, ℕ, zero, suc, ◌+◌, leb}
use Rattle.std.proofs.Math.Option.{Option, some, none}
use Rattle.std.proofs.Math.Decide.{ℕ_discrete}
use Rattle.decibel.specs.Energy.{energy_of}
use Rattle.trie.specs.declared.Update.{Update}
use Rattle.trie.specs.declared.Version.{Version}
use Rattle.trie.specs.declared.Query.{Query}
use Rattle.trie.specs.declared.Operation.{Operation}
use Rattle.trie.specs.Choice.{pick}
use Rattle.trie.specs.Record.{cell_of}
use Rattle.trie.specs.Leaf.{marked}
use Rattle.trie.specs.Values.{Value, yes', no', none, level, cell, sums}

-- the level of each cell, or none
abbrev pub Book : Type 0
Book = ℕ → Option ℕ

abbrev pub blank : Book
blank k = none

-- the cell is already as the update wants it: marked at any level for Insert, unmarked for Delete
abbrev pub fits : Update → Option ℕ → Bool
fits (Update.Insert k l) none = false
fits (Update.Insert k l) (some m) = true
fits (Update.Delete k) none = true
fits (Update.Delete k) (some m) = false

abbrev pub want : Update → Option ℕ
want (Update.Insert k l) = some l.0
want (Update.Delete k) = none

-- the cell after the update: an existing level is never altered
abbrev pub after : Update → Option ℕ → Option ℕ
after u m = pick (fits u m) m (want u)

abbrev pub turn : {P : Type 0} → Dec P → Update → Option ℕ → Option ℕ
turn (yes p) u m = after u m
turn (no n) u m = m

abbrev pub write : Book → Update → Book
write B u k = turn (ℕ_discrete (cell_of u) k) u (B k)

abbrev pub effect : Operation → Book → Book
effect (Operation.Update u) B = write B u
effect (Operation.Query q) B = B

-- what a leaf's version shows of its cell
abbrev pub level_if : Bool → ℕ → Option ℕ
level_if true l = some l
level_if false l = none

abbrev pub mark : Version → Option ℕ
mark v = level_if (marked v) v.level.0

-- the sum of f over the cells numbered below k
abbrev pub sum : (Option ℕ → ℕ) → ℕ → Book → ℕ
sum f zero B = 0
sum f (suc k) B = sum f k B + f (B k)

abbrev pub ones : Option ℕ → ℕ
ones none = 0
ones (some l) = 1

-- the conversion is a parameter: a level's energy is taken cell by cell, and then added
abbrev pub weights : (ℕ → ℕ) → Option ℕ → ℕ
weights weight none = 0
weights weight (some l) = weight l

-- the cell below n at which the count of marked cells comes to j
abbrev pub select : ℕ → ℕ → Book → Value
select zero j B = none
select (suc k) j B = pick (leb j (sum ones k B)) (select k j B) (pick (leb j (sum ones (suc k) B)) (cell k) none)

abbrev pub level_in : Option ℕ → Value
level_in none = none
level_in (some l) = level l

abbrev pub sums_below : ℕ → Book → Value
sums_below k B = sums (sum ones k B) (sum (weights energy_of) k B)

-- what the operation answers from a book of n cells
abbrev pub answer : ℕ → Operation → Book → Value
answer n (Operation.Update u) B = pick (fits u (B (cell_of u))) no' yes'
answer n (Operation.Query (Query.Find k)) B = level_in (B k)
answer n (Operation.Query (Query.Rank k)) B = sums_below (suc k) B
answer n (Operation.Query (Query.Select j)) B = select n j B
answer n (Operation.Query Query.Total) B = sums_below n B
