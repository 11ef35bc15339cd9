-- The operation of a start, out of its three numbers: the table of docs/WORDS.md.
-- Assumes nothing.
use Rattle.std.specs.Prelude.{◌&&◌, ℕ, eqb, leb, Option, None, Some}
use Rattle.std.specs.Option.{option_map}
use Rattle.trie.specs.declared.Update.{Update}
use Rattle.trie.specs.declared.Query.{Query}
use Rattle.trie.specs.declared.Operation.{Operation}
use Rattle.trie.specs.Choice.{pick}

-- the kinds of operations
abbrev pub insert_kind : ℕ
insert_kind = 1

abbrev pub delete_kind : ℕ
delete_kind = 2

abbrev pub find_kind : ℕ
find_kind = 3

abbrev pub select_kind : ℕ
select_kind = 4

abbrev pub rank_kind : ℕ
rank_kind = 5

abbrev pub total_kind : ℕ
total_kind = 6

-- a delete has no level
unfoldable pub update_of : ℕ → ℕ → ℕ → Option Update
update_of kind cell level =
    pick (eqb kind insert_kind) (Some (Update.Insert cell (record { 0 = level }))) (pick (eqb kind delete_kind && eqb level 0) (Some (Update.Delete cell)) None)

-- a total has no number
unfoldable pub query_of : ℕ → ℕ → Option Query
query_of kind number =
    pick (eqb kind find_kind) (Some (Query.Find number))
    (pick (eqb kind select_kind) (Some (Query.Select number))
    (pick (eqb kind rank_kind) (Some (Query.Rank number))
    (pick (eqb kind total_kind && eqb number 0) (Some Query.Total) None)))

unfoldable pub operation_of : ℕ → ℕ → ℕ → Option Operation
operation_of kind number level = pick (leb kind delete_kind) (option_map Operation.Update (update_of kind number level)) (pick (eqb level 0) (option_map Operation.Query (query_of kind number)) None)
