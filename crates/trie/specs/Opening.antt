-- What open leaves in the tables and on the board: word i is set to its first value, for each i below a count.
-- Document 01, "Tables". Assumes nothing.
use Rattle.std.specs.Prelude.{Bool, true, false, List, ℕ, zero, suc, ◌+◌, ◌*◌, ◌-◌, ◌/◌, ◌%◌, eqb, ltb, set}
use Rattle.trie.specs.declared.Worker.{Worker}
use Rattle.trie.specs.Choice.{pick}
use Rattle.decibel.specs.Told.{Told, refused, gives}
use Rattle.trie.specs.Size.{allowed}
use Rattle.trie.specs.Tables.{width, roomy}
use Rattle.trie.specs.Values.{Ok, ok}
use Rattle.trie.specs.Record.{idle}

-- the first k of a row set to f 0, f 1 and so on; the rest untouched
unfoldable pub filled : {A : Type 0} → (ℕ → A) → ℕ → List A → List A
filled f zero row = row
filled f (suc k) row = set (filled f k row) k (f k)

-- word 0 counts the versions used, 2N - 1; node x has version x
abbrev pub first_node : ℕ → ℕ → ℕ
first_node n x = pick (eqb x 0) (2 * n - 1) x

-- version x has the children 2x and 2x + 1 where x is inner; its other words are 0
abbrev pub first_child : ℕ → ℕ → ℕ → ℕ
first_child n x word = pick (ltb x n) (pick (ltb word 2) (2 * x + word) 0) 0

abbrev pub first_word : ℕ → ℕ → ℕ
first_word n i = first_child n (i / width + 1) (i % width)

abbrev pub open_nodes : ℕ → List ℕ → List ℕ
open_nodes n nodes = filled (first_node n) (2 * n) nodes

abbrev pub open_versions : ℕ → List ℕ → List ℕ
open_versions n versions = filled (first_word n) (width * (2 * n - 1)) versions

-- what opening the tables tells, and the tables after it, in the order 1, 3
pub record Opened : Type 0 where
  pub told : Told Ok
  pub nodes : List ℕ
  pub versions : List ℕ

abbrev pub check_tables : Bool → ℕ → List ℕ → List ℕ → Opened → Opened
check_tables true number nodes versions s = s
check_tables false number nodes versions s = record { told = refused number; nodes = nodes; versions = versions }

unfoldable pub open_tables_of : ℕ → List ℕ → List ℕ → Opened
open_tables_of n nodes versions =
    check_tables (allowed n) 1 nodes versions
    (check_tables (roomy n nodes versions) 3 nodes versions
    (record { told = gives ok; nodes = open_nodes n nodes; versions = open_versions n versions }))

abbrev pub open_board : ℕ → List Worker → List Worker
open_board w board = filled (λ i. idle) w board
