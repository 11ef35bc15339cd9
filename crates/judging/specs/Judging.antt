-- The refusals of a call that are told from N, W, the worker's number and the lengths of what is lent.
-- Assumes nothing.
use Rattle.std.specs.Prelude.{Bool, ◌&&◌, ℕ, ltb, leb, ⊤, Result}
use Rattle.trie.specs.declared.Refusal.{Refusal}
use Rattle.trie.specs.Choice.{pick}
use Rattle.trie.specs.Size.{allowed, most_workers}
use Rattle.trie.specs.Tables.{roomy_by}

-- W is 1 to 16, and the board has as many records
unfoldable pub manned_by : ℕ → ℕ → Bool
manned_by w seats = (leb 1 w && leb w most_workers) && leb w seats

-- where there is no such worker: the first of the refusals
unfoldable pub absent_of : ℕ → Bool → ℕ → ℕ → Refusal
absent_of n manned nodes versions =
    pick (allowed n) (pick manned (pick (roomy_by n nodes versions) Refusal.Worker Refusal.Tables) Refusal.Workers) Refusal.Cells

unfoldable pub judge_of : ℕ → ℕ → ℕ → ℕ → ℕ → ℕ → Result ⊤ Refusal
judge_of n w i nodes versions seats =
    pick (manned_by w seats && ltb i w) (Result.Ok tt) (Result.Err (absent_of n (manned_by w seats) nodes versions))
