-- A worker's record: idle, what of it is judged without the tables, and what its update may still make.
-- Document 01, "Steps" and "Refusal numbers". Assumes nothing.
use Rattle.std.specs.Prelude.{Bool, true, false, ◌&&◌, ◌||◌, List, [], ◌∷◌, ℕ, zero, suc, ◌+◌, ◌-◌, ◌/◌, eqb, ltb, leb, Result}
use Rattle.decibel.specs.Conversion.{loudest}
use Rattle.trie.specs.declared.Update.{Update}
use Rattle.trie.specs.declared.Query.{Query}
use Rattle.trie.specs.declared.Operation.{Operation}
use Rattle.trie.specs.declared.Climb.{Climb}
use Rattle.trie.specs.declared.Phase.{Phase}
use Rattle.trie.specs.declared.Worker.{Worker}
use Rattle.trie.specs.declared.Damage.{Damage}
use Rattle.trie.specs.declared.Bounds.{Bounds}
use Rattle.trie.specs.Choice.{pick}
use Rattle.trie.specs.Refusing.{damaged}

abbrev pub worker : Phase → Worker
worker p = record { phase = p }

abbrev pub idle : Worker
idle = worker Phase.Idle

abbrev pub busy_phase : Phase → Bool
busy_phase Phase.Idle = false
busy_phase (Phase.Read u) = true
busy_phase (Phase.Swap u v) = true
busy_phase (Phase.Refresh c s) = true
busy_phase (Phase.Ask q) = true
busy_phase (Phase.Find k s) = true
busy_phase (Phase.Rank k s c e) = true
busy_phase (Phase.Select j s x c) = true

abbrev pub busy : Worker → Bool
busy w = busy_phase w.phase

abbrev pub cell_of : Update → ℕ
cell_of (Update.Insert k l) = k
cell_of (Update.Delete k) = k

-- a delete brings no level
abbrev pub loudness_of : Update → ℕ
loudness_of (Update.Insert k l) = l.0
loudness_of (Update.Delete k) = 0

-- the cell is below N, and the level at most 60
abbrev pub update_fits : ℕ → Update → Bool
update_fits n (Update.Insert k l) = ltb k n && leb l.0 loudest
update_fits n (Update.Delete k) = ltb k n

-- the cell is below N, and Select is not of 0
abbrev pub query_fits : ℕ → Query → Bool
query_fits n (Query.Find k) = ltb k n
query_fits n (Query.Select j) = leb 1 j
query_fits n (Query.Rank k) = ltb k n
query_fits n Query.Total = true

abbrev pub operation_fits : ℕ → Operation → Bool
operation_fits n (Operation.Update u) = update_fits n u
operation_fits n (Operation.Query q) = query_fits n q

abbrev pub leaf_of : Bounds → Update → ℕ
leaf_of b u = b.cells + cell_of u

-- x is the parent of y, or the parent's parent, and so on, d times at most
unfoldable pub above : ℕ → ℕ → ℕ → Bool
above zero y x = false
above (suc d) y x = eqb x (y / 2) || above d (y / 2) x

-- the climb's node is inner and on its cell's path: one of the h nodes above the leaf
unfoldable pub climb_fits : Bounds → Climb → Bool
climb_fits b c = update_fits b.cells c.update && (above b.height (leaf_of b c.update) c.node.0 && leb c.made b.share)

-- the versions that an update may still make
abbrev pub owed_phase : ℕ → Phase → Result ℕ Damage
owed_phase share Phase.Idle = Result.Ok 0
owed_phase share (Phase.Read u) = Result.Ok share
owed_phase share (Phase.Swap u v) = Result.Ok share
owed_phase share (Phase.Refresh c s) = pick (leb c.made share) (Result.Ok (share - c.made)) damaged
owed_phase share (Phase.Ask q) = Result.Ok 0
owed_phase share (Phase.Find k s) = Result.Ok 0
owed_phase share (Phase.Rank k s c e) = Result.Ok 0
owed_phase share (Phase.Select j s x c) = Result.Ok 0

abbrev pub together : Result ℕ Damage → Result ℕ Damage → Result ℕ Damage
together (Result.Err d) q = damaged
together (Result.Ok a) (Result.Err d) = damaged
together (Result.Ok a) (Result.Ok b) = Result.Ok (a + b)

-- what the first w records of the board may still make: the page's promised, or one update has made more than its share
abbrev pub promised_of : ℕ → ℕ → List Worker → Result ℕ Damage
promised_of share zero board = Result.Ok 0
promised_of share (suc w) [] = Result.Ok 0
promised_of share (suc w) (r ∷ board) = together (owed_phase share r.phase) (promised_of share w board)
