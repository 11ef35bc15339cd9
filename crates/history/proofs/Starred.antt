-- The starred soundings of document 01: one table under one statement, with the order in which each one's updates reach the root.
-- The table's rows are those of crate trie, where all but the order is known. Assumes nothing.
use Rattle.std.specs.Prelude.{◌≡◌, refl, List, [], ◌∷◌, ℕ}
use Rattle.std.proofs.Math.Decide.{ℕ_discrete}
use Rattle.std.specs.Int.Count.{ones, count_trailing_zeros}
use Rattle.decibel.specs.Energy.{energy_of}
use Rattle.trie.specs.declared.Operation.{Operation}
use Rattle.trie.specs.Size.{allowed, height_of}
use Rattle.trie.specs.Tables.{room_of, version_at, version_put, roomy}
use Rattle.trie.specs.Sound.{bounds_of, used_sound, sound_at, sound_in}
use Rattle.trie.specs.Record.{above, climb_fits}
use Rattle.trie.specs.Opening.{filled}
use Rattle.trie.specs.Starting.{start_record_of}
use Rattle.trie.specs.Leaf.{read_of, swap_of}
use Rattle.trie.specs.Refreshing.{join_of, refresh_of}
use Rattle.trie.specs.Asking.{ask_of, look_of, find_of, rank_of, select_of}
use Rattle.trie.specs.Stepping.{plan_of, carry_of, step_record_of}
use Rattle.trie.specs.Calls.{open_of, start_of, step_of, manned}
use Rattle.trie.specs.Runs as runs
use Rattle.trie.proofs.Soundings.{Sounding, energies, listing, AllHold, table, soundings}
use Rattle.history.specs.Order.{Placed}
use Rattle.history.specs.Histories.{Call, start, step, history}

-- the calls of a listing that come after its opening
abbrev calls_of : List runs.Call → List Call
calls_of [] = []
calls_of (runs.begin ∷ calls) = calls_of calls
calls_of (runs.start i o ∷ calls) = start i o ∷ calls_of calls
calls_of (runs.step i ∷ calls) = step i ∷ calls_of calls

-- the updates in the order, by the numbers of their starts
abbrev change : Operation → ℕ → List ℕ → List ℕ
change (Operation.Update u) id others = id ∷ others
change (Operation.Query q) id others = others

abbrev changes : List Placed → List ℕ
changes [] = []
changes (p ∷ order) = change p.operation p.id (changes order)

abbrev pub order_of : Sounding → List ℕ
order_of (energies levels page) = []
order_of (listing n w room calls lines nodes) = changes (history n w (runs.lent n w room) (calls_of calls)).memory.order

abbrev pub orders_of : List Sounding → List (List ℕ)
orders_of [] = []
orders_of (s ∷ rows) = order_of s ∷ orders_of rows

-- in D1 A, B and C are the starts 0, 1 and 2; in R1 the update that lost stands behind the one that won
abbrev pub orders : List (List ℕ)
orders = [] ∷ [] ∷ (0 ∷ []) ∷ (0 ∷ 1 ∷ []) ∷ (0 ∷ 1 ∷ []) ∷ (0 ∷ 1 ∷ []) ∷ (0 ∷ 1 ∷ 2 ∷ []) ∷ [] ∷ [] ∷ []

pub record Starred : Type 0 where
  pub rows : AllHold table
  pub order : orders_of table ≡ orders

-- E1, E2, S1 to S3, R1, D1, L1 and L4
pub starred : Starred
unfolding ℕ_discrete ones count_trailing_zeros energy_of above climb_fits allowed height_of room_of version_at version_put roomy bounds_of used_sound sound_at sound_in filled start_record_of read_of swap_of join_of refresh_of ask_of look_of find_of rank_of select_of plan_of carry_of step_record_of open_of start_of step_of manned
starred = record { rows = soundings; order = refl }
