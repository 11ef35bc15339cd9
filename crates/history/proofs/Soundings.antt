-- The theorem is not about nothing: a worker that stops for ever, and each clause of the order, as histories that compute.
-- Assumes nothing.
use Rattle.std.specs.Prelude.{◌≡◌, refl, List, [], ◌∷◌, ◌++◌, ℕ}
use Rattle.std.proofs.Math.Option.{Option, some, none}
use Rattle.std.proofs.Math.Decide.{ℕ_discrete}
use Rattle.std.specs.Int.Count.{ones, count_trailing_zeros}
use Rattle.decibel.specs.Energy.{energy_of}
use Rattle.trie.specs.declared.Update.{Update}
use Rattle.trie.specs.declared.Query.{Query}
use Rattle.trie.specs.declared.Operation.{Operation}
use Rattle.trie.specs.Record.{above, climb_fits}
use Rattle.trie.specs.Size.{allowed, height_of}
use Rattle.trie.specs.Tables.{room_of, version_at, version_put, roomy}
use Rattle.trie.specs.Sound.{bounds_of, used_sound, sound_at, sound_in}
use Rattle.trie.specs.Opening.{filled}
use Rattle.trie.specs.Starting.{start_record_of}
use Rattle.trie.specs.Leaf.{read_of, swap_of}
use Rattle.trie.specs.Refreshing.{join_of, refresh_of}
use Rattle.trie.specs.Asking.{ask_of, look_of, find_of, rank_of, select_of}
use Rattle.trie.specs.Stepping.{plan_of, carry_of, step_record_of}
use Rattle.trie.specs.Values.{Value, yes', none, sums, ok}
use Rattle.trie.specs.Calls.{open_of, start_of, step_of, manned}
use Rattle.trie.specs.Runs.{repeat, lent, insert}
use Rattle.history.specs.Order.{Placed, placed, Answered}
use Rattle.history.specs.Histories.{Call, start, step, Moment, history}
use Rattle.history.specs.Theorem.{Holds}
use Rattle.history.proofs.EveryHistory.{every_history_is_a_book}
use Rattle.decibel.specs.Told.{gives}

abbrev steps : ℕ → ℕ → List Call
steps times worker = repeat times (step worker)

-- the order, by the numbers of the starts
abbrev ids : List Placed → List ℕ
ids [] = []
ids (p ∷ s) = p.id ∷ ids s

-- what an operation answered, and after how many own steps
abbrev gave : Option Answered → Option Value
gave none = none
gave (some a) = some a.value

abbrev answer : Moment → ℕ → Option Value
answer t i = gave (t.memory.lives i).answer

abbrev own : Moment → ℕ → ℕ
own t i = (t.memory.lives i).steps

-- A, start 0, stops for ever after it has read the root's version; B and C and a Total, the starts 1, 2 and 3, still answer in time
abbrev stopped_calls : List Call
stopped_calls =
    start 0 (insert 0 10) ∷ steps 3 0 ++ (start 1 (insert 1 20) ∷ steps 6 1
    ++ (start 2 (Operation.Update (Update.Delete 0)) ∷ steps 6 2 ++ (start 1 (Operation.Query Query.Total) ∷ step 1 ∷ [])))

abbrev stopped : Moment
stopped = history 2 3 (lent 2 3 9) stopped_calls

pub record Stopped : Type 0 where
  pub a : (answer stopped 0 ≡ none) × (own stopped 0 ≡ 3)
  pub b : (answer stopped 1 ≡ some yes') × (own stopped 1 ≡ 6)
  pub c : (answer stopped 2 ≡ some yes') × (own stopped 2 ≡ 6)
  pub total : (answer stopped 3 ≡ some (sums 1 100000)) × (own stopped 3 ≡ 1)
  pub order : ids stopped.memory.order ≡ 0 ∷ 1 ∷ 2 ∷ 3 ∷ []

pub stopped_holds : Stopped
unfolding ℕ_discrete ones count_trailing_zeros energy_of above climb_fits allowed height_of room_of version_at version_put roomy bounds_of used_sound sound_at sound_in filled start_record_of read_of swap_of join_of refresh_of ask_of look_of find_of rank_of select_of plan_of carry_of step_record_of open_of start_of step_of manned
stopped_holds = record { a = (refl, refl); b = (refl, refl); c = (refl, refl); total = (refl, refl); order = refl }

-- so it is one of the histories that the theorem is about
stopped_opens : (open_of 2 3 (lent 2 3 9)).told ≡ gives ok
unfolding ℕ_discrete ones count_trailing_zeros energy_of above climb_fits allowed height_of room_of version_at version_put roomy bounds_of used_sound sound_at sound_in filled start_record_of read_of swap_of join_of refresh_of ask_of look_of find_of rank_of select_of plan_of carry_of step_record_of open_of start_of step_of manned
stopped_opens = refl

pub stopped_is_a_book : Holds 2 3 stopped
stopped_is_a_book = every_history_is_a_book 2 3 (lent 2 3 9) stopped_calls stopped_opens

-- A, B and C, the starts 0, 1 and 2, insert into one cell and read it in the order C, B, A. B's swap succeeds: just behind it stand C and A, in the order of their reads
abbrev losers : Moment
losers =
    history 2 3 (lent 2 3 9)
    (start 0 (insert 0 10) ∷ start 1 (insert 0 20) ∷ start 2 (insert 0 30) ∷ step 2 ∷ step 1 ∷ step 0 ∷ steps 5 1)

-- A inserts into cell 3, then B into cell 0, each up to its node below the root; A's refresh of the root brings both: left before right
abbrev sides : Moment
sides =
    history 4 3 (lent 4 3 20)
    (start 0 (insert 3 10) ∷ start 1 (insert 0 20) ∷ steps 6 0 ++ (steps 6 1 ++ steps 4 0))

-- A inserts into cell 0 and B into cell 1, but B reaches the node above both first; A's refresh of the root brings both, in their order at that node
abbrev turns : Moment
turns =
    history 4 3 (lent 4 3 20)
    (start 0 (insert 0 10) ∷ start 1 (insert 1 20) ∷ steps 6 1 ++ steps 10 0)

-- B finds cell 1 as A has made it, and is there behind A; C, who finds it unmarked and wants it so, was there before
abbrev found : Moment
found =
    history 2 3 (lent 2 3 9)
    (start 0 (insert 1 10) ∷ start 1 (insert 1 20) ∷ start 2 (Operation.Update (Update.Delete 1)) ∷ step 2 ∷ steps 2 0 ++ (step 1 ∷ steps 4 0))

-- moments are numbers of accepted calls: a Total, a step that is refused, and another Total
abbrev counted : Moment
counted =
    history 2 3 (lent 2 3 9)
    (start 0 (Operation.Query Query.Total) ∷ step 0 ∷ step 0 ∷ start 0 (Operation.Query Query.Total) ∷ [])

pub record Orders : Type 0 where
  pub began : (counted.memory.lives 0).started ≡ 0
  pub ended : (counted.memory.lives 0).answer ≡ some (record { moment = 1; value = sums 0 0 })
  pub next : (counted.memory.lives 1).started ≡ 2
  pub place : counted.memory.order ≡ placed 0 (Operation.Query Query.Total) 1 ∷ []
  pub losers_order : ids losers.memory.order ≡ 1 ∷ 2 ∷ 0 ∷ []
  pub sides_order : ids sides.memory.order ≡ 1 ∷ 0 ∷ []
  pub turns_order : ids turns.memory.order ≡ 1 ∷ 0 ∷ []
  pub found_order : ids found.memory.order ≡ 2 ∷ 0 ∷ 1 ∷ []

pub orders_hold : Orders
unfolding ℕ_discrete ones count_trailing_zeros energy_of above climb_fits allowed height_of room_of version_at version_put roomy bounds_of used_sound sound_at sound_in filled start_record_of read_of swap_of join_of refresh_of ask_of look_of find_of rank_of select_of plan_of carry_of step_record_of open_of start_of step_of manned
orders_hold = record { began = refl; ended = refl; next = refl; place = refl; losers_order = refl; sides_order = refl; turns_order = refl; found_order = refl }
