-- The starred soundings of document 01, shown from the definitions: one table under one statement.
-- The order in which D1's updates reach the root is shown where that order is defined, in crate history. Assumes nothing.
use Rattle.std.specs.Prelude.{◌≡◌, refl, List, [], ◌∷◌, ◌++◌, ℕ}
use Rattle.std.specs.Int.Count.{ones, count_trailing_zeros}
use Rattle.decibel.specs.Told.{gives}
use Rattle.decibel.specs.Energy.{energy_of}
use Rattle.trie.specs.declared.Query.{Query}
use Rattle.trie.specs.declared.Operation.{Operation}
use Rattle.trie.specs.Record.{above, climb_fits}
use Rattle.trie.specs.Size.{allowed, height_of}
use Rattle.trie.specs.Tables.{room_of, version_at, version_put, roomy}
use Rattle.trie.specs.Sound.{bounds_of, used_sound, sound_at, sound_in}
use Rattle.trie.specs.Opening.{filled}
use Rattle.trie.specs.Starting.{start_record_of}
use Rattle.trie.specs.Leaf.{read_of, swap_of}
use Rattle.trie.specs.Refreshing.{join_of, refresh_of}
use Rattle.trie.specs.Asking.{ask_of, look_of, find_of, rank_of, select_of}
use Rattle.trie.specs.Stepping.{plan_of, carry_of, step_record_of}
use Rattle.trie.specs.Values.{Value, yes', no', none, level, cell, sums, ok, done}
use Rattle.trie.specs.Calls.{open_of, start_of, step_of, manned}
use Rattle.trie.specs.Runs.{Call, begin, start, step, Line, said, went, lent, Ran, run, insert, steps, ons}

-- a sounding: levels with their energies; or N, W and V, calls, what each told, and the node table afterwards
pub data Sounding : Type 0 where
  energies : List ℕ → List ℕ → Sounding
  listing : ℕ → ℕ → ℕ → List Call → List Line → List ℕ → Sounding

abbrev pub energies_of : List ℕ → List ℕ
energies_of [] = []
energies_of (l ∷ ls) = energy_of l ∷ energies_of ls

pub record Shown (r : Ran) (lines : List Line) (nodes : List ℕ) : Type 0 where
  pub told : r.lines ≡ lines
  pub left : r.state.nodes ≡ nodes

abbrev pub Holds : Sounding → Type 0
Holds (energies levels page) = energies_of levels ≡ page
Holds (listing n w room calls lines nodes) = Shown (run n w calls (lent n w room)) lines nodes

abbrev pub AllHold : List Sounding → Type 0
AllHold [] = Unit {0}
AllHold (s ∷ table) = Holds s × AllHold table

abbrev ask : Query → Operation
ask q = Operation.Query q

abbrev answered : Value → List Line
answered v = went (gives (done v)) ∷ []

abbrev accepted : List Line
accepted = said (gives ok) ∷ []

abbrev E1 : Sounding
E1 = energies (0 ∷ 1 ∷ 3 ∷ 10 ∷ []) (1000 ∷ 1258 ∷ 1995 ∷ 10000 ∷ [])

abbrev E2 : Sounding
E2 = energies (43 ∷ 44 ∷ 59 ∷ 60 ∷ []) (19952623 ∷ 25118864 ∷ 794328234 ∷ 1000000000 ∷ [])

-- ten steps, yes; versions 8, 9 and 10 go to nodes 7, 3 and 1; used 10
abbrev s1 : List Call
s1 = begin ∷ start 0 (insert 3 40) ∷ steps 10 0

abbrev s1_lines : List Line
s1_lines = accepted ++ (accepted ++ (ons 9 ++ answered yes'))

abbrev S1 : Sounding
S1 = listing 4 1 20 s1 s1_lines (10 ∷ 10 ∷ 2 ∷ 9 ∷ 4 ∷ 5 ∷ 6 ∷ 8 ∷ [])

-- then Insert(2, 40) and Total: 2 and 20,000,000
abbrev s2 : List Call
s2 = s1 ++ (start 0 (insert 2 40) ∷ steps 10 0 ++ (start 0 (ask Query.Total) ∷ step 0 ∷ []))

abbrev s2_lines : List Line
s2_lines = s1_lines ++ (accepted ++ (ons 9 ++ (answered yes' ++ (accepted ++ answered (sums 2 20000000)))))

abbrev S2 : Sounding
S2 = listing 4 1 20 s2 s2_lines (13 ∷ 13 ∷ 2 ∷ 12 ∷ 4 ∷ 5 ∷ 11 ∷ 8 ∷ [])

-- Rank(2) after that: 1 and 10,000,000; Select(2): 3; Select(3): none after one step
abbrev s3 : List Call
s3 = s2 ++ (start 0 (ask (Query.Rank 2)) ∷ steps 3 0 ++ (start 0 (ask (Query.Select 2)) ∷ steps 3 0 ++ (start 0 (ask (Query.Select 3)) ∷ step 0 ∷ [])))

abbrev s3_lines : List Line
s3_lines =
    s2_lines
    ++ (accepted ++ (ons 2 ++ (answered (sums 1 10000000) ++ (accepted ++ (ons 2 ++ (answered (cell 3) ++ (accepted ++ answered none)))))))

abbrev S3 : Sounding
S3 = listing 4 1 20 s3 s3_lines (13 ∷ 13 ∷ 2 ∷ 12 ∷ 4 ∷ 5 ∷ 11 ∷ 8 ∷ [])

-- A is worker 0, B worker 1; worker 2 asks Find(3) when B has answered no, and is told 40; then A goes to its end: yes, used 12
abbrev R1 : Sounding
R1 =
    listing 4 3 20
    (begin ∷ start 0 (insert 3 40) ∷ start 1 (insert 3 30) ∷ step 0 ∷ step 1 ∷ step 0 ∷ step 1
    ∷ steps 8 1 ++ (start 2 (ask (Query.Find 3)) ∷ steps 3 2 ++ steps 8 0))
    (accepted ++ (accepted ++ (accepted ++ (ons 11 ++ (answered no' ++ (accepted ++ (ons 2 ++ (answered (level 40) ++ (ons 7 ++ answered yes')))))))))
    (12 ∷ 12 ∷ 2 ∷ 11 ∷ 4 ∷ 5 ∷ 6 ∷ 8 ∷ [])

-- A, B and C are workers 0, 1 and 2: B yes, C no, A yes after 10 own steps with both refreshes failed; used 7; Total 2 and 110,000
abbrev D1 : Sounding
D1 =
    listing 2 3 9
    (begin ∷ start 0 (insert 0 10) ∷ start 1 (insert 1 20) ∷ start 2 (insert 1 30)
    ∷ steps 2 0 ++ (steps 2 1 ++ (steps 1 0 ++ (steps 4 1 ++ (steps 3 0 ++ (steps 1 0 ++ (steps 5 2 ++ (steps 3 0 ++ (start 1 (ask Query.Total) ∷ step 1 ∷ [])))))))))
    (accepted ++ (accepted ++ (accepted ++ (accepted ++ (ons 8 ++ (answered yes' ++ (ons 8 ++ (answered no' ++ (ons 2 ++ (answered yes' ++ (accepted ++ answered (sums 2 110000))))))))))))
    (7 ∷ 7 ∷ 4 ∷ 5 ∷ [])

-- N = 2 opens
abbrev L1 : Sounding
L1 = listing 2 1 3 (begin ∷ []) accepted (3 ∷ 1 ∷ 2 ∷ 3 ∷ [])

-- Find and Total on an empty tree: none; 0 and 0
abbrev L4 : Sounding
L4 =
    listing 2 1 3
    (begin ∷ start 0 (ask (Query.Find 1)) ∷ steps 2 0 ++ (start 0 (ask Query.Total) ∷ step 0 ∷ []))
    (accepted ++ (accepted ++ (ons 1 ++ (answered none ++ (accepted ++ answered (sums 0 0))))))
    (3 ∷ 1 ∷ 2 ∷ 3 ∷ [])

abbrev pub table : List Sounding
table = E1 ∷ E2 ∷ S1 ∷ S2 ∷ S3 ∷ R1 ∷ D1 ∷ L1 ∷ L4 ∷ []

pub soundings : AllHold table
unfolding ones count_trailing_zeros energy_of above climb_fits allowed height_of room_of version_at version_put roomy bounds_of used_sound sound_at sound_in filled start_record_of read_of swap_of join_of refresh_of ask_of look_of find_of rank_of select_of plan_of carry_of step_record_of open_of start_of step_of manned
soundings = (
  refl,
  (
    refl,
    (
      record { told = refl; left = refl },
      (
        record { told = refl; left = refl },
        (
          record { told = refl; left = refl },
          (
            record { told = refl; left = refl },
            (
              record { told = refl; left = refl },
              (
                record { told = refl; left = refl },
                (
                  record { told = refl; left = refl },
                  tt,
                ),
              ),
            ),
          ),
        ),
      ),
    ),
  ),
)
