-- Step's refusal 9 clause by clause, on tables that no history leaves: each damage alone in a call that is otherwise sound,
-- and beside it the nearest call that is no damage. Document 01, "Refusal numbers". Assumes nothing.
use Rattle.std.specs.Prelude.{◌≡◌, refl, Bool, true, false, List, [], ◌∷◌, ◌++◌, ℕ, ◌*◌}
use Rattle.std.specs.Int.Count.{ones, count_trailing_zeros}
use Rattle.decibel.specs.Told.{Told, refused, gives}
use Rattle.decibel.specs.Energy.{energy_of}
use Rattle.trie.specs.declared.Update.{Update}
use Rattle.trie.specs.declared.Query.{Query}
use Rattle.trie.specs.declared.Operation.{Operation}
use Rattle.trie.specs.declared.Held.{Held}
use Rattle.trie.specs.declared.Standing.{Standing}
use Rattle.trie.specs.declared.Phase.{Phase}
use Rattle.trie.specs.declared.Worker.{Worker}
use Rattle.trie.specs.Record.{worker, idle, above, climb_fits}
use Rattle.trie.specs.Size.{allowed, height_of}
use Rattle.trie.specs.Tables.{room_of, version_at, version_put, roomy}
use Rattle.trie.specs.Sound.{bounds_of, used_sound, sound_at, sound_in}
use Rattle.trie.specs.Opening.{filled}
use Rattle.trie.specs.Starting.{start_record_of}
use Rattle.trie.specs.Leaf.{read_of, swap_of}
use Rattle.trie.specs.Refreshing.{join_of, refresh_of}
use Rattle.trie.specs.Asking.{ask_of, look_of, find_of, rank_of, select_of}
use Rattle.trie.specs.Stepping.{plan_of, carry_of, step_record_of}
use Rattle.trie.specs.Values.{Value, yes', none, cell, sums, Ok, ok, Course, on, done}
use Rattle.trie.specs.Calls.{State, state, open_of, start_of, step_of, manned}
use Rattle.trie.specs.Runs.{repeat, lent, insert}
use Rattle.trie.proofs.Refusals.{Case, starts, steps, told, page}

-- five words of a version, before others
abbrev row : ℕ → ℕ → ℕ → ℕ → ℕ → List ℕ → List ℕ
row l r c e d rest = l ∷ r ∷ c ∷ e ∷ d ∷ rest

-- two cells: the node table, the root's version, the left leaf's and the right leaf's, a fourth version that is its own child; V = 5
abbrev two : List ℕ → (List ℕ → List ℕ) → (List ℕ → List ℕ) → (List ℕ → List ℕ) → Phase → State
two nodes top a b p = state nodes (top (a (b (row 4 4 0 0 0 (row 0 0 0 0 0 []))))) (worker p ∷ [])

abbrev calm : List ℕ
calm = 4 ∷ 1 ∷ 2 ∷ 3 ∷ []

-- versions as open leaves them
abbrev root : List ℕ → List ℕ
root = row 2 3 0 0 0

abbrev none' : List ℕ → List ℕ
none' = row 0 0 0 0 0

abbrev sane : Phase → State
sane p = two calm root none' none' p

abbrev nodes_of : List ℕ → Phase → State
nodes_of nodes p = two nodes root none' none' p

abbrev total : Phase
total = Phase.Ask Query.Total

abbrev read : Update → Phase
read u = Phase.Read u

abbrev put : ℕ → ℕ → Update
put k l = Update.Insert k (record { 0 = l })

abbrev swap : Update → ℕ → Phase
swap u v = Phase.Swap u (record { 0 = v })

abbrev up : Update → ℕ → Bool → ℕ → Held → Phase
up u x second made s = Phase.Refresh (record { update = u; yes = true; node = record { 0 = x }; second = second; made = made }) s

abbrev refresh : Held → Phase
refresh s = up (Update.Delete 0) 1 false 1 s

abbrev at_node : ℕ → Held
at_node v = Held.Node (record { 0 = v })

abbrev at_left : ℕ → ℕ → Held
at_left v l = Held.Left (record { 0 = v }) (record { 0 = l })

abbrev at_both : ℕ → ℕ → ℕ → Held
at_both v l r = Held.Both (record { 0 = v }) (record { 0 = l }) (record { 0 = r })

abbrev stand : ℕ → ℕ → Standing
stand depth v = record { depth = depth; version = record { 0 = v } }

abbrev finds : ℕ → ℕ → ℕ → Phase
finds k depth v = Phase.Find k (stand depth v)

abbrev ranks : ℕ → ℕ → ℕ → ℕ → ℕ → Phase
ranks k depth v c e = Phase.Rank k (stand depth v) c (record { 0 = e })

abbrev selects : ℕ → ℕ → ℕ → ℕ → ℕ → Phase
selects j depth v x c = Phase.Select j (stand depth v) (record { 0 = x }) c

abbrev says : State → Told Course → Case
says s t = steps 2 1 0 s t

abbrev nine : Told Course
nine = refused 9

abbrev goes : Told Course
goes = gives on

abbrev answers : Value → Told Course
answers v = gives (done v)

-- used is outside 2N - 1 to V
abbrev pub used_cases : List Case
used_cases =
    says (two (2 ∷ 1 ∷ 2 ∷ 2 ∷ []) (row 2 2 0 0 0) none' none' total) nine
    ∷ says (nodes_of (3 ∷ 1 ∷ 2 ∷ 3 ∷ []) total) (answers (sums 0 0))
    ∷ says (nodes_of (5 ∷ 1 ∷ 2 ∷ 3 ∷ []) total) (answers (sums 0 0))
    ∷ says (nodes_of (6 ∷ 1 ∷ 2 ∷ 3 ∷ []) total) nine
    ∷ []

-- a version read at an inner place: the root's
abbrev rooted : (List ℕ → List ℕ) → Told Course → Case
rooted r t = says (two calm r none' none' total) t

abbrev pub inner_cases : List Case
inner_cases =
    says (nodes_of (4 ∷ 0 ∷ 2 ∷ 3 ∷ []) total) nine
    ∷ says (state (3 ∷ 4 ∷ 2 ∷ 3 ∷ []) (root (none' (none' (root (none' []))))) (worker total ∷ [])) nine
    ∷ says (state (4 ∷ 4 ∷ 2 ∷ 3 ∷ []) (root (none' (none' (root (none' []))))) (worker total ∷ [])) (answers (sums 0 0))
    ∷ says (nodes_of (4 ∷ 4 ∷ 2 ∷ 3 ∷ []) total) (answers (sums 0 0))
    ∷ rooted (row 0 3 0 0 0) nine
    ∷ rooted (row 2 0 0 0 0) nine
    ∷ rooted (row 5 3 0 0 0) nine
    ∷ rooted (row 2 5 0 0 0) nine
    ∷ rooted (row 4 4 2 2000000000 0) (answers (sums 2 2000000000))
    ∷ rooted (row 2 3 3 0 0) nine
    ∷ rooted (row 2 3 0 2000000001 0) nine
    ∷ rooted (row 2 3 0 0 1) nine
    ∷ []

-- a version read at a leaf: cell 0's
abbrev leafed : (List ℕ → List ℕ) → Told Course → Case
leafed l t = says (two calm root l none' (read (Update.Delete 0))) t

abbrev pub leaf_cases : List Case
leaf_cases =
    says (nodes_of (4 ∷ 1 ∷ 0 ∷ 3 ∷ []) (read (Update.Delete 0))) nine
    ∷ says (nodes_of (4 ∷ 1 ∷ 5 ∷ 3 ∷ []) (read (Update.Delete 0))) nine
    ∷ says (nodes_of (4 ∷ 1 ∷ 1 ∷ 3 ∷ []) (read (Update.Delete 0))) nine
    ∷ leafed none' goes
    ∷ leafed (row 0 0 1 1000000000 60) goes
    ∷ leafed (row 0 0 1 0 60) goes
    ∷ leafed (row 1 0 1 1000 0) nine
    ∷ leafed (row 0 1 1 1000 0) nine
    ∷ leafed (row 0 0 2 1000 0) nine
    ∷ leafed (row 0 0 1 1000000001 60) nine
    ∷ leafed (row 0 0 1 1000 61) nine
    ∷ leafed (row 0 0 0 1 0) nine
    ∷ leafed (row 0 0 0 0 1) nine
    ∷ leafed (row 1 0 0 0 0) nine
    ∷ leafed (row 0 1 0 0 0) nine
    ∷ []

-- a longer node table, whose further words would be sound as well
abbrev long : List ℕ
long = 4 ∷ 1 ∷ 2 ∷ 3 ∷ 3 ∷ 3 ∷ []

-- an update at its leaf
abbrev pub update_cases : List Case
update_cases =
    says (nodes_of long (read (Update.Delete 2))) nine
    ∷ says (nodes_of long (read (put 2 0))) nine
    ∷ says (sane (read (put 0 60))) goes
    ∷ says (sane (read (put 0 61))) nine
    ∷ says (nodes_of long (swap (Update.Delete 2) 3)) nine
    ∷ says (nodes_of long (swap (put 2 0) 3)) nine
    ∷ says (sane (swap (put 0 60) 2)) goes
    ∷ says (sane (swap (put 0 61) 2)) nine
    -- what is held is judged, whether the swap would succeed or not; the node's present version is not
    ∷ says (nodes_of (4 ∷ 1 ∷ 5 ∷ 3 ∷ []) (swap (put 0 0) 5)) nine
    ∷ says (sane (swap (put 0 0) 5)) nine
    ∷ says (sane (swap (put 0 0) 1)) nine
    ∷ says (nodes_of (4 ∷ 1 ∷ 77 ∷ 3 ∷ []) (swap (put 0 0) 2)) goes
    -- used = V
    ∷ says (nodes_of (5 ∷ 1 ∷ 2 ∷ 3 ∷ []) (swap (put 0 0) 2)) nine
    ∷ says (nodes_of (5 ∷ 1 ∷ 2 ∷ 3 ∷ []) (swap (put 0 0) 3)) goes
    ∷ []

-- a climb's own fields
abbrev pub climb_cases : List Case
climb_cases =
    says (sane (refresh Held.Nothing)) goes
    ∷ says (two (4 ∷ 1 ∷ 1 ∷ 3 ∷ []) root none' none' (up (Update.Delete 2) 2 false 1 Held.Nothing)) nine
    ∷ says (sane (up (put 0 60) 1 false 1 Held.Nothing)) goes
    ∷ says (sane (up (put 0 61) 1 false 1 Held.Nothing)) nine
    ∷ says (nodes_of (1 ∷ 1 ∷ 2 ∷ 3 ∷ []) (up (Update.Delete 0) 0 false 1 Held.Nothing)) nine
    ∷ says (sane (up (Update.Delete 0) 0 false 1 Held.Nothing)) nine
    ∷ says (nodes_of (4 ∷ 1 ∷ 1 ∷ 3 ∷ []) (up (Update.Delete 0) 2 false 1 Held.Nothing)) nine
    ∷ says (sane (up (Update.Delete 0) 1 false 2 Held.Nothing)) goes
    ∷ says (sane (up (Update.Delete 0) 1 false 3 Held.Nothing)) nine
    -- 1 + h made: judged where the swap would succeed, and only there
    ∷ says (sane (up (Update.Delete 0) 1 false 2 (at_both 1 2 3))) nine
    ∷ says (sane (up (Update.Delete 0) 1 true 2 (at_both 4 2 3))) (answers yes')
    ∷ says (sane (up (Update.Delete 0) 1 false 1 (at_both 1 2 3))) (answers yes')
    -- used = V likewise
    ∷ says (nodes_of (5 ∷ 1 ∷ 2 ∷ 3 ∷ []) (up (Update.Delete 0) 1 false 1 (at_both 1 2 3))) nine
    ∷ says (nodes_of (5 ∷ 1 ∷ 2 ∷ 3 ∷ []) (up (Update.Delete 0) 1 true 1 (at_both 4 2 3))) (answers yes')
    ∷ []

-- what a refresh reads, and what it holds
abbrev pub refresh_cases : List Case
refresh_cases =
    says (nodes_of (4 ∷ 2 ∷ 2 ∷ 3 ∷ []) (refresh Held.Nothing)) nine
    ∷ says (sane (refresh (at_node 1))) goes
    ∷ says (sane (refresh (at_node 2))) nine
    ∷ says (sane (refresh (at_node 5))) nine
    ∷ says (nodes_of (4 ∷ 1 ∷ 4 ∷ 3 ∷ []) (refresh (at_node 1))) nine
    ∷ says (nodes_of (4 ∷ 77 ∷ 2 ∷ 77 ∷ []) (refresh (at_node 1))) goes
    ∷ says (sane (refresh (at_left 1 2))) goes
    ∷ says (sane (refresh (at_left 2 2))) nine
    ∷ says (sane (refresh (at_left 1 4))) nine
    ∷ says (nodes_of (4 ∷ 1 ∷ 2 ∷ 4 ∷ []) (refresh (at_left 1 2))) nine
    ∷ says (nodes_of (4 ∷ 77 ∷ 77 ∷ 3 ∷ []) (refresh (at_left 1 2))) goes
    ∷ says (sane (refresh (at_both 2 2 3))) nine
    ∷ says (sane (refresh (at_both 1 4 3))) nine
    ∷ says (sane (refresh (at_both 1 2 4))) nine
    ∷ says (nodes_of (4 ∷ 77 ∷ 77 ∷ 77 ∷ []) (refresh (at_both 1 2 3))) goes
    ∷ []

-- four cells; versions 2 and 3 have these counts and energies, and 8 is its own child; V = 9
abbrev four : List ℕ → ℕ → ℕ → ℕ → ℕ → Phase → State
four nodes c e c' e' p =
    state nodes
    (row 2 3 0 0 0 (row 4 5 c e 0 (row 6 7 c' e' 0 (none' (none' (none' (none' (row 8 8 0 0 0 (none' []))))))))) (worker p ∷ [])

abbrev calm4 : List ℕ
calm4 = 8 ∷ 1 ∷ 2 ∷ 3 ∷ 4 ∷ 5 ∷ 6 ∷ 7 ∷ []

abbrev says4 : State → Told Course → Case
says4 s t = steps 4 1 0 s t

abbrev join : ℕ → ℕ → ℕ → ℕ → ℕ → Bool → Case
join v c e c' e' sound = says4 (four calm4 c e c' e' (up (Update.Delete 3) 1 false 0 (at_both v 2 3))) (Rattle.trie.specs.Choice.pick sound (Rattle.trie.specs.Choice.pick (lib.Dec.eqb v 1) (answers yes') goes) nine)

-- sums, also at a failing swap; the path; places below the root
abbrev pub sum_cases : List Case
sum_cases =
    join 1 2 2000000000 2 2000000000 true
    ∷ join 8 2 2000000000 2 2000000000 true
    ∷ join 1 3 0 2 0 false
    ∷ join 8 3 0 2 0 false
    ∷ join 1 0 2000000000 0 2000000001 false
    ∷ join 8 0 2000000000 0 2000000001 false
    ∷ says4 (four calm4 3 0 2 0 (up (Update.Delete 3) 1 false 0 (at_left 1 2))) goes
    ∷ says4 (four calm4 0 0 0 0 (up (Update.Delete 3) 3 false 0 Held.Nothing)) goes
    ∷ says4 (four calm4 0 0 0 0 (up (Update.Delete 3) 2 false 0 Held.Nothing)) nine
    ∷ says4 (four (8 ∷ 1 ∷ 2 ∷ 3 ∷ 4 ∷ 5 ∷ 6 ∷ 8 ∷ []) 0 0 0 0 (up (Update.Delete 3) 7 false 0 Held.Nothing)) nine
    ∷ says4 (four calm4 0 0 0 0 (up (Update.Delete 3) 1 false 3 Held.Nothing)) goes
    ∷ says4 (four calm4 0 0 0 0 (up (Update.Delete 3) 1 false 4 Held.Nothing)) nine
    -- children of the root of four cells are inner places, children of node 3 leaves
    ∷ says4 (four (8 ∷ 1 ∷ 4 ∷ 3 ∷ 4 ∷ 5 ∷ 6 ∷ 7 ∷ []) 0 0 0 0 (up (Update.Delete 3) 1 false 0 (at_node 1))) nine
    ∷ says4 (four calm4 0 0 0 0 (up (Update.Delete 3) 3 false 0 (at_node 3))) goes
    ∷ []

-- a query's fields, and the three versions that its step reads
abbrev pub query_cases : List Case
query_cases =
    says (nodes_of long (Phase.Ask (Query.Find 2))) nine
    ∷ says (nodes_of long (Phase.Ask (Query.Rank 2))) nine
    ∷ says (sane (Phase.Ask (Query.Select 0))) nine
    ∷ says (sane (Phase.Ask (Query.Select 9))) (answers none)
    ∷ says (two calm (row 2 3 3 0 0) none' none' (Phase.Ask (Query.Select 9))) nine
    -- step 1 judges the root's version and nothing below
    ∷ says (two calm root (row 9 9 9 9 9) none' (Phase.Ask (Query.Find 0))) goes
    ∷ says (sane (finds 0 0 1)) (answers none)
    ∷ says (sane (finds 2 0 1)) nine
    ∷ says (sane (finds 0 1 4)) nine
    ∷ says (sane (finds 0 9 4)) nine
    ∷ says (sane (finds 0 0 5)) nine
    ∷ says (two calm (row 2 3 0 0 1) none' none' (finds 0 0 1)) nine
    ∷ says (two calm root (row 0 0 2 0 0) none' (finds 0 0 1)) nine
    ∷ says (two calm root none' (row 0 0 2 0 0) (finds 0 0 1)) nine
    ∷ says (two calm (row 4 3 0 0 0) none' none' (finds 1 0 1)) nine
    ∷ says4 (four calm4 0 0 0 0 (finds 0 0 1)) goes
    ∷ says4 (state calm4 (row 4 3 0 0 0 (none' (row 6 7 0 0 0 (none' (none' (none' (none' []))))))) (worker (finds 3 0 1) ∷ [])) nine
    ∷ says (sane (ranks 2 0 1 0 0)) nine
    ∷ says (sane (ranks 0 0 1 2 2000000000)) (answers (sums 2 2000000000))
    ∷ says (sane (ranks 0 0 1 3 0)) nine
    ∷ says (sane (ranks 0 0 1 0 2000000001)) nine
    ∷ says (two calm root (row 0 0 1 5 0) none' (ranks 0 0 1 2 0)) nine
    ∷ says (two calm root (row 0 0 1 5 0) none' (ranks 0 0 1 1 1999999996)) nine
    ∷ says (two calm root (row 0 0 1 5 0) none' (ranks 0 0 1 1 1999999995)) (answers (sums 2 2000000000))
    ∷ says (two calm root (row 0 0 1 5 0) none' (ranks 1 0 1 2 0)) nine
    ∷ says (two calm root none' (row 0 0 1 5 0) (ranks 0 0 1 2 0)) (answers (sums 2 0))
    -- no answer before the last step, though nothing is marked below
    ∷ says4 (four calm4 0 0 0 0 (ranks 3 0 1 0 0)) goes
    ∷ says4 (four calm4 0 0 0 0 (selects 1 0 1 1 0)) goes
    ∷ says4 (four calm4 3 0 4 0 (ranks 3 0 1 2 0)) nine
    ∷ says4 (four calm4 3 0 4 0 (ranks 3 0 1 1 0)) goes
    ∷ says4 (four calm4 3 0 4 0 (ranks 0 0 1 4 0)) goes
    ∷ []

abbrev pub select_cases : List Case
select_cases =
    says (two calm root (row 0 0 1 5 0) none' (selects 1 0 1 1 0)) (answers (cell 0))
    ∷ says (sane (selects 0 0 1 1 0)) nine
    ∷ says (sane (selects 2 0 1 1 1)) (answers (cell 1))
    ∷ says (sane (selects 1 0 1 1 1)) nine
    ∷ says (sane (selects 9 0 1 1 2)) (answers (cell 1))
    ∷ says (sane (selects 9 0 1 1 3)) nine
    ∷ says (sane (selects 1 0 1 0 0)) nine
    ∷ says (sane (selects 1 0 1 2 0)) nine
    ∷ says (sane (selects 1 1 4 2 0)) nine
    -- not listed: past step 1 a Select of more than N, or one that ends at an unmarked leaf, answers the cell
    ∷ says (two calm root (row 0 0 1 5 0) none' (selects 9 0 1 1 1)) (answers (cell 1))
    -- going right its sum is judged at the last step too; going left it forms none
    ∷ says (two calm root (row 0 0 1 5 0) none' (selects 9 0 1 1 2)) nine
    ∷ says (two calm root (row 0 0 1 5 0) none' (selects 3 0 1 1 2)) (answers (cell 0))
    ∷ says4 (four calm4 2 0 4 0 (selects 9 0 1 1 2)) goes
    ∷ says4 (four calm4 3 0 4 0 (selects 9 0 1 1 2)) nine
    ∷ says4 (four calm4 3 0 4 0 (selects 5 0 1 1 2)) goes
    ∷ says4 (four calm4 2 0 4 0 (selects 9 1 3 2 2)) (answers (cell 1))
    ∷ says4 (four calm4 2 0 4 0 (selects 9 1 3 1 2)) nine
    ∷ says4 (four calm4 2 0 4 0 (selects 9 1 3 4 2)) nine
    ∷ []

-- start and step share 1, 2, 3, 4: each neighbouring pair, for both
abbrev pub order_cases : List Case
order_cases =
    starts 3 0 0 (insert 0 0) (lent 1 1 0) (refused 1)
    ∷ starts 2 0 0 (insert 0 0) (lent 1 1 0) (refused 2)
    ∷ starts 2 17 0 (insert 0 0) (lent 1 17 0) (refused 2)
    ∷ starts 2 2 0 (insert 0 0) (lent 1 1 0) (refused 2)
    ∷ steps 3 0 0 (lent 1 1 0) (refused 1)
    ∷ steps 2 0 0 (lent 1 1 0) (refused 2)
    ∷ steps 2 17 0 (lent 1 17 0) (refused 2)
    ∷ steps 2 2 0 (lent 1 1 0) (refused 2)
    ∷ steps 2 1 1 (lent 1 1 0) (refused 3)
    ∷ steps 2 1 1 (lent 2 2 9) (refused 4)
    ∷ []

-- two workers, the first of them in this phase, and two cells with V versions, of which 3 are used
abbrev beside : ℕ → Phase → State
beside room p = state (3 ∷ 1 ∷ 2 ∷ 3 ∷ []) (repeat (5 * room) 0) (worker p ∷ idle ∷ worker (read (Update.Delete 0)) ∷ [])

abbrev second : Operation → State → Told Ok → Case
second o s t = starts 2 2 1 o s t

abbrev ask : Query → Operation
ask q = Operation.Query q

abbrev pub start_cases : List Case
start_cases =
    second (insert 1 60) (beside 7 (read (Update.Delete 0))) (gives ok)
    ∷ second (insert 1 60) (beside 6 (read (Update.Delete 0))) (refused 8)
    ∷ second (insert 1 60) (beside 7 (swap (Update.Delete 0) 2)) (gives ok)
    ∷ second (insert 1 60) (beside 6 (swap (Update.Delete 0) 2)) (refused 8)
    -- a busy update that is damaged otherwise still counts
    ∷ second (insert 1 60) (beside 6 (read (Update.Delete 9))) (refused 8)
    ∷ second (insert 1 60) (beside 5 (up (Update.Delete 0) 1 false 2 Held.Nothing)) (gives ok)
    ∷ second (insert 1 60) (beside 4 (up (Update.Delete 0) 1 false 2 Held.Nothing)) (refused 8)
    ∷ second (insert 1 60) (beside 9 (up (Update.Delete 0) 1 false 3 Held.Nothing)) (refused 9)
    ∷ second (insert 1 60) (beside 5 (finds 0 0 1)) (gives ok)
    ∷ second (insert 1 60) (beside 5 (ranks 0 0 1 0 0)) (gives ok)
    ∷ second (insert 1 60) (beside 5 (selects 1 0 1 1 0)) (gives ok)
    ∷ second (insert 2 60) (beside 9 Phase.Idle) (refused 7)
    ∷ second (Operation.Update (Update.Delete 1)) (beside 9 Phase.Idle) (gives ok)
    ∷ second (Operation.Update (Update.Delete 2)) (beside 9 Phase.Idle) (refused 7)
    ∷ second (Operation.Update (Update.Delete 0)) (beside 3 Phase.Idle) (refused 8)
    ∷ second (ask (Query.Rank 1)) (beside 3 Phase.Idle) (gives ok)
    ∷ second (ask (Query.Rank 2)) (beside 3 Phase.Idle) (refused 7)
    ∷ second (ask (Query.Select 1)) (beside 3 Phase.Idle) (gives ok)
    ∷ second (ask (Query.Select 99)) (beside 3 Phase.Idle) (gives ok)
    ∷ []

-- all that is lent after a swap: the five words of the new version in their order, the node, the count, and the rest as it was
abbrev after : (List ℕ → List ℕ) → (List ℕ → List ℕ) → Phase → State
after a b p = (step_of 2 1 0 (state (3 ∷ 1 ∷ 2 ∷ 3 ∷ 77 ∷ []) (root (a (b (repeat 12 88)))) (worker p ∷ []))).state

abbrev pub leaves : List (List ℕ)
leaves =
    (after none' none' (swap (put 1 40) 3)).nodes
    ∷ (after none' none' (swap (put 1 40) 3)).versions
    ∷ (after (row 0 0 1 5 7) none' (swap (Update.Delete 0) 2)).versions
    ∷ (after (row 0 0 1 5 7) (row 0 0 1 6 8) (refresh (at_both 1 2 3))).nodes
    ∷ (after (row 0 0 1 5 7) (row 0 0 1 6 8) (refresh (at_both 1 2 3))).versions
    ∷ (open_of 2 1 (state (repeat 5 77) (repeat 17 88) (idle ∷ []))).state.nodes
    ∷ (open_of 2 1 (state (repeat 5 77) (repeat 17 88) (idle ∷ []))).state.versions
    ∷ []

abbrev pub left : List (List ℕ)
left =
    (4 ∷ 1 ∷ 2 ∷ 4 ∷ 77 ∷ [])
    ∷ root (none' (none' (row 0 0 1 10000000 40 (repeat 7 88))))
    ∷ root (row 0 0 1 5 7 (none' (none' (repeat 7 88))))
    ∷ (4 ∷ 4 ∷ 2 ∷ 3 ∷ 77 ∷ [])
    ∷ root (row 0 0 1 5 7 (row 0 0 1 6 8 (row 2 3 2 11 0 (repeat 7 88))))
    ∷ (3 ∷ 1 ∷ 2 ∷ 3 ∷ 77 ∷ [])
    ∷ root (none' (none' (88 ∷ 88 ∷ [])))
    ∷ []

-- the record after a step, by phase
abbrev pub stepped_to : List Worker
stepped_to =
    (step_record_of 2 (worker (swap (put 1 40) 3)) (3 ∷ 1 ∷ 2 ∷ 3 ∷ []) (root (none' (none' (none' []))))).worker
    ∷ (step_record_of 2 (worker (swap (put 1 40) 2)) (3 ∷ 1 ∷ 2 ∷ 3 ∷ []) (root (none' (none' (none' []))))).worker
    ∷ (step_record_of 4 (worker (up (put 3 40) 3 false 1 (at_both 3 6 7))) calm4 (row 2 3 0 0 0 (row 4 5 0 0 0 (row 6 7 0 0 0 (none' (none' (none' (none' (none' (none' [])))))))))).worker
    ∷ (step_record_of 4 (worker (up (put 3 40) 3 false 1 (at_both 2 6 7))) calm4 (row 2 3 0 0 0 (row 4 5 0 0 0 (row 6 7 0 0 0 (none' (none' (none' (none' (none' (none' [])))))))))).worker
    ∷ (step_record_of 4 (worker (up (put 3 40) 3 true 1 (at_both 2 6 7))) calm4 (row 2 3 0 0 0 (row 4 5 0 0 0 (row 6 7 0 0 0 (none' (none' (none' (none' (none' (none' [])))))))))).worker
    ∷ []

abbrev pub stepped_as : List Worker
stepped_as =
    worker (up (put 1 40) 1 false 1 Held.Nothing)
    ∷ worker (Phase.Refresh (record { update = put 1 40; yes = false; node = record { 0 = 1 }; second = false; made = 0 }) Held.Nothing)
    ∷ worker (up (put 3 40) 1 false 2 Held.Nothing)
    ∷ worker (up (put 3 40) 3 true 1 Held.Nothing)
    ∷ worker (up (put 3 40) 1 false 1 Held.Nothing)
    ∷ []

-- which N are allowed, and their heights
abbrev pub sizes : List Bool
sizes = allowed 0 ∷ allowed 1 ∷ allowed 2 ∷ allowed 3 ∷ allowed 4 ∷ allowed 6 ∷ allowed 4095 ∷ allowed 4096 ∷ allowed 4097 ∷ allowed 8192 ∷ []

abbrev pub heights : List ℕ
heights = height_of 2 ∷ height_of 4 ∷ height_of 2048 ∷ height_of 4096 ∷ []

abbrev pub cases : List Case
cases =
    used_cases ++ (inner_cases ++ (leaf_cases ++ (update_cases ++ (climb_cases ++ (refresh_cases ++ (sum_cases ++ (query_cases ++ (select_cases ++ (order_cases ++ start_cases)))))))))

pub record Tells : Type 0 where
  pub calls : told cases ≡ page cases
  pub lent : leaves ≡ left
  pub records : stepped_to ≡ stepped_as
  pub allow : sizes ≡ false ∷ false ∷ true ∷ false ∷ true ∷ false ∷ false ∷ true ∷ false ∷ false ∷ []
  pub high : heights ≡ 1 ∷ 2 ∷ 11 ∷ 12 ∷ []

pub tells : Tells
unfolding ones count_trailing_zeros energy_of above climb_fits allowed height_of room_of version_at version_put roomy bounds_of used_sound sound_at sound_in filled start_record_of read_of swap_of join_of refresh_of ask_of look_of find_of rank_of select_of plan_of carry_of step_record_of open_of start_of step_of manned
tells = record { calls = refl; lent = refl; records = refl; allow = refl; high = refl }
