-- Where two refusals apply, the first in document 01's order is told: a case for each neighbouring pair, and the bounds of 1, 2, 3 and 8.
-- Assumes nothing.
use Rattle.std.specs.Prelude.{◌≡◌, refl, Bool, List, [], ◌∷◌, ℕ, ◌*◌}
use Rattle.std.specs.Int.Count.{ones, count_trailing_zeros}
use Rattle.decibel.specs.Told.{Told, refused, gives}
use Rattle.trie.specs.declared.Update.{Update}
use Rattle.trie.specs.declared.Query.{Query}
use Rattle.trie.specs.declared.Operation.{Operation}
use Rattle.trie.specs.declared.Held.{Held}
use Rattle.trie.specs.declared.Phase.{Phase}
use Rattle.trie.specs.declared.Worker.{Worker}
use Rattle.trie.specs.Record.{worker, idle}
use Rattle.trie.specs.Size.{allowed, height_of}
use Rattle.trie.specs.Tables.{room_of, roomy}
use Rattle.trie.specs.Sound.{bounds_of, used_sound}
use Rattle.trie.specs.Opening.{filled}
use Rattle.trie.specs.Starting.{start_record_of}
use Rattle.trie.specs.Stepping.{plan_of, carry_of, step_record_of}
use Rattle.trie.specs.Values.{Ok, ok, Course}
use Rattle.trie.specs.Calls.{State, state, open_of, start_of, step_of, manned}
use Rattle.trie.specs.Runs.{Line, said, went, repeat, lent, insert}

-- a call, and what it tells
pub data Case : Type 0 where
  opens : ℕ → ℕ → State → Told Ok → Case
  starts : ℕ → ℕ → ℕ → Operation → State → Told Ok → Case
  steps : ℕ → ℕ → ℕ → State → Told Course → Case

-- what the definitions tell, and what the page says, call by call
abbrev pub told : List Case → List Line
told [] = []
told (opens n w s t ∷ cases) = said (open_of n w s).told ∷ told cases
told (starts n w i o s t ∷ cases) = said (start_of n w i o s).told ∷ told cases
told (steps n w i s t ∷ cases) = went (step_of n w i s).told ∷ told cases

abbrev pub page : List Case → List Line
page [] = []
page (opens n w s t ∷ cases) = said t ∷ page cases
page (starts n w i o s t ∷ cases) = said t ∷ page cases
page (steps n w i s t ∷ cases) = went t ∷ page cases

-- two cells, V versions and one record, with this count of versions used
abbrev tree : ℕ → ℕ → Worker → State
tree room used r = state (used ∷ 1 ∷ 2 ∷ 3 ∷ []) (repeat (5 * room) 0) (r ∷ [])

-- an update under way that has made this many versions
abbrev climbing : ℕ → Worker
climbing made = worker (Phase.Refresh (record { update = Update.Delete 0; yes = Bool.true; node = record { 0 = 1 }; second = Bool.false; made = made }) Held.Nothing)

abbrev find : ℕ → Operation
find k = Operation.Query (Query.Find k)

abbrev pub cases : List Case
cases =
    opens 1 0 (lent 1 1 9) (refused 1)
    ∷ opens 3 1 (lent 4 1 9) (refused 1)
    ∷ opens 2 0 (lent 1 1 0) (refused 2)
    ∷ opens 2 17 (lent 2 17 9) (refused 2)
    ∷ opens 2 2 (lent 2 1 9) (refused 2)
    ∷ opens 2 16 (lent 2 16 9) (gives ok)
    ∷ opens 2 1 (lent 1 1 9) (refused 3)
    ∷ opens 2 1 (lent 2 1 2) (refused 3)
    ∷ opens 2 1 (lent 2 1 3) (gives ok)
    ∷ starts 2 1 1 (insert 9 61) (lent 1 1 9) (refused 3)
    ∷ starts 2 1 1 (insert 9 61) (tree 9 0 (worker (Phase.Ask Query.Total))) (refused 4)
    ∷ starts 2 1 0 (insert 9 61) (tree 9 0 (worker (Phase.Ask Query.Total))) (refused 5)
    ∷ starts 2 1 0 (insert 0 61) (tree 9 0 idle) (refused 7)
    ∷ starts 2 1 0 (find 2) (tree 9 0 idle) (refused 7)
    ∷ starts 2 1 0 (Operation.Query (Query.Select 0)) (tree 9 0 idle) (refused 7)
    ∷ starts 2 1 0 (insert 0 60) (tree 3 2 idle) (refused 9)
    ∷ starts 2 1 0 (find 1) (tree 3 4 idle) (refused 9)
    ∷ starts 2 1 0 (insert 0 60) (tree 4 3 idle) (refused 8)
    ∷ starts 2 1 0 (insert 0 60) (tree 5 3 idle) (gives ok)
    ∷ starts 2 1 0 (find 1) (tree 3 3 idle) (gives ok)
    ∷ starts 2 2 1 (insert 0 60) (state (3 ∷ 1 ∷ 2 ∷ 3 ∷ []) (repeat 30 0) (climbing 1 ∷ idle ∷ [])) (gives ok)
    ∷ starts 2 2 1 (insert 0 60) (state (3 ∷ 1 ∷ 2 ∷ 3 ∷ []) (repeat 25 0) (worker (Phase.Ask Query.Total) ∷ idle ∷ [])) (gives ok)
    ∷ starts 2 2 1 (insert 0 60) (state (3 ∷ 1 ∷ 2 ∷ 3 ∷ []) (repeat 30 0) (climbing 0 ∷ idle ∷ [])) (refused 8)
    ∷ starts 2 2 1 (find 1) (state (3 ∷ 1 ∷ 2 ∷ 3 ∷ []) (repeat 30 0) (climbing 3 ∷ idle ∷ [])) (refused 9)
    ∷ starts 2 1 0 (find 1) (state (3 ∷ 1 ∷ 2 ∷ 3 ∷ []) (repeat 30 0) (idle ∷ climbing 3 ∷ [])) (gives ok)
    ∷ steps 2 1 1 (tree 9 0 idle) (refused 4)
    ∷ steps 2 1 0 (tree 9 0 idle) (refused 6)
    ∷ steps 2 1 0 (tree 9 2 (worker (Phase.Ask Query.Total))) (refused 9)
    ∷ []

pub cases_tell : told cases ≡ page cases
unfolding ones count_trailing_zeros allowed height_of room_of roomy bounds_of used_sound filled start_record_of plan_of carry_of step_record_of open_of start_of step_of manned
cases_tell = refl
