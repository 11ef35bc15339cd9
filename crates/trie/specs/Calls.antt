-- The three calls of document 01 on the whole lent state: open, start and step, with every refusal in the page's order.
-- Assumes nothing.
use Rattle.std.specs.Prelude.{Bool, true, false, ◌&&◌, List, ℕ, ltb, leb, length, get_or, set}
use Rattle.decibel.specs.Told.{Told, refused, gives}
use Rattle.trie.specs.declared.Operation.{Operation}
use Rattle.trie.specs.declared.Worker.{Worker}
use Rattle.trie.specs.Size.{allowed, most_workers}
use Rattle.trie.specs.Tables.{roomy}
use Rattle.trie.specs.Record.{idle, promised_of}
use Rattle.trie.specs.Sound.{bounds_of}
use Rattle.trie.specs.Values.{Ok, ok, Course}
use Rattle.trie.specs.Opening.{open_nodes, open_versions, open_board}
use Rattle.trie.specs.Starting.{Started, start_record_of}
use Rattle.trie.specs.Stepping.{Stepped, step_record_of}

-- all that is lent to a call
pub record State : Type 0 where
  pub nodes : List ℕ
  pub versions : List ℕ
  pub board : List Worker

abbrev pub state : List ℕ → List ℕ → List Worker → State
state nodes versions board = record { nodes = nodes; versions = versions; board = board }

-- what a call tells, and all that was lent to it as it stands afterwards
pub record After (A : Type 0) : Type 0 where
  pub told : Told A
  pub state : State

abbrev pub after : {A : Type 0} → Told A → State → After A
after told s = record { told = told; state = s }

-- goes on where the test holds; else refuses, and everything stays as it was
abbrev pub check : {A : Type 0} → Bool → ℕ → State → After A → After A
check true number s a = a
check false number s a = after (refused number) s

-- W is 1 to 16, and the board has as many records
unfoldable pub manned : ℕ → List Worker → Bool
manned w board = (leb 1 w && leb w most_workers) && leb w (length board)

unfoldable pub open_of : ℕ → ℕ → State → After Ok
open_of n w s =
    check (allowed n) 1 s
    (check (manned w s.board) 2 s
    (check (roomy n s.nodes s.versions) 3 s
    (after (gives ok) (state (open_nodes n s.nodes) (open_versions n s.versions) (open_board w s.board)))))

-- the refusals that start and step share: 1, 2, 3, 4
abbrev pub check_call : {A : Type 0} → ℕ → ℕ → ℕ → State → After A → After A
check_call n w i s a =
    check (allowed n) 1 s (check (manned w s.board) 2 s (check (roomy n s.nodes s.versions) 3 s (check (ltb i w) 4 s a)))

abbrev pub start_at : ℕ → State → Started → After Ok
start_at i s r = after r.told (state s.nodes s.versions (set s.board i r.worker))

unfoldable pub start_of : ℕ → ℕ → ℕ → Operation → State → After Ok
start_of n w i o s =
    check_call n w i s
    (start_at i s
    (start_record_of n o (promised_of (bounds_of n s.nodes s.versions).share w s.board) (get_or s.board i idle) s.nodes s.versions))

abbrev pub step_at : ℕ → State → Stepped → After Course
step_at i s r = after r.told (state r.nodes r.versions (set s.board i r.worker))

unfoldable pub step_of : ℕ → ℕ → ℕ → State → After Course
step_of n w i s = check_call n w i s (step_at i s (step_record_of n (get_or s.board i idle) s.nodes s.versions))
