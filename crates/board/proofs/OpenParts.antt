-- Open, put together from its parts: the tables as opening them leaves them, and as many workers at rest as the answer lets rest, are what open leaves.
-- Beside it, tables are as large by their lengths as they are by themselves. Assumes nothing.
use Rattle.std.specs.Prelude.{◌≡◌, Bool, ◌&&◌, List, ℕ, suc, ◌≤◌, length, set}
use Rattle.std.proofs.Math.Path.{refl, ap}
use Rattle.std.proofs.Common.{sym, ◌∙◌}
use Rattle.std.proofs.Math.Bool.{true, false}
use native.Mathlib.Omega.{arith}
use borrow.Author.Tests.{leb-true}
use Rattle.std.proofs.Math.Dec.{leb}
use Rattle.decibel.specs.Told.{refused, gives}
use Rattle.trie.specs.declared.Worker.{Worker}
use Rattle.trie.specs.Choice.{pick}
use Rattle.trie.specs.Size.{allowed, most_workers}
use Rattle.trie.proofs.SizeLaws.{and_second}
use Rattle.trie.specs.Tables.{roomy, roomy_by}
use Rattle.trie.specs.Record.{idle}
use Rattle.trie.specs.Values.{Ok, ok}
use Rattle.trie.specs.Opening.{Opened, filled, open_nodes, open_versions, open_tables_of, open_board, check_tables}
use Rattle.trie.specs.Calls.{State, state, After, after, check, open_of}
use Rattle.judging.specs.Judging.{manned_by}
use Rattle.judging.proofs.JudgingLaws.{manned_by_lem}
use Rattle.board.specs.Opening.{open_manned_of, resting_of}

-- all that is lent, from the tables and the board
abbrev pub opened_at : Opened → ℕ → List Worker → After Ok
opened_at r w board = after r.told (state r.nodes r.versions (open_board (resting_of r.told w) board))

module _ (n w : ℕ) (nodes versions : List ℕ) (board : List Worker) where
  abbrev s : State
  s = state nodes versions board

  abbrev whole : Opened
  whole = record { told = gives ok; nodes = open_nodes n nodes; versions = open_versions n versions }

  put_by : (p m r : Bool) → opened_at (pick m (check_tables p 1 nodes versions (check_tables r 3 nodes versions whole)) (record { told = refused (pick p 2 1); nodes = nodes; versions = versions })) w board
      ≡ check p 1 s (check m 2 s (check r 3 s (after (gives ok) (state (open_nodes n nodes) (open_versions n versions) (open_board w board)))))
  unfolding filled
  put_by true true true = refl
  put_by true true false = refl
  put_by false true r = refl
  put_by true false r = refl
  put_by false false r = refl

  pub open_put : opened_at (open_manned_of n w (length board) nodes versions) w board ≡ open_of n w s
  unfolding open_manned_of open_tables_of open_of
  open_put =
      put_by (allowed n) (manned_by w (length board)) (roomy n nodes versions)
      ∙ ap (λ (m : Bool). check (allowed n) 1 s (check m 2 s (check (roomy n nodes versions) 3 s (after (gives ok) (state (open_nodes n nodes) (open_versions n versions) (open_board w board)))))) (sym (manned_by_lem w board))

  rests_by : (p m r : Bool) → manned_by w (length board) ≡ m
      → resting_of (pick m (check_tables p 1 nodes versions (check_tables r 3 nodes versions whole)) (record { told = refused (pick p 2 1); nodes = nodes; versions = versions })).told w ≤ length board
  unfolding manned_by
  rests_by true true true e = leb-true w (length board) (and_second (leb 1 w && leb w most_workers) (leb w (length board)) e)
  rests_by true true false e = omega arith
  rests_by false true r e = omega arith
  rests_by true false r e = omega arith
  rests_by false false r e = omega arith

  -- no more workers rest than the board has records
  pub open_rests : resting_of (open_manned_of n w (length board) nodes versions).told w ≤ length board
  unfolding open_manned_of open_tables_of
  open_rests = rests_by (allowed n) (manned_by w (length board)) (roomy n nodes versions) refl

-- one worker more at rest
pub rests_next : (w : ℕ) (board : List Worker) → set (open_board w board) w idle ≡ open_board (suc w) board
unfolding filled
rests_next w board = refl

pub rests_none : (board : List Worker) → open_board 0 board ≡ board
unfolding filled
rests_none board = refl

-- what decides whether tables are large enough is how long they are
pub roomy_by_lem : (n : ℕ) (nodes versions : List ℕ) → roomy n nodes versions ≡ roomy_by n (length nodes) (length versions)
unfolding roomy
roomy_by_lem n nodes versions = refl
