-- A line that is taken by the call that it makes does what the line is to do: a step, a start and an open.
-- Assumes nothing.
use mathlib.Core.Path.{◌≡◌, refl, sym, ap, ◌∙◌}
use mathlib.Core.Bool.{Bool, true, false, ◌&&◌}
use mathlib.Core.List.{List, ◌++◌}
use Prim.Native.Nat.{ℕ, ◌*◌, ◌-◌}
use native.Mathlib.Omega.{arith}
use lib.Dec.{leb}
use lib.ListN.{take, drop, take-append-drop}
use Rattle.std.specs.Prelude.{⊤, Result, Some}
use Rattle.decibel.specs.Told.{Told, refused, gives}
use Rattle.grammar.specs.declared.Command.{Command}
use Rattle.trie.specs.declared.Operation.{Operation}
use Rattle.trie.specs.declared.Progress.{Progress}
use Rattle.trie.specs.declared.Refusal.{Refusal}
use Rattle.trie.specs.declared.Worker.{Worker}
use Rattle.trie.specs.Choice.{pick}
use Rattle.trie.specs.Size.{allowed, most_workers}
use Rattle.trie.proofs.SizeLaws.{and_second}
use Rattle.trie.specs.Tables.{roomy}
use Rattle.trie.specs.Refusing.{number_of}
use Rattle.trie.specs.Values.{Ok, ok, Course, accepted_of, progress_of}
use Rattle.trie.specs.Opening.{open_nodes, open_versions, open_board}
use Rattle.trie.specs.Calls.{State, state, After, after, check, manned, open_of, start_of, step_of}
use Rattle.lines.specs.declared.History.{History}
use Rattle.grammar.specs.Text.{accepted_text, course_text}
use Rattle.lines.specs.declared.Watch.{Watch}
use Rattle.lines.specs.Watch.{watch, most_versions, opened, lent, returned, most_cells}
use Rattle.lines.specs.Turns.{Answered, answered, refuses, opens, room, open_line, start_line, step_line, line_turn}
use Rattle.lines.specs.Calling.{words_of}

-- where a history is under way its V is not more than there are here
room_same : (h : History) → opened h ≡ true → room h.versions ≡ h.versions
unfolding opened
room_same h e =
    let a = allowed h.cells && leb h.cells most_cells in
    let c = leb 1 h.workers && leb h.workers most_workers in
    let f = leb (2 * h.cells - 1) h.versions in
    let g = leb h.versions most_versions in
    ap (λ (t : Bool). pick t h.versions 0) (and_second f g (and_second c (f && g) (and_second a (c && (f && g)) e)))

-- the checks of an open, by how they come out
abbrev checked : ℕ → ℕ → State → Bool → Bool → Bool → After Ok
checked n w s a m r = check a 1 s (check m 2 s (check r 3 s (after (gives ok) (state (open_nodes n s.nodes) (open_versions n s.versions) (open_board w s.board)))))

-- a refused open leaves all that was lent
open_left : (n w k : ℕ) (s : State) → (open_of n w s).told ≡ refused k → (open_of n w s).state ≡ s
unfolding open_of
open_left n w k s = by (allowed n) (manned w s.board) (roomy n s.nodes s.versions)
  where
    by : (a m r : Bool) → (checked n w s a m r).told ≡ refused k → (checked n w s a m r).state ≡ s
    by false m r e = refl
    by true false r e = refl
    by true true false e = refl
    by true true true e = absurd (let z : ◌≡◌ {A = ℕ} 0 1 = cc in omega arith)

module _ (h : History) (nodes versions : List ℕ) (board : List Worker) where
  abbrev s : Watch
  s = watch h nodes versions board

  abbrev shown : {A : Type 0} → (Told A → List ℕ) → After A → ℕ → Answered
  shown text a k = answered (text a.told) (watch h a.state.nodes (a.state.versions ++ drop k versions) a.state.board)

  -- ---- a step

  abbrev stepped : ℕ → ℕ → Answered
  stepped i k = shown course_text (step_of h.cells h.workers i (state nodes (take k versions) board)) k

  step_line_lem : (i : ℕ) → opened h ≡ true → stepped i (words_of h.versions) ≡ step_line i s
  unfolding step_line
  step_line_lem i e = rw (e, room_same h e)

  -- the words that are lent come back before the others
  pub step_taken : (i : ℕ) (p : Result Progress Refusal) (nodes' part : List ℕ) (board' : List Worker) → opened h ≡ true
      → after (progress_of p) (state nodes' part board') ≡ step_of h.cells h.workers i (state nodes (take (words_of h.versions) versions) board)
      → answered (course_text (progress_of p)) (watch h nodes' (part ++ drop (words_of h.versions) versions) board') ≡ line_turn (Some (Command.Step i)) s
  unfolding line_turn
  step_taken i p nodes' part board' e q = ap (λ (a : After Course). shown course_text a (words_of h.versions)) q ∙ step_line_lem i e

  -- ---- a start

  abbrev started : ℕ → Operation → ℕ → Answered
  started i o k = shown accepted_text (start_of h.cells h.workers i o (state nodes (take k versions) board)) k

  start_line_lem : (i : ℕ) (o : Operation) → opened h ≡ true → started i o (words_of h.versions) ≡ start_line i o s
  unfolding start_line
  start_line_lem i o e = rw (e, room_same h e)

  -- the tables are as they were
  pub start_taken : (i : ℕ) (o : Operation) (k : ℕ) (a : Result ⊤ Refusal) (board' : List Worker) → opened h ≡ true → k ≡ words_of h.versions
      → after (accepted_of a) (state nodes (take k versions) board') ≡ start_of h.cells h.workers i o (state nodes (take k versions) board)
      → answered (accepted_text (accepted_of a)) (watch h nodes versions board') ≡ start_line i o s
  start_taken i o k a board' e l q =
      ap (λ (vs : List ℕ). answered (accepted_text (accepted_of a)) (watch h nodes vs board')) (sym (take-append-drop k versions))
      ∙ ap (λ (x : After Ok). shown accepted_text x k) q ∙ ap (started i o) l ∙ start_line_lem i o e

  -- ---- an open

  abbrev kept : Result ⊤ Refusal → History → History
  kept (Result.Err refusal) asked = h
  kept (Result.Ok accepted) asked = asked

  abbrev opened_by : History → Result ⊤ Refusal → List ℕ → List ℕ → List Worker → ℕ → Answered
  opened_by asked a nodes' part board' k = answered (accepted_text (accepted_of a)) (watch (kept a asked) nodes' (part ++ drop k versions) board')

  open_line_lem : (asked : History) (a : Result ⊤ Refusal) (nodes' part : List ℕ) (board' : List Worker) → leb asked.cells most_cells ≡ true
      → after (accepted_of a) (state nodes' part board') ≡ open_of asked.cells asked.workers (lent (room asked.versions) s)
      → opened_by asked a nodes' part board' (words_of asked.versions) ≡ open_line asked.cells asked.workers asked.versions s
  unfolding open_line accepted_text
  open_line_lem asked (Result.Ok accepted) nodes' part board' e q = rw e (ap (opens asked.cells asked.workers asked.versions s) q)
  open_line_lem asked (Result.Err refusal) nodes' part board' e q =
      let v = asked.versions in
      let k = number_of refusal in
      let l : state nodes' part board' ≡ lent (room v) s = ap (λ (x : After Ok). x.state) q ∙ open_left asked.cells asked.workers k (lent (room v) s) (sym (ap (λ (x : After Ok). x.told) q)) in
      rw e (ap (λ (x : State). refuses k (returned (room v) x s)) l
      ∙ ap (λ (vs : List ℕ). refuses k (watch h nodes vs board)) (take-append-drop (words_of v) versions) ∙ ap (opens asked.cells asked.workers v s) q)

  pub open_taken : (asked : History) (k : ℕ) (a : Result ⊤ Refusal) (nodes' part : List ℕ) (board' : List Worker) → leb asked.cells most_cells ≡ true → k ≡ words_of asked.versions
      → after (accepted_of a) (state nodes' part board') ≡ open_of asked.cells asked.workers (state nodes (take k versions) board)
      → opened_by asked a nodes' part board' k ≡ open_line asked.cells asked.workers asked.versions s
  open_taken asked k a nodes' part board' e l q =
      ap (opened_by asked a nodes' part board') l
      ∙ open_line_lem asked a nodes' part board' e (q ∙ ap (λ (j : ℕ). open_of asked.cells asked.workers (state nodes (take j versions) board)) l)
