-- The step of a query's record: it changes no table, and goes on, or answers as the book did when the query read the root.
-- Assumes nothing.
use Rattle.std.specs.Prelude.{◌≡◌, refl, true, List, [], ℕ, suc, ◌*◌, ◌-◌, ◌^◌, ◌≤◌, get_or, Result}
use Rattle.std.proofs.Math.Path.{sym, ap, subst}
use Rattle.std.proofs.Common.{◌∙◌}
use native.Mathlib.Omega.{arith}
use Rattle.decibel.specs.Energy.{energy_of}
use Rattle.decibel.specs.Told.{gives}
use Rattle.trie.specs.declared.Query.{Query}
use Rattle.trie.specs.declared.Operation.{Operation}
use Rattle.trie.specs.declared.Phase.{Phase}
use Rattle.trie.specs.declared.Plan.{Plan}
use Rattle.trie.specs.declared.Damage.{Damage}
use Rattle.trie.specs.declared.Version.{Version}
use Rattle.trie.specs.declared.Worker.{Worker}
use Rattle.trie.specs.Size.{allowed, height_of}
use Rattle.trie.proofs.SizeLaws.{sized}
use Rattle.trie.specs.Tables.{room_of, used_of, roomy}
use Rattle.trie.specs.Sound.{bounds_of}
use Rattle.trie.specs.Record.{worker, idle, busy_phase, query_fits}
use Rattle.trie.specs.Values.{Value, on, done}
use Rattle.trie.specs.Stepping.{Stepped, refuses, plan_of, carry_of, step_record_of}
use Rattle.history.proofs.ListLaws.{prefix_refl}
use Rattle.history.proofs.Nodes.{Node}
use Rattle.history.specs.Book.{Book, answer}
use Rattle.history.proofs.Machine.{Shared, at}
use Rattle.history.proofs.Replay.{view}
use Rattle.history.proofs.Invariant.{Closed, SpotOk}
use Rattle.history.specs.Theorem.{most_steps}
use Rattle.history.proofs.View.{View, Resting, finds, ranks, selects}
use Rattle.history.proofs.Whole.{version_of, Whole}
use Rattle.history.proofs.Shows.{Shows, shows_at, shows_grow}
use Rattle.history.proofs.Judged.{gauge, used_sound_lem}
use Rattle.history.proofs.Drawn.{depicts_whole, depicts_shows}
use Rattle.history.proofs.Passes.{current_whole, quiet}
use Rattle.history.proofs.Walks.{Under, finding, ranking, selecting, under_grow, Walks, ends, goes}
use Rattle.history.proofs.Walking.{First, at_once, on_way, ask_step, walk_step}

cells_is : (n : ℕ) (nodes versions : List ℕ) → (bounds_of n nodes versions).cells ≡ n
unfolding bounds_of
cells_is n nodes versions = refl

-- what a step of the query q leaves, with so many steps to be done after it
pub data Turns (G : Shared) (B : Book) (h : ℕ) (q : Query) (nodes versions : List ℕ) : ℕ → Stepped → Type 0 where
  answers : Turns G B h q nodes versions 0 (record { told = gives (done (answer (2 ^ h) (Operation.Query q) B)); worker = idle; nodes = nodes; versions = versions })
  onward : {e : ℕ} {p : Phase} → Under G.ver G.used B h e q p
      → Turns G B h q nodes versions (suc e) (record { told = gives on; worker = worker p; nodes = nodes; versions = versions })

pub under_busy : {ver : ℕ → Version} {u : ℕ} {B : Book} {h : ℕ} {q : Query} {e : ℕ} {p : Phase} → Under ver u B h e q p → busy_phase p ≡ true
under_busy (finding l p) = refl
under_busy (ranking l p r) = refl
under_busy (selecting p w x l c j k m) = refl

pub under_resting : {ver : ℕ → Version} {u : ℕ} {B : Book} {h : ℕ} {q : Query} {e : ℕ} {p : Phase} → Under ver u B h e q p → Resting p
under_resting (finding l p) = finds
under_resting (ranking l p r) = ranks
under_resting (selecting p w x l c j k m) = selects

-- Total has no way to walk
total_nowhere : {ver : ℕ → Version} {u : ℕ} {B : Book} {h : ℕ} {e : ℕ} {p : Phase} → Under ver u B h e Query.Total p → ⊥
total_nowhere u = by u refl
  where
    by : {q : Query} {ver : ℕ → Version} {u : ℕ} {B : Book} {h : ℕ} {e : ℕ} {p : Phase} → Under ver u B h e q p → q ≡ Query.Total → ⊥
    by (finding l p) e = let z : ◌≡◌ {A = ℕ} 0 1 = cc in omega arith
    by (ranking l p r) e = let z : ◌≡◌ {A = ℕ} 0 1 = cc in omega arith
    by (selecting p w x l c j k m) e = let z : ◌≡◌ {A = ℕ} 0 1 = cc in omega arith

module _ (n : ℕ) {G : Shared} {nodes versions : List ℕ} (size : allowed n ≡ true) (room : roomy n nodes versions ≡ true) (low : 2 * n - 1 ≤ used_of nodes) (top : used_of nodes ≤ room_of versions)
    (v : View (height_of n) G nodes versions) where
  carry_turns : {B : Book} {e : ℕ} {q : Query} {plan : Result Plan Damage} (w : Worker) → Walks (version_of versions) (used_of nodes) B (height_of n) e q plan → Turns G B (height_of n) q nodes versions e (carry_of plan w nodes versions)
  unfolding carry_of
  carry_turns {B} {e} {q} w (ends a) =
      subst (λ (x : Value). Turns G B (height_of n) q nodes versions 0 (record { told = gives (done x); worker = idle; nodes = nodes; versions = versions })) (sym a) answers
  carry_turns w (goes u) = onward (under_grow (omega (arith, v.used)) (λ m l. sym (v.ver m)) u)

  -- a further step
  pub walk_turns : {B : Book} {e : ℕ} {q : Query} (w : Worker) → Under G.ver G.used B (height_of n) e q w.phase → Turns G B (height_of n) q nodes versions e (step_record_of n w nodes versions)
  unfolding step_record_of plan_of
  walk_turns {B} w u =
      let g = gauge n nodes versions size in
      rw (size, room, under_busy u, used_sound_lem g (omega (arith, (sized n size).power)) top) (carry_turns w (walk_step g versions B nodes (under_grow (omega (arith, v.used)) (λ m l. v.ver m) u)))

  module _ (closed : Closed G.ver G.used) (spots : (y : Node) → SpotOk (height_of n) energy_of G y (at G y)) where
    root_is : get_or nodes 1 0 ≡ (at G []).current
    root_is = v.current [] (omega arith)

    -- the root's version shows the book of all that have reached the root
    pub root_whole : Whole energy_of (version_of versions) (used_of nodes) (height_of n) (get_or nodes 1 0)
    root_whole = subst (λ (x : ℕ). Whole energy_of (version_of versions) (used_of nodes) (height_of n) x) (sym root_is) (current_whole v closed spots [] (height_of n) (omega arith))

    pub root_shows : Shows (version_of versions) (view (at G []).reached) (height_of n) 0 (get_or nodes 1 0)
    root_shows =
        shows_at (omega arith) (sym root_is)
        (shows_grow energy_of (λ m l. v.ver m)
        (depicts_whole (height_of n) energy_of closed (quiet v closed spots [] (at G []).reached (prefix_refl (at G []).reached)) (height_of n) (omega arith) (spots []).current_le (spots []).depicts)
        (depicts_shows (height_of n) energy_of (height_of n) (omega arith) (spots []).depicts))

    -- the first step, on that book: it answers at once, or has h steps more to do
    pub ask_turns : (q : Query) → query_fits n q ≡ true
        → (e : ℕ) × (suc e ≤ most_steps (height_of n) (Operation.Query q)) × Turns G (view (at G []).reached) (height_of n) q nodes versions e (step_record_of n (worker (Phase.Ask q)) nodes versions)
    unfolding step_record_of plan_of
    ask_turns q f =
        let g = gauge n nodes versions size in
        rw (size, room, used_sound_lem g (omega (arith, (sized n size).power)) top)
        (by q (ask_step g versions (view (at G []).reached) nodes q (sized n size).least (ap (λ (m : ℕ). query_fits m q) (cells_is n nodes versions) ∙ f) root_whole root_shows))
      where
        at_least : (q : Query) → 1 ≤ most_steps (height_of n) (Operation.Query q)
        at_least (Query.Find k) = omega arith
        at_least (Query.Rank k) = omega arith
        at_least (Query.Select j) = omega arith
        at_least Query.Total = omega arith

        on_the_way : (q : Query) {e : ℕ} {plan : Result Plan Damage} → e ≡ height_of n → Walks (version_of versions) (used_of nodes) (view (at G []).reached) (height_of n) e q plan → suc e ≤ most_steps (height_of n) (Operation.Query q)
        on_the_way (Query.Find k) e u = omega arith
        on_the_way (Query.Rank k) e u = omega arith
        on_the_way (Query.Select j) e u = omega arith
        on_the_way Query.Total e (ends a) = absurd (omega (arith, (sized n size).least))
        on_the_way Query.Total e (goes u) = absurd (total_nowhere u)

        by : (q : Query) {plan : Result Plan Damage} → First (gauge n nodes versions size) versions (view (at G []).reached) q plan
            → (e : ℕ) × (suc e ≤ most_steps (height_of n) (Operation.Query q)) × Turns G (view (at G []).reached) (height_of n) q nodes versions e (carry_of plan (worker (Phase.Ask q)) nodes versions)
        by q (at_once u) = (0, at_least q, carry_turns (worker (Phase.Ask q)) u)
        by q (on_way u) = (height_of n, on_the_way q refl u, carry_turns (worker (Phase.Ask q)) u)

  -- an idle worker's step is refused
  pub idle_turn : (w : Worker) → w.phase ≡ Phase.Idle → step_record_of n w nodes versions ≡ refuses 6 w nodes versions
  unfolding step_record_of
  idle_turn w e = rw (size, room, ap busy_phase e)
