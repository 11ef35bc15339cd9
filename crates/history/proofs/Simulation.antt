-- A step of an update on the tables is the machine's step: no test fails, and the tables and the record afterwards show what the machine has then.
-- Assumes nothing.
use Rattle.std.specs.Prelude.{◌≡◌, Bool, ◌&&◌, not, List, [], ◌∷◌, ℕ, suc, ◌+◌, ◌*◌, ◌-◌, ◌^◌, ◌≤◌, ◌<◌, leb, length, get_or, set, Result}
use Rattle.std.proofs.Math.Path.{refl, ap}
use Rattle.std.proofs.Common.{sym, ap₂, ◌∙◌, subst, pow-suc, add-one, arith}
use Rattle.std.proofs.Math.Bool.{true, false}
use Rattle.std.proofs.Math.Decide.{ℕ_discrete}
use borrow.Author.Tests.{lt-ltb, eq-eqb, ne_eqb}
use Rattle.decibel.specs.Energy.{energy_of}
use Rattle.decibel.proofs.Laws.{energy_at_most}
use Rattle.decibel.specs.Told.{Told, gives}
use Rattle.trie.specs.declared.Bounds.{Bounds}
use Rattle.trie.specs.declared.VersionNumber.{VersionNumber}
use Rattle.trie.specs.declared.NodeNumber.{NodeNumber}
use Rattle.trie.specs.declared.Version.{Version}
use Rattle.trie.specs.declared.Update.{Update}
use Rattle.trie.specs.declared.Held.{Held}
use Rattle.trie.specs.declared.Phase.{Phase}
use Rattle.trie.specs.declared.Answer.{Answer}
use Rattle.trie.specs.declared.Next.{Next}
use Rattle.trie.specs.declared.Plan.{Plan}
use Rattle.trie.specs.declared.Damage.{Damage}
use Rattle.trie.specs.Choice.{pick}
use Rattle.trie.specs.Size.{allowed, height_of}
use Rattle.trie.proofs.SizeLaws.{sized, and_both}
use Rattle.trie.specs.Tables.{room_of, used_of, current_of, version_at, version_put, roomy}
use Rattle.trie.proofs.TableLaws.{roomy_nodes}
use Rattle.trie.specs.Sound.{sound_in}
use Rattle.trie.specs.Record.{leaf_of, cell_of, busy_phase}
use Rattle.trie.specs.Values.{yes', no', Course, on, done}
use Rattle.trie.specs.Leaf.{goes_on, marked, as_wanted, wanted, climbs_from, climbs, swapped, read_of, swap_of, keep}
use Rattle.trie.specs.Refreshing.{over_leaves, rises, sum_of, join_of, refresh_of}
use Rattle.trie.specs.Stepping.{Stepped, plan_phase, plan_of, after_next, carry_of, step_record_of}
use Rattle.history.proofs.Nodes.{Side, lo, hi, Node, below_length}
use Rattle.history.proofs.Numbers.{number, number_pos, half, length_leaf}
use Rattle.history.specs.Book.{fits, want, mark, level_if}
use Rattle.history.specs.Arrivals.{Op, Entry}
use Rattle.history.proofs.Machine.{leaf_version, Shared, Stage, nothing, at_node, at_left, at_both, Climb, Worker, idle, reading, swapping, climbing, answered, at, go_up, join, missed, node_try, climb_step, cell, leaf_read, leaf_try, step_w}
use Rattle.history.proofs.Invariant.{Closed, Known, SpotOk, HeldOk, SawOk, ClimbOk, LeafOk, WorkerOk, OnOp}
use Rattle.history.proofs.View.{View, held_of, climb_of, rests, Shown}
use Rattle.history.proofs.Whole.{version_of, Whole, whole_count, whole_energy}
use Rattle.history.proofs.Judged.{Gauge, gauge, used_sound_lem, leaf_sound_lem, inner_sound_lem, place_sound, few, soft}
use Rattle.history.proofs.Viewed.{current_left, current_right, view_spot, view_swap}
use Rattle.history.proofs.Passes.{leaf_number, update_fits_lem, climb_fits_lem, over_leaves_lem, current_whole, was_whole, saw_whole}

-- ---- what follows the machine

-- what a worker does next, as the code has it
abbrev pub next_of : Worker → Next
next_of idle = goes_on Phase.Idle
next_of (reading o) = goes_on (Phase.Read o.update)
next_of (swapping o v) = goes_on (Phase.Swap o.update (record { 0 = v }))
next_of (climbing c st) = goes_on (Phase.Refresh (climb_of c) (held_of st))
next_of (answered o r) = Next.Done (pick r Answer.Yes Answer.No)

-- what the step tells that has brought a worker there
abbrev pub told_of : Worker → Told Course
told_of idle = gives on
told_of (reading o) = gives on
told_of (swapping o v) = gives on
told_of (climbing c st) = gives on
told_of (answered o r) = gives (done (pick r yes' no'))

-- an update is under way
pub data Working : Worker → Type 0 where
  at_read : {o : Op} → Working (reading o)
  at_swap : {o : Op} {n : ℕ} → Working (swapping o n)
  at_climb : {c : Climb} {st : Stage} → Working (climbing c st)

module _ (h : ℕ) where
  -- the tables and the record after a step show the machine, and the step tells what its worker has come to
  pub record Follows (p : Shared × Worker) (s : Stepped) : Type 0 where
    pub view : View h p.0 s.nodes s.versions
    pub shown : Shown p.1 s.worker.phase
    pub told : s.told ≡ told_of p.1

  -- a plan that does, once it is carried out
  pub data Plays (p : Shared × Worker) (nodes versions : List ℕ) (plan : Result Plan Damage) : Type 0 where
    keeps : plan ≡ keep (next_of p.1) → View h p.0 nodes versions → Plays p nodes versions plan
    puts : (v : VersionNumber) (x : NodeNumber) (r : Version) → plan ≡ Result.Ok (Plan.Put (next_of p.1) v x r) → View h p.0 (set (set nodes x.0 v.0) 0 v.0) (version_put versions v r)
        → Plays p nodes versions plan

  after_follows : (G : Shared) (W : Worker) (nodes versions : List ℕ) → View h G nodes versions → Follows (G, W) (after_next (next_of W) nodes versions)
  after_follows G idle nodes versions v = record { view = v; shown = rests; told = refl }
  after_follows G (reading o) nodes versions v = record { view = v; shown = refl; told = refl }
  after_follows G (swapping o n) nodes versions v = record { view = v; shown = refl; told = refl }
  after_follows G (climbing c st) nodes versions v = record { view = v; shown = refl; told = refl }
  after_follows G (answered o true) nodes versions v = record { view = v; shown = refl; told = refl }
  after_follows G (answered o false) nodes versions v = record { view = v; shown = refl; told = refl }

  pub plays_follows : (p : Shared × Worker) (nodes versions : List ℕ) (plan : Result Plan Damage) (w : Rattle.trie.specs.declared.Worker.Worker) → Plays p nodes versions plan → Follows p (carry_of plan w nodes versions)
  unfolding carry_of
  plays_follows p nodes versions plan w (keeps e v) = rw e (after_follows p.0 p.1 nodes versions v)
  plays_follows p nodes versions plan w (puts n x r e v) = rw e (after_follows p.0 p.1 (set (set nodes x.0 n.0) 0 n.0) (version_put versions n r) v)

-- ---- a node that is done with

up_is : (o : Op) (r : Bool) (m : ℕ) (x : Node) → 1 ≤ length x → climbs_from (number x) o.update r m ≡ next_of (go_up o r m x)
up_is o r m [] l = absurd (omega arith)
up_is o r m (b ∷ x) l =
    ap (λ (n : ℕ). goes_on (Phase.Refresh (record { update = o.update; yes = r; node = record { 0 = n }; second = false; made = m }) Held.Nothing)) (half b (number x))

rises_is : (c : Climb) (m : ℕ) (x : Node) → c.node ≡ x → rises (climb_of c) m ≡ next_of (go_up c.op c.res m x)
rises_is c m [] e = rw e
rises_is c m (b ∷ x) e = rw (e, ne_eqb (number (b ∷ x)) 1 (λ q. omega (arith, number_pos x))) (up_is c.op c.res m (b ∷ x) (omega arith))

missed_is : (c : Climb) (t : Bool) → c.again ≡ t
    → pick t (rises (climb_of c) c.made) (goes_on (Phase.Refresh (record { update = c.op.update; yes = c.res; node = record { 0 = number c.node }; second = true; made = c.made }) Held.Nothing))
    ≡ next_of (missed t c)
missed_is c true e = rises_is c c.made c.node refl
missed_is c false e = refl

-- ---- at the leaf

-- as wanted is told by the mark
pub as_wanted_lem : (u : Update) (r : Version) → as_wanted u r ≡ fits u (mark r)
as_wanted_lem (Update.Insert k l) r = by (marked r)
  where
    by : (t : Bool) → t ≡ fits (Update.Insert k l) (level_if t r.level.0)
    by true = refl
    by false = refl
as_wanted_lem (Update.Delete k) r = by (marked r)
  where
    by : (t : Bool) → not t ≡ fits (Update.Delete k) (level_if t r.level.0)
    by true = refl
    by false = refl

wanted_is : (u : Update) → wanted u ≡ leaf_version energy_of (want u)
wanted_is (Update.Insert k l) = refl
wanted_is (Update.Delete k) = refl

-- ---- the steps

module _ {h : ℕ} {G : Shared} {nodes versions : List ℕ} {b : Bounds} (v : View h G nodes versions) (closed : Closed G.ver G.used) (spots : (y : Node) → SpotOk h energy_of G y (at G y))
    (g : Gauge h (used_of nodes) (room_of versions) b) (tall : 1 ≤ h) (long : 2 * 2 ^ h ≤ length nodes) (spare : used_of nodes < room_of versions) where
  -- a swap that succeeds has room
  swapped_is : (x : ℕ) (r : Version) (next : Next) → swapped b x r next ≡ Result.Ok (Plan.Put next (record { 0 = b.used + 1 }) (record { 0 = x }) r)
  swapped_is x r next = rw (lt-ltb b.used b.room (omega (arith, g.used, g.room)))

  next_used : b.used + 1 ≡ used_of nodes + 1
  next_used = ap (λ (m : ℕ). m + 1) g.used

  module _ (o : Op) (known : Known h G o) where
    leaf_tall : 1 ≤ length (cell h o)
    leaf_tall = omega (arith, length_leaf h (cell_of o.update))

    leaf_level : length (cell h o) + 0 ≡ h
    leaf_level = omega (arith, length_leaf h (cell_of o.update))

    leaf_current : get_or nodes (leaf_of b o.update) 0 ≡ (at G (cell h o)).current
    leaf_current = ap (λ (m : ℕ). get_or nodes m 0) (leaf_number g o known.fit) ∙ v.current (cell h o) (omega (arith, leaf_level))

    climbs_is : (r : Bool) (m : ℕ) → climbs b o.update r m ≡ next_of (go_up o r m (cell h o))
    climbs_is r m = ap (λ (n : ℕ). climbs_from n o.update r m) (leaf_number g o known.fit) ∙ up_is o r m (cell h o) leaf_tall

    leaf_current_sound : sound_in b true versions (current_of nodes (leaf_of b o.update)) ≡ true
    leaf_current_sound = leaf_sound_lem g energy_of energy_at_most versions (subst (λ (n : ℕ). Whole energy_of (version_of versions) (used_of nodes) 0 n) (sym leaf_current) (current_whole v closed spots (cell h o) 0 leaf_level))

    read_by : (t : Bool) → as_wanted o.update (version_at versions (current_of nodes (leaf_of b o.update))) ≡ t
        → Plays h (leaf_read h t G o) nodes versions (read_of b o.update nodes versions)
    unfolding read_of
    read_by true e =
        keeps (rw (update_fits_lem g o known.fit, leaf_current_sound, e) (ap keep (climbs_is false 0))) (view_spot v (cell h o) _ refl)
    read_by false e =
        keeps (rw (update_fits_lem g o known.fit, leaf_current_sound, e) (ap (λ (n : ℕ). keep (goes_on (Phase.Swap o.update (record { 0 = n })))) leaf_current)) (view_spot v (cell h o) _ refl)

    pub read_plays : Plays h (step_w h energy_of G (reading o)) nodes versions (read_of b o.update nodes versions)
    read_plays =
        read_by (fits o.update (mark (G.ver (at G (cell h o)).current)))
        (as_wanted_lem o.update (version_at versions (current_of nodes (leaf_of b o.update)))
        ∙ ap (λ (r : Version). fits o.update (mark r)) (v.ver (get_or nodes (leaf_of b o.update) 0) ∙ ap G.ver leaf_current))

    try_by : (n : ℕ) → LeafOk h energy_of G o n → (d : Dec ((at G (cell h o)).current ≡ n)) → Plays h (leaf_try h energy_of d G o) nodes versions (swap_of b o.update (record { 0 = n }) nodes versions)
    unfolding swap_of
    try_by n p (yes e) =
        puts (record { 0 = b.used + 1 }) (record { 0 = leaf_of b o.update }) (wanted o.update)
        (rw (update_fits_lem g o known.fit, leaf_sound_lem g energy_of energy_at_most versions (was_whole v closed spots (cell h o) 0 n leaf_level p.was), eq-eqb (get_or nodes (leaf_of b o.update) 0) n (leaf_current ∙ e))
        (swapped_is (leaf_of b o.update) (wanted o.update) (climbs b o.update true 1)
        ∙ ap (λ (next : Next). Result.Ok (Plan.Put next (record { 0 = b.used + 1 }) (record { 0 = leaf_of b o.update }) (wanted o.update))) (climbs_is true 1)))
        (subst (λ (x : ℕ). View h (leaf_try h energy_of (yes e) G o).0 (set (set nodes x (b.used + 1)) 0 (b.used + 1)) (version_put versions (record { 0 = b.used + 1 }) (wanted o.update)))
        (sym (leaf_number g o known.fit))
        (view_swap v (cell h o) (b.used + 1) (wanted o.update) _ _ _ (omega (arith, leaf_level)) long spare next_used (wanted_is o.update)))
    try_by n p (no d) =
        keeps
        (rw (update_fits_lem g o known.fit, leaf_sound_lem g energy_of energy_at_most versions (was_whole v closed spots (cell h o) 0 n leaf_level p.was), ne_eqb (get_or nodes (leaf_of b o.update) 0) n (λ q. d (sym leaf_current ∙ q)))
        (ap keep (climbs_is false 0)))
        v

    pub try_plays : (n : ℕ) → LeafOk h energy_of G o n → Plays h (step_w h energy_of G (swapping o n)) nodes versions (swap_of b o.update (record { 0 = n }) nodes versions)
    try_plays n p = try_by n p (ℕ_discrete (at G (cell h o)).current n)

  module _ (c : Climb) (known : Known h G c.op) where
    -- how many levels above the leaves the node's children stand
    module _ (d : ℕ) (deep : suc (length c.node) + d ≡ h) where
      node_sound : {n : ℕ} → Whole energy_of (version_of versions) (used_of nodes) (suc d) n → sound_in b false versions (record { 0 = n }) ≡ true
      node_sound w = inner_sound_lem g energy_of energy_at_most versions (omega arith) w

      child_sound : {n : ℕ} → Whole energy_of (version_of versions) (used_of nodes) d n → sound_in b (over_leaves b (climb_of c)) versions (record { 0 = n }) ≡ true
      child_sound w = place_sound g energy_of energy_at_most versions d (over_leaves b (climb_of c)) (omega arith) (over_leaves_lem g c d deep) w

      node_current : get_or nodes (number c.node) 0 ≡ (at G c.node).current
      node_current = v.current c.node (omega arith)

      -- the three reads of the tables
      reads_node : sound_in b false versions (current_of nodes (number c.node)) ≡ true
      reads_node = node_sound (subst (λ (n : ℕ). Whole energy_of (version_of versions) (used_of nodes) (suc d) n) (sym node_current) (current_whole v closed spots c.node (suc d) (omega arith)))

      reads_left : sound_in b (over_leaves b (climb_of c)) versions (current_of nodes (2 * number c.node)) ≡ true
      reads_left = child_sound (subst (λ (n : ℕ). Whole energy_of (version_of versions) (used_of nodes) d n) (sym (current_left v c.node (omega arith))) (current_whole v closed spots (lo ∷ c.node) d deep))

      reads_right : sound_in b (over_leaves b (climb_of c)) versions (current_of nodes (2 * number c.node + 1)) ≡ true
      reads_right = child_sound (subst (λ (n : ℕ). Whole energy_of (version_of versions) (used_of nodes) d n) (sym (current_right v c.node (omega arith))) (current_whole v closed spots (hi ∷ c.node) d deep))

      -- what the refresh holds
      holds_node : {n : ℕ} → HeldOk h energy_of G c n → sound_in b false versions (record { 0 = n }) ≡ true
      holds_node {n} p = node_sound (was_whole v closed spots c.node (suc d) n (omega arith) p.was)

      saw : {n : ℕ} (s : Side) {l : ℕ} {t : List Entry} → SawOk h energy_of G c n s l t → Whole energy_of (version_of versions) (used_of nodes) d l
      saw {n} s {l} {t} p = saw_whole v closed spots c n s l t d deep p

      -- the sums of two children are within the bounds
      sums_are : {l r : ℕ} → Whole energy_of (version_of versions) (used_of nodes) d l → Whole energy_of (version_of versions) (used_of nodes) d r
          → (leb ((version_of versions l).count + (version_of versions r).count) b.cells && leb ((version_of versions l).energy.0 + (version_of versions r).energy.0) b.energy) ≡ true
      sums_are {l} {r} w z =
          and_both _ _
          (few g (suc d) ((version_of versions l).count + (version_of versions r).count) (omega arith) (omega (arith, whole_count energy_of w, whole_count energy_of z, pow-suc 2 d)))
          (soft g (suc d) ((version_of versions l).energy.0 + (version_of versions r).energy.0) (omega arith)
          (omega (arith, whole_energy energy_of energy_at_most w, whole_energy energy_of energy_at_most z, pow-suc 2 d)))

      join_is : (l r : ℕ) → sum_of (record { 0 = l }) (record { 0 = r }) (version_of versions l) (version_of versions r) ≡ join G l r
      join_is l r = ap₂ (λ (x : Version) (y : Version). sum_of (record { 0 = l }) (record { 0 = r }) x y) (v.ver l) (v.ver r)

      join_by : (n l r : ℕ) (s t : List Entry) → c.made + length c.node ≤ h → Whole energy_of (version_of versions) (used_of nodes) d l → Whole energy_of (version_of versions) (used_of nodes) d r
          → (q : Dec ((at G c.node).current ≡ n))
          → Plays h (node_try q G c l s r t) nodes versions (join_of b (climb_of c) (record { 0 = n }) (record { 0 = l }) (record { 0 = r }) nodes versions)
      unfolding join_of
      join_by n l r s t m w z (yes e) =
          puts (record { 0 = b.used + 1 }) (record { 0 = number c.node }) (sum_of (record { 0 = l }) (record { 0 = r }) (version_of versions l) (version_of versions r))
          (rw (sums_are w z, eq-eqb (get_or nodes (number c.node) 0) n (node_current ∙ e), lt-ltb c.made b.share (omega (arith, g.share)))
          (swapped_is (number c.node) _ _
          ∙ ap (λ (next : Next). Result.Ok (Plan.Put next (record { 0 = b.used + 1 }) (record { 0 = number c.node }) (sum_of (record { 0 = l }) (record { 0 = r }) (version_of versions l) (version_of versions r))))
          (rises_is c (c.made + 1) c.node refl ∙ ap (λ (k : ℕ). next_of (go_up c.op c.res k c.node)) (add-one c.made))))
          (view_swap v c.node (b.used + 1) _ _ _ _ (omega arith) long spare next_used (join_is l r))
      join_by n l r s t m w z (no e) =
          keeps (rw (sums_are w z, ne_eqb (get_or nodes (number c.node) 0) n (λ q. e (sym node_current ∙ q))) (ap keep (missed_is c c.again refl))) v

      held_by : (st : Stage) → ClimbOk h energy_of G c st → Plays h (climb_step G c st) nodes versions (refresh_of b (climb_of c) (held_of st) nodes versions)
      unfolding refresh_of
      held_by nothing p =
          keeps (rw (climb_fits_lem g energy_of G c nothing known p, reads_node) (ap (λ (n : ℕ). keep (goes_on (Phase.Refresh (climb_of c) (Held.Node (record { 0 = n }))))) node_current)) v
      held_by (at_node n) p =
          keeps
          (rw (climb_fits_lem g energy_of G c (at_node n) known p, holds_node p.stages, reads_left)
          (ap (λ (l : ℕ). keep (goes_on (Phase.Refresh (climb_of c) (Held.Left (record { 0 = n }) (record { 0 = l }))))) (current_left v c.node (omega arith))))
          v
      held_by (at_left n l s) p =
          keeps
          (rw (climb_fits_lem g energy_of G c (at_left n l s) known p, holds_node p.stages.0, child_sound (saw lo p.stages.1), reads_right)
          (ap (λ (r : ℕ). keep (goes_on (Phase.Refresh (climb_of c) (Held.Both (record { 0 = n }) (record { 0 = l }) (record { 0 = r }))))) (current_right v c.node (omega arith))))
          v
      held_by (at_both n l s r t) p =
          rw (climb_fits_lem g energy_of G c (at_both n l s r t) known p, holds_node p.stages.0, child_sound (saw lo p.stages.1), child_sound (saw hi p.stages.2))
          (join_by n l r s t p.share (saw lo p.stages.1) (saw hi p.stages.2) (ℕ_discrete (at G c.node).current n))

    pub climb_plays : (st : Stage) → ClimbOk h energy_of G c st → Plays h (climb_step G c st) nodes versions (refresh_of b (climb_of c) (held_of st) nodes versions)
    climb_plays st p = held_by (h - suc (length c.node)) (omega (arith, below_length p.below, length_leaf h (cell_of c.op.update))) st p

  pub step_plays : (W : Worker) (p : Phase) → Working W → Shown W p → WorkerOk h energy_of G W → OnOp (Known h G) W → Plays h (step_w h energy_of G W) nodes versions (plan_phase b p nodes versions)
  step_plays (reading o) p at_read s ok k = rw s (read_plays o k)
  step_plays (swapping o n) p at_swap s ok k = rw s (try_plays o k n ok)
  step_plays (climbing c st) p at_climb s ok k = rw s (climb_plays c k st ok)
  step_plays idle p active s ok k = elim active [ ]
  step_plays (answered _ _) p active s ok k = elim active [ ]

-- ---- the step of a record

pub working_busy : (W : Worker) (p : Phase) → Working W → Shown W p → busy_phase p ≡ true
working_busy (reading o) p at_read s = rw s
working_busy (swapping o n) p at_swap s = rw s
working_busy (climbing c st) p at_climb s = rw s
working_busy idle p active s = elim active [ ]
working_busy (answered _ _) p active s = elim active [ ]

-- with the machine's facts at hand, and a version to spare, the step of an update's record is the machine's
pub step_follows : (n : ℕ) {G : Shared} {nodes versions : List ℕ} (W : Worker) (w : Rattle.trie.specs.declared.Worker.Worker) → allowed n ≡ true → roomy n nodes versions ≡ true
    → View (height_of n) G nodes versions → Closed G.ver G.used → ((y : Node) → SpotOk (height_of n) energy_of G y (at G y)) → WorkerOk (height_of n) energy_of G W → OnOp (Known (height_of n) G) W
    → 2 * n - 1 ≤ used_of nodes → used_of nodes < room_of versions → Working W → Shown W w.phase → Follows (height_of n) (step_w (height_of n) energy_of G W) (step_record_of n w nodes versions)
unfolding step_record_of plan_of
step_follows n {G} {nodes} {versions} W w size room v closed spots ok known low spare working shown =
    let g = gauge n nodes versions size in
    let s = sized n size in
    rw (size, room, working_busy W w.phase working shown, used_sound_lem g (omega (arith, s.power)) (omega arith))
    (plays_follows (height_of n) _ nodes versions _ w
    (step_plays v closed spots g s.least (omega (arith, roomy_nodes n nodes versions room, s.power)) spare W w.phase working shown ok known))
