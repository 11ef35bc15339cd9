-- A step call at a moment that belongs to a machine: it is refused, with another number than 9 and only where no worker
-- is busy there; or accepted, and the moment after it belongs to a machine again. Assumes nothing.
use Rattle.std.specs.Prelude.{◌≡◌, refl, ◌≢◌, true, false, [], ◌∷◌, ℕ, suc, ◌+◌, ◌^◌, ◌≤◌, ◌<◌, length, get_or, set}
use Rattle.std.proofs.Common.{sym, ap, ◌∙◌, subst, append-nil, le_refl, arith, get_or-set_same, get_or-set_other}
use mathlib.Core.List.Memᴰ
use Rattle.std.proofs.Math.Decide.{ℕ_discrete, dec_lt}
use Rattle.decibel.specs.Energy.{energy_of}
use Rattle.decibel.specs.Told.{refused, gives}
use Rattle.trie.specs.declared.Query.{Query}
use Rattle.trie.specs.declared.Operation.{Operation}
use Rattle.trie.specs.declared.Phase.{Phase}
use Rattle.trie.specs.declared.Worker.{Worker as Record}
use Rattle.trie.specs.Size.{height_of}
use Rattle.trie.proofs.SizeLaws.{sized}
use Rattle.trie.specs.Record.{worker, idle, busy_phase, query_fits}
use Rattle.trie.specs.Values.{Course}
use Rattle.trie.specs.Stepping.{Stepped, step_record_of}
use Rattle.trie.specs.Calls.{State, After, step_at, step_of}
use Rattle.trie.proofs.CallLaws.{Ready, lent_ready, step_lent, step_of_record, step_no_worker, manned_long}
use Rattle.history.specs.Lists.{◌∈◌, All, all_nil, all_cons}
use Rattle.history.proofs.ListLaws.{all_at}
use Rattle.history.specs.Book.{blank}
use Rattle.history.proofs.PutLaws.{put_same}
use Rattle.history.proofs.Replay.{view as booked}
use Rattle.history.specs.Order.{placed, Memory, memory, answer_of, advance, lived}
use Rattle.history.specs.Histories.{phase_of}
use Rattle.history.specs.Theorem.{replay, Once, most_steps}
use Rattle.history.proofs.Machine.{Shared, Worker, idle as rested, reading, swapping, climbing, answered, at, step_w, settled}
use Rattle.history.proofs.Machine.{State as Machine}
use Rattle.history.proofs.Invariant.{WorkerOk, Inv}
use Rattle.history.proofs.View.{View, Shown, Resting, asks}
use Rattle.history.proofs.Kept.{Later, later_refl, step_keeps, step_later, rest_keeps}
use Rattle.history.proofs.Simulation.{Working, at_read, at_swap, at_climb, Follows, step_follows}
use Rattle.history.proofs.Promise.{Promise, rest_promise, spare, step_promise}
use Rattle.history.proofs.Walks.{Under}
use Rattle.history.proofs.Asked.{Turns, under_busy, under_resting, walk_turns, ask_turns, idle_turn}
use Rattle.history.proofs.Turned.{course_of, told_course}
use Rattle.history.proofs.Chronicle.{onward, once_append}
use Rattle.history.proofs.UnderWay.{Open, Place, UnderWay, Querying, resting, asking, walking}
use Rattle.history.proofs.Tied.{Tied}
use Rattle.history.proofs.TiedCalls.{Call}
use Rattle.history.proofs.UpdateSteps.{update_tied}
use Rattle.history.proofs.QuerySteps.{book_now, walk_adds, Result, query_tied}

module _ (n w : ℕ) where
  -- some machine belongs to the moment
  pub record Belongs (s : State) (m : Memory) : Type 0 where
    pub machine : Machine
    pub tied : Tied n w machine s m

  pub data StepTold (i : ℕ) (s : State) (m : Memory) : Type 0 where
    turned_away_lem : (k : ℕ) → (step_of n w i s).told ≡ refused k → k ≢ 9 → (i < w → busy_phase (phase_of i s) ≡ false) → StepTold i s m
    accepted : (course : Course) → (step_of n w i s).told ≡ gives course → Belongs (step_of n w i s).state (lived i course (advance n i (phase_of i s) s m)) → StepTold i s m

  module _ (σ : Machine) (s : State) (m : Memory) (i : ℕ) (T : Tied n w σ s m) (inside : i < w) where
    abbrev height : ℕ
    height = height_of n

    abbrev G : Shared
    G = σ.shared

    abbrev r : Stepped
    r = step_record_of n (get_or s.board i idle) s.nodes s.versions

    abbrev s' : State
    s' = (step_at i s r).state

    is_record_lem : step_of n w i s ≡ step_at i s r
    is_record_lem = step_of_record n w i s T.ready inside

    long : w ≤ length s.board
    long = manned_long w s.board T.ready.manned

    mine_phase : phase_of i s' ≡ r.worker.phase
    mine_phase = ap (λ (x : Record). x.phase) (get_or-set_same s.board i r.worker idle (omega (arith, long)))

    other_phase : (j : ℕ) → j ≢ i → phase_of j s' ≡ phase_of j s
    other_phase j d = ap (λ (x : Record). x.phase) (get_or-set_other s.board i j r.worker idle d)

    ready' : Ready n w s'
    ready' = subst (λ a. Ready n w a.state) is_record_lem (lent_ready (step_lent n w i s) T.ready)

    versions_kept : length r.versions ≡ length s.versions
    versions_kept = ap (λ (a : After Course). length a.state.versions) (sym is_record_lem) ∙ (step_lent n w i s).versions_length

    accepts : (course : Course) → r.told ≡ gives course → Belongs s' (lived i course (advance n i (phase_of i s) s m)) → StepTold i s m
    accepts course e b = accepted course (ap (λ (a : After Course). a.told) is_record_lem ∙ e) (subst (λ a. Belongs a.state (lived i course (advance n i (phase_of i s) s m))) (sym is_record_lem) b)

    -- ---- a worker with an update

    module _ (working : Working (σ.workers i)) where
      follows : Follows height (step_w height energy_of G (σ.workers i)) r
      follows = step_follows n (σ.workers i) (get_or s.board i idle) T.ready.sized T.ready.roomy T.view T.inv.closed T.inv.spots (T.inv.works i) (T.inv.known i) T.promise.low
          (spare n w i inside long T.promise energy_of T.view (σ.workers i) (T.inv.works i) (T.shown i inside) working) working (T.shown i inside)

      later : Later height energy_of G (step_w height energy_of G (σ.workers i)).0
      later = step_later height energy_of σ i T.inv

      kept : Inv height energy_of (settled σ i (step_w height energy_of G (σ.workers i)))
      kept = step_keeps height energy_of σ i T.inv

      call : Call n w σ s s' m i inside T (step_w height energy_of G (σ.workers i)).0 (step_w height energy_of G (σ.workers i)).1
      call =
          record {
            ready = ready';
            promise = step_promise n w i inside long T.promise energy_of T.view (σ.workers i) (T.inv.works i) (T.shown i inside) r follows
                (subst (λ X. WorkerOk height energy_of (step_w height energy_of G (σ.workers i)).0 X) (put_same ℕ_discrete σ.workers i _) (kept.works i))
                (omega (arith, follows.view.used, T.view.used, later.more)) versions_kept;
            inv = kept;
            later = later;
            view = follows.view;
            others = other_phase;
            shown = subst (λ p. Shown (step_w height energy_of G (σ.workers i)).1 p) (sym mine_phase) follows.shown;
          }

      update_step : StepTold i s m
      update_step = accepts (course_of (step_w height energy_of G (σ.workers i)).1) (follows.told ∙ told_course (step_w height energy_of G (σ.workers i)).1)
          (record { machine = settled σ i (step_w height energy_of G (σ.workers i)); tied = update_tied n w σ s m i inside T working s' call })

    -- ---- a worker with a query

    module _ (busy : busy_phase (phase_of i s) ≡ true) (rest : Resting (phase_of i s)) where
      query_call : r.nodes ≡ s.nodes → r.versions ≡ s.versions → Resting r.worker.phase → Call n w σ s s' m i inside T G rested
      query_call e f q =
          record {
            ready = ready';
            promise = subst (λ x. Promise n w x r.versions (set s.board i r.worker)) (sym e) (subst (λ x. Promise n w s.nodes x (set s.board i r.worker)) (sym f) (rest_promise n w i inside long T.promise r.worker rest q));
            inv = rest_keeps height energy_of σ i T.inv;
            later = later_refl height energy_of G;
            view = subst (λ x. View height G x r.versions) (sym e) (subst (λ x. View height G s.nodes x) (sym f) T.view);
            others = other_phase;
            shown = subst (λ p. Resting p) (sym mine_phase) q;
          }

      tables : {B : _} {q : Query} {e : ℕ} → Turns G B height q s.nodes s.versions e r → (r.nodes ≡ s.nodes) × (r.versions ≡ s.versions)
      tables t = go t refl
        where
          go : {B : _} {q : Query} {e : ℕ} {z : Stepped} → Turns G B height q s.nodes s.versions e z → r ≡ z → (r.nodes ≡ s.nodes) × (r.versions ≡ s.versions)
          go Turns.answers e = (ap (λ (x : Stepped). x.nodes) e, ap (λ (x : Stepped). x.versions) e)
          go (Turns.onward u) e = (ap (λ (x : Stepped). x.nodes) e, ap (λ (x : Stepped). x.versions) e)

      -- its first step: it is placed behind all that stand there
      ask_belongs : (q : Query) → phase_of i s ≡ Phase.Ask q → Open m (m.tasks i).id (Operation.Query q) → (m.lives (m.tasks i).id).steps ≡ 0 → query_fits (2 ^ height) q ≡ true
          → All (λ p. p.id ≢ (m.tasks i).id) m.order → StepTold i s m
      ask_belongs q f o z k a = by (query_tied n w σ s m i inside T busy q o (placed (m.tasks i).id (Operation.Query q) m.moment ∷ [])
          (record {
            known = all_cons (o.known, o.operation, refl) all_nil;
            once = once_append m.order (placed (m.tasks i).id (Operation.Query q) m.moment ∷ []) T.chronicle.once (all_nil, tt) (all_cons a all_nil);
          })
          (all_cons (λ q e. refl) all_nil) refl
          (record { before = m.order; behind = []; moment = m.moment; is = refl }) (le_refl m.moment)
          turns (omega (arith, turned.1)) s' mine_phase (λ x. query_call (tables turns).0 (tables turns).1 x))
        where
          is_ask : get_or s.board i idle ≡ worker (Phase.Ask q)
          is_ask = ap (λ (p : Phase). worker p) f

          turned : (e : ℕ) × (suc e ≤ most_steps height (Operation.Query q)) × Turns G (booked (at G []).reached) height q s.nodes s.versions e (step_record_of n (worker (Phase.Ask q)) s.nodes s.versions)
          turned = ask_turns n T.ready.sized T.ready.roomy T.promise.low (omega (arith, T.promise.room)) T.view T.inv.closed T.inv.spots q
              (subst (λ c. query_fits c q ≡ true) (sym (sized n T.ready.sized).power) k)

          turns : Turns G (replay blank m.order) height q s.nodes s.versions turned.0 r
          turns = subst (λ x. Turns G (replay blank m.order) height q s.nodes s.versions turned.0 (step_record_of n x s.nodes s.versions)) (sym is_ask)
              (subst (λ B. Turns G B height q s.nodes s.versions turned.0 (step_record_of n (worker (Phase.Ask q)) s.nodes s.versions)) (sym (book_now n w σ s m i inside T busy)) turned.2)

          by : Result n w σ m i (placed (m.tasks i).id (Operation.Query q) m.moment ∷ []) r.told s' → StepTold i s m
          by x = accepts x.course x.is (subst (λ p. Belongs s' (lived i x.course (advance n i p s m))) (sym f) (record { machine = settled σ i (G, rested); tied = x.tied }))

      -- a further step: it stands where it was placed
      walk_belongs : (q : Query) (e : ℕ) → Open m (m.tasks i).id (Operation.Query q) → (m.lives (m.tasks i).id).steps + suc e ≤ most_steps height (Operation.Query q)
          → (sp : Place m.order (m.tasks i).id (Operation.Query q)) → Under G.ver G.used (replay blank sp.before) height e q (phase_of i s) → StepTold i s m
      walk_belongs q e o t sp u = by (query_tied n w σ s m i inside T busy q o [] (record { known = all_nil; once = subst (λ x. Once x) (sym (append-nil m.order)) T.chronicle.once }) all_nil refl
          (record { before = sp.before; behind = sp.behind; moment = sp.moment; is = append-nil m.order ∙ sp.is })
          (let k = (all_at T.chronicle.started (subst (λ x. placed (m.tasks i).id (Operation.Query q) sp.moment ∈ x) (sym sp.is) (Memᴰ.append_right sp.before (Memᴰ.head refl)))).3 in omega arith)
          turns t s' mine_phase (λ x. query_call (tables turns).0 (tables turns).1 x))
        where
          turns : Turns G (replay blank sp.before) height q s.nodes s.versions e r
          turns = walk_turns n T.ready.sized T.ready.roomy T.promise.low (omega (arith, T.promise.room)) T.view (get_or s.board i idle) u

          by : Result n w σ m i [] r.told s' → StepTold i s m
          by x = accepts x.course x.is (subst (λ y. Belongs s' (lived i x.course y)) (sym (walk_adds n i s m u))
              (record { machine = settled σ i (G, rested); tied = subst (λ y. Tied n w (settled σ i (G, rested)) s' y) (ap (λ y. memory (suc m.moment) m.starts (onward n height m (m.tasks i).id (answer_of m.moment x.course)) m.tasks m.waiting m.reached y) (append-nil m.order)) x.tied }))

    -- ---- no busy worker

    rest_refused : phase_of i s ≡ Phase.Idle → StepTold i s m
    rest_refused e = turned_away_lem 6 (ap (λ (a : After Course). a.told) is_record_lem ∙ ap (λ (x : Stepped). x.told) (idle_turn n T.ready.sized T.ready.roomy T.promise.low (omega (arith, T.promise.room)) T.view (get_or s.board i idle) e))
        (λ q. omega arith) (λ l. ap busy_phase e)

    querying_step : (p : Phase) → phase_of i s ≡ p → Querying height m G (m.tasks i).id p → StepTold i s m
    querying_step p e resting = rest_refused e
    querying_step p e (asking {q = q} o z k a) = ask_belongs (ap busy_phase e) (subst (λ x. Resting x) (sym e) asks) q e o z k a
    querying_step p e (walking {q = q} {e = d} o t sp u) =
        walk_belongs (ap busy_phase e ∙ under_busy u) (subst (λ x. Resting x) (sym e) (under_resting u)) q d o t sp (subst (λ x. Under G.ver G.used (replay blank sp.before) height d q x) (sym e) u)

    step_by : (W : Worker) → σ.workers i ≡ W → StepTold i s m
    step_by rested e = querying_step (phase_of i s) refl (subst (λ X. UnderWay height m G (m.tasks i).id X (phase_of i s)) e (T.under_way i inside))
    step_by (reading o) e = update_step (subst (λ X. Working X) (sym e) at_read)
    step_by (swapping o v) e = update_step (subst (λ X. Working X) (sym e) at_swap)
    step_by (climbing c st) e = update_step (subst (λ X. Working X) (sym e) at_climb)
    step_by (answered o q) e = rest_refused (subst (λ X. Shown X (phase_of i s)) e (T.shown i inside))

  pub step_told_lem : (i : ℕ) (s : State) (m : Memory) → Belongs s m → StepTold i s m
  step_told_lem i s m b = by (dec_lt i w)
    where
      by : Dec (i < w) → StepTold i s m
      by (yes l) = step_by b.machine s m i b.tied l (b.machine.workers i) refl
      by (no d) = turned_away_lem 4 (ap (λ (a : After Course). a.told) (step_no_worker n w i s b.tied.ready (omega arith))) (λ q. omega arith) (λ l. absurd (d l))
