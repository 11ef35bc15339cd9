-- A call of one worker leaves a moment and a machine that still belong together: what one step, and one start, have to
-- show for it. Assumes nothing.
use Rattle.std.specs.Prelude.{◌≡◌, refl, ◌≢◌, true, false, List, [], ◌++◌, ℕ, suc, ◌≤◌, ◌<◌}
use Rattle.std.proofs.Common.{sym, ap, ◌∙◌, subst, append-nil, arith}
use Rattle.std.proofs.Math.Option.{Option, some, none}
use Rattle.std.proofs.Math.Decide.{ℕ_discrete}
use Rattle.decibel.specs.Energy.{energy_of}
use Rattle.trie.specs.declared.Update.{Update}
use Rattle.trie.specs.declared.Query.{Query}
use Rattle.trie.specs.declared.Operation.{Operation}
use Rattle.trie.specs.Size.{height_of}
use Rattle.trie.specs.Record.{busy_phase}
use Rattle.trie.specs.Calls.{State}
use Rattle.trie.proofs.CallLaws.{Ready}
use Rattle.history.specs.Lists.{All, all_nil}
use Rattle.history.proofs.ListLaws.{mem_prefix, all_zip}
use Rattle.history.specs.Arrivals.{Op, Entry}
use Rattle.history.proofs.PutLaws.{put_all, put_same, put_other}
use Rattle.history.specs.Order.{Placed, Answered, Task, task, Memory, memory, begin, updates, ops}
use Rattle.history.specs.Histories.{phase_of}
use Rattle.history.specs.Theorem.{Carried}
use Rattle.history.proofs.Machine.{Shared, Worker, at, settled}
use Rattle.history.proofs.Machine.{State as Machine}
use Rattle.history.proofs.Invariant.{Inv}
use Rattle.history.proofs.View.{View, Shown}
use Rattle.history.proofs.Promise.{Promise}
use Rattle.history.proofs.Kept.{Later}
use Rattle.history.proofs.Chronicle.{Places, Turn, onward, chronicle_step, chronicle_start, same_operation}
use Rattle.history.proofs.Following.{Remembers, Tasked}
use Rattle.history.proofs.UnderWay.{Entered, Came, UnderWay, busy_started}
use Rattle.history.proofs.Tied.{Onward, under_way_kept, Tied}

came_kept : {h : ℕ} {G G' : Shared} {id : ℕ} {u : Update} {v : _} → Later h energy_of G G' → Came G id u v → Came G' id u v
came_kept l c = record { result = c.result; told = c.told; at_root_lem = mem_prefix (l.grows []) c.at_root_lem }

module _ (n w : ℕ) (σ : Machine) (s s' : State) (m : Memory) (i : ℕ) (inside : i < w) (T : Tied n w σ s m) (G' : Shared) (W' : Worker) where
  abbrev height : ℕ
  height = height_of n

  abbrev mine : ℕ
  mine = (m.tasks i).id

  abbrev σ' : Machine
  σ' = settled σ i (G', W')

  -- what any call has to show: the state and the machine after it, and that other workers are where they were
  pub record Call : Type 0 where
    pub ready : Ready n w s'
    pub promise : Promise n w s'.nodes s'.versions s'.board
    pub inv : Inv height energy_of σ'
    pub later : Later height energy_of σ.shared G'
    pub view : View height G' s'.nodes s'.versions
    pub others : (j : ℕ) → j ≢ i → phase_of j s' ≡ phase_of j s
    pub shown : Shown W' (phase_of i s')

  shown_all : Call → (j : ℕ) → j < w → Shown (σ'.workers j) (phase_of j s')
  shown_all c = put_all ℕ_discrete (λ j X. j < w → Shown X (phase_of j s')) σ.workers i W' (λ l. c.shown) (λ j d l. subst (λ p. Shown (σ.workers j) p) (sym (c.others j d)) (T.shown j l))

  -- ---- a step

  module _ (new : List Placed) (a : Option Answered) (tasks : ℕ → Task) (waiting : ℕ → List Op) (reached : ℕ → List Entry) where
    abbrev pub stepped : Memory
    stepped = memory (suc m.moment) m.starts (onward n height m mine a) tasks waiting reached (m.order ++ new)

    pub record Step : Type 0 where
      pub call : Call
      pub busy : busy_phase (phase_of i s) ≡ true
      pub same_next : G'.next ≡ σ.shared.next
      pub same_ops : G'.ops ≡ σ.shared.ops
      pub remembers : Remembers height stepped G'
      pub placed : updates (m.order ++ new) ≡ ops (at G' []).reached
      pub task_others : (j : ℕ) → j ≢ i → tasks j ≡ m.tasks j
      pub task_id : (tasks i).id ≡ mine
      pub tasked : Tasked (tasks i) W'
      pub known : mine < m.starts
      pub places : Places n height m new
      pub news : All (λ p. (q : Query) → p.operation ≡ Operation.Query q → p.id ≡ mine) new
      pub turn : Turn n height m new mine a
      pub came : (u : Update) (x : Answered) → a ≡ some x → (m.lives mine).operation ≡ Operation.Update u → Came G' mine u x.value
      pub under : UnderWay height stepped G' mine W' (phase_of i s')
      pub stays : a ≡ none → busy_phase (phase_of i s') ≡ true

    module _ (c : Step) where
      ids : (j : ℕ) → (tasks j).id ≡ (m.tasks j).id
      ids j = go (ℕ_discrete j i)
        where
          go : Dec (j ≡ i) → (tasks j).id ≡ (m.tasks j).id
          go (yes e) = subst (λ k. (tasks k).id ≡ (m.tasks k).id) (sym e) c.task_id
          go (no d) = ap (λ t. t.id) (c.task_others j d)

      busy_before : (j : ℕ) → busy_phase (phase_of j s') ≡ true → busy_phase (phase_of j s) ≡ true
      busy_before j b = go (ℕ_discrete j i)
        where
          go : Dec (j ≡ i) → busy_phase (phase_of j s) ≡ true
          go (yes e) = subst (λ k. busy_phase (phase_of k s) ≡ true) (sym e) c.busy
          go (no d) = ap busy_phase (sym (c.call.others j d)) ∙ b

      onward_step : Onward height m stepped σ.shared G' mine
      onward_step =
          record {
            starts = omega arith;
            lives = λ j l d. put_other ℕ_discrete m.lives mine _ j d;
            new = new;
            order = refl;
            news = all_zip (λ p k r. (k.1, r)) c.places.known c.news;
            later = c.call.later;
          }

      -- another worker keeps its operation
      kept_carried : (j : ℕ) → j ≢ mine → Carried w s m j → Carried w s' stepped j
      kept_carried j d k = record { worker = k.worker; inside = k.inside; task = ids k.worker ∙ k.task; busy = ap busy_phase (c.call.others k.worker other) ∙ k.busy }
        where
          other : k.worker ≢ i
          other e = d (sym k.task ∙ ap (λ x. (m.tasks x).id) e)

      pub step_tied : Tied n w σ' s' stepped
      step_tied =
          record {
            ready = c.call.ready;
            promise = c.call.promise;
            inv = c.call.inv;
            view = c.call.view;
            shown = shown_all c.call;
            remembers = c.remembers;
            placed = c.placed;
            tasked = put_all ℕ_discrete (λ j X. j < w → Tasked (tasks j) X) σ.workers i W' (λ l. c.tasked) (λ j d l. subst (λ t. Tasked t (σ.workers j)) (sym (c.task_others j d)) (T.tasked j l));
            ledger = λ o k. let e = T.ledger o (ap (λ f. f o.id) (sym c.same_ops) ∙ k) in (e.0, same_operation n height m mine a o.id ∙ e.1);
            next = subst (λ x. x ≤ m.starts) (sym c.same_next) T.next;
            chronicle = chronicle_step n height m new mine a tasks waiting reached T.chronicle c.known c.places c.turn;
            came = λ id u x. put_all ℕ_discrete (λ j f. j < m.starts → f.operation ≡ Operation.Update u → f.answer ≡ some x → Came G' j u x.value) m.lives mine _
                (λ l o e. c.came u x e o) (λ j d l o e. came_kept c.call.later (T.came j u x l o e)) id;
            under_way = put_all ℕ_discrete (λ j X. j < w → UnderWay height stepped G' (tasks j).id X (phase_of j s')) σ.workers i W'
                (λ l. subst (λ k. UnderWay height stepped G' k W' (phase_of i s')) (sym c.task_id) c.under)
                (λ j d l. subst (λ k. UnderWay height stepped G' k (σ.workers j) (phase_of j s')) (sym (ids j))
                (subst (λ p. UnderWay height stepped G' (m.tasks j).id (σ.workers j) p) (sym (c.call.others j d))
                (under_way_kept height onward_step (σ.workers j) (m.tasks j).id (phase_of j s) (T.shown j l) (λ b. T.apart j i l inside d b c.busy) (T.under_way j l))));
            carried = put_all ℕ_discrete (λ j f. j < m.starts → f.answer ≡ none → Carried w s' stepped j) m.lives mine _
                (λ l e. record { worker = i; inside = inside; task = c.task_id; busy = c.stays e }) (λ j d l e. kept_carried j d (T.carried j l e));
            apart = λ j k p q d b b' e. T.apart j k p q d (busy_before j b) (busy_before k b') (sym (ids j) ∙ e ∙ ids k);
          }

  -- ---- a start

  module _ (o : Operation) where
    pub record Start : Type 0 where
      pub call : Call
      pub free : busy_phase (phase_of i s) ≡ false
      pub busy : busy_phase (phase_of i s') ≡ true
      pub same_spots : G'.spot ≡ σ.shared.spot
      pub next : G'.next ≤ suc m.starts
      pub ledger : (q : Op) → G'.ops q.id ≡ some q → Entered (begin i o m) q
      pub tasked : Tasked (task m.starts [] []) W'
      pub under : UnderWay height (begin i o m) G' m.starts W' (phase_of i s')

    module _ (c : Start) where
      old : (j : ℕ) → j < m.starts → (begin i o m).lives j ≡ m.lives j
      old j l = put_other ℕ_discrete m.lives m.starts _ j (λ e. omega arith)

      onward_start : Onward height m (begin i o m) σ.shared G' m.starts
      onward_start = record { starts = omega arith; lives = λ j l d. old j l; new = []; order = sym (append-nil m.order); news = all_nil; later = c.call.later }

      -- a worker that is busy has an operation that was started
      busy_known : (j : ℕ) → j < w → busy_phase (phase_of j s) ≡ true → (m.tasks j).id < m.starts
      busy_known j l b = busy_started height m σ.shared (m.tasks j).id (σ.workers j) (phase_of j s) (T.shown j l) (T.under_way j l) b

      id_new : ((begin i o m).tasks i).id ≡ m.starts
      id_new = ap (λ t. t.id) (put_same ℕ_discrete m.tasks i (task m.starts [] []))

      id_old : (j : ℕ) → j ≢ i → (begin i o m).tasks j ≡ m.tasks j
      id_old j d = put_other ℕ_discrete m.tasks i (task m.starts [] []) j d

      carried_old : (j : ℕ) → Carried w s m j → Carried w s' (begin i o m) j
      carried_old j k = record { worker = k.worker; inside = k.inside; task = ap (λ t. t.id) (id_old k.worker other) ∙ k.task; busy = ap busy_phase (c.call.others k.worker other) ∙ k.busy }
        where
          other : k.worker ≢ i
          other e = let y : false ≡ true = sym c.free ∙ ap (λ x. busy_phase (phase_of x s)) (sym e) ∙ k.busy in let z : ◌≡◌ {A = ℕ} 0 1 = cc in omega arith

      pub start_tied : Tied n w σ' s' (begin i o m)
      start_tied =
          record {
            ready = c.call.ready;
            promise = c.call.promise;
            inv = c.call.inv;
            view = c.call.view;
            shown = shown_all c.call;
            remembers = record {
              reached = λ y l. T.remembers.reached y l ∙ ap (λ f. (f y).reached) (sym c.same_spots);
              waiting = λ y l. T.remembers.waiting y l ∙ ap (λ f. (f y).waiting) (sym c.same_spots);
            };
            placed = T.placed ∙ ap (λ f. ops (f []).reached) (sym c.same_spots);
            tasked = put_all ℕ_discrete (λ j X. j < w → Tasked ((begin i o m).tasks j) X) σ.workers i W'
                (λ l. subst (λ t. Tasked t W') (sym (put_same ℕ_discrete m.tasks i (task m.starts [] []))) c.tasked)
                (λ j d l. subst (λ t. Tasked t (σ.workers j)) (sym (id_old j d)) (T.tasked j l));
            ledger = c.ledger;
            next = c.next;
            chronicle = chronicle_start n height m i o T.chronicle;
            came = λ id u x. put_all ℕ_discrete (λ j f. j < suc m.starts → f.operation ≡ Operation.Update u → f.answer ≡ some x → Came G' j u x.value) m.lives m.starts _
                (λ l e f. absurd (let z : ◌≡◌ {A = ℕ} 0 1 = cc in omega arith)) (λ j d l e f. came_kept c.call.later (T.came j u x (omega arith) e f)) id;
            under_way = put_all ℕ_discrete (λ j X. j < w → UnderWay height (begin i o m) G' ((begin i o m).tasks j).id X (phase_of j s')) σ.workers i W'
                (λ l. subst (λ k. UnderWay height (begin i o m) G' k W' (phase_of i s')) (sym id_new) c.under)
                (λ j d l. subst (λ t. UnderWay height (begin i o m) G' t.id (σ.workers j) (phase_of j s')) (sym (id_old j d))
                (subst (λ p. UnderWay height (begin i o m) G' (m.tasks j).id (σ.workers j) p) (sym (c.call.others j d))
                (under_way_kept height onward_start (σ.workers j) (m.tasks j).id (phase_of j s) (T.shown j l) (λ b e. omega (arith, busy_known j l b)) (T.under_way j l))));
            carried = put_all ℕ_discrete (λ j f. j < suc m.starts → f.answer ≡ none → Carried w s' (begin i o m) j) m.lives m.starts _
                (λ l e. record { worker = i; inside = inside; task = id_new; busy = c.busy }) (λ j d l e. carried_old j (T.carried j (omega arith) e));
            apart = λ j k p q d. two j k p q d (ℕ_discrete j i) (ℕ_discrete k i);
          }
        where
          two : (j k : ℕ) → j < w → k < w → j ≢ k → Dec (j ≡ i) → Dec (k ≡ i) → busy_phase (phase_of j s') ≡ true → busy_phase (phase_of k s') ≡ true → ((begin i o m).tasks j).id ≢ ((begin i o m).tasks k).id
          two j k p q d (yes e) (yes f) b b' g = d (e ∙ sym f)
          two j k p q d (yes e) (no f) b b' g =
              omega (arith, subst (λ x. ((begin i o m).tasks x).id ≡ m.starts) (sym e) id_new, ap (λ t. t.id) (id_old k f), busy_known k q (ap busy_phase (sym (c.call.others k f)) ∙ b'))
          two j k p q d (no e) (yes f) b b' g =
              omega (arith, subst (λ x. ((begin i o m).tasks x).id ≡ m.starts) (sym f) id_new, ap (λ t. t.id) (id_old j e), busy_known j p (ap busy_phase (sym (c.call.others j e)) ∙ b))
          two j k p q d (no e) (no f) b b' g =
              T.apart j k p q d (ap busy_phase (sym (c.call.others j e)) ∙ b) (ap busy_phase (sym (c.call.others k f)) ∙ b') (sym (ap (λ t. t.id) (id_old j e)) ∙ g ∙ ap (λ t. t.id) (id_old k f))
