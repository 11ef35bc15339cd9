-- The step of a worker with an update keeps the moment and the machine together: who comes to the root is placed, and an
-- update that answers stands in the order with that answer. Assumes nothing.
use Rattle.std.specs.Prelude.{◌≡◌, refl, Bool, true, List, [], ◌++◌, ℕ, suc, ◌+◌, ◌*◌, ◌≤◌, ◌<◌}
use Rattle.std.proofs.Common.{sym, ap, ap₂, ◌∙◌, subst, arith}
use mathlib.Core.List.Memᴰ
use Rattle.std.proofs.Math.Option.{Option, some, none}
use Rattle.std.proofs.Math.Decide.{ℕ_discrete}
use Rattle.decibel.specs.Energy.{energy_of}
use Rattle.trie.specs.declared.Update.{Update}
use Rattle.trie.specs.declared.Operation.{Operation}
use Rattle.trie.specs.declared.Phase.{Phase}
use Rattle.trie.specs.Choice.{pick}
use Rattle.trie.specs.Size.{height_of}
use Rattle.trie.proofs.SizeLaws.{sized}
use Rattle.trie.specs.Values.{yes', no', Course}
use Rattle.trie.specs.Calls.{State}
use Rattle.trie.specs.Record.{busy_phase}
use Rattle.history.proofs.View.{Shown}
use Rattle.history.specs.Lists.{◌∈◌, All}
use Rattle.history.proofs.ListLaws.{all_map, all_append, all_at, all_right, all_intro}
use Rattle.history.specs.Book.{blank}
use Rattle.history.specs.Arrivals.{Op, Entry, entry}
use Rattle.history.specs.Put.{put}
use Rattle.history.proofs.PutLaws.{put_same}
use Rattle.history.proofs.Replay.{Truthful, truthful_by_cells, Distinct, distinct_right}
use Rattle.history.specs.Order.{Placed, placed, Answered, life, Memory, memory, places, advance, answer_of, lived, updates, ops}
use Rattle.history.specs.Histories.{phase_of}
use Rattle.history.specs.Theorem.{Once, Stands, most_steps}
use Rattle.history.proofs.Machine.{Shared, nothing, at_node, at_left, at_both, Worker, idle, reading, swapping, climbing, answered, at, step_w, settled}
use Rattle.history.proofs.Machine.{State as Machine}
use Rattle.history.proofs.Invariant.{Known, OnOp, WorkerOk, Inv}
use Rattle.history.proofs.Once.{truth_at, once_at}
use Rattle.history.proofs.Kept.{step_keeps}
use Rattle.history.proofs.Simulation.{Working, at_read, at_swap, at_climb, working_busy}
use Rattle.history.proofs.Counted.{steps_left, left_step}
use Rattle.history.proofs.Turned.{Turned, still, ended, Outcome, turns, course_of, same_numbers}
use Rattle.history.proofs.Chronicle.{Turn, onward, once_append, same_operation}
use Rattle.history.proofs.Placing.{ops_append, updates_append, updates_places, Found, found, not_placed, once_places, all_places}
use Rattle.history.proofs.Following.{Tasked, Advanced, advanced}
use Rattle.history.proofs.UnderWay.{Came, Updating, UnderWay}
use Rattle.history.proofs.Tied.{Tied}
use Rattle.history.proofs.TiedCalls.{Call, Step, step_tied}

-- an update under way has steps left
left_some : (h : ℕ) (W : Worker) → Working W → 1 ≤ steps_left h W
left_some h (reading o) at_read = omega arith
left_some h (swapping o v) at_swap = omega arith
left_some h (climbing c nothing) at_climb = omega arith
left_some h (climbing c (at_node v)) at_climb = omega arith
left_some h (climbing c (at_left v l s)) at_climb = omega arith
left_some h (climbing c (at_both v l s r t)) at_climb = omega arith
left_some h idle active = elim active [ ]
left_some h (answered _ _) active = elim active [ ]

module _ (h : ℕ) (m : Memory) (G : Shared) (id : ℕ) (o : Op) where
  to_updating : (W : Worker) (p : Phase) → Working W → OnOp (λ q. q ≡ o) W → UnderWay h m G id W p → Updating h m id o.update (steps_left h W)
  to_updating (reading q) p at_read e u = subst (λ (z : Op). Updating h m id z.update (steps_left h (reading q))) e u
  to_updating (swapping q v) p at_swap e u = subst (λ (z : Op). Updating h m id z.update (steps_left h (swapping q v))) e u
  to_updating (climbing c st) p at_climb e u = subst (λ (z : Op). Updating h m id z.update (steps_left h (climbing c st))) e u
  to_updating idle p active e u = elim active [ ]
  to_updating (answered _ _) p active e u = elim active [ ]

  from_updating : (W : Worker) (p : Phase) → Working W → OnOp (λ q. q ≡ o) W → Updating h m id o.update (steps_left h W) → UnderWay h m G id W p
  from_updating (reading q) p at_read e u = subst (λ (z : Op). Updating h m id z.update (steps_left h (reading q))) (sym e) u
  from_updating (swapping q v) p at_swap e u = subst (λ (z : Op). Updating h m id z.update (steps_left h (swapping q v))) (sym e) u
  from_updating (climbing c st) p at_climb e u = subst (λ (z : Op). Updating h m id z.update (steps_left h (climbing c st))) (sym e) u
  from_updating idle p active e u = elim active [ ]
  from_updating (answered _ _) p active e u = elim active [ ]

op_id : (t : _) (o : Op) (W : Worker) → Working W → OnOp (λ q. q ≡ o) W → Tasked t W → t.id ≡ o.id
op_id t o (reading q) at_read e k = k ∙ ap (λ (z : Op). z.id) e
op_id t o (swapping q v) at_swap e k = k ∙ ap (λ (z : Op). z.id) e
op_id t o (climbing c st) at_climb e k = k.0 ∙ ap (λ (z : Op). z.id) e
op_id t o idle active e k = elim active [ ]
op_id t o (answered _ _) active e k = elim active [ ]

still_on : (W : Worker) → Working W → (m : ℕ) → answer_of m (course_of W) ≡ none
still_on (reading o) at_read m = refl
still_on (swapping o v) at_swap m = refl
still_on (climbing c st) at_climb m = refl
still_on idle active m = elim active [ ]
still_on (answered _ _) active m = elim active [ ]

module _ (n w : ℕ) (σ : Machine) (s : State) (m : Memory) (i : ℕ) (inside : i < w) (T : Tied n w σ s m) (working : Working (σ.workers i)) where
  abbrev height : ℕ
  height = height_of n

  abbrev G : Shared
  G = σ.shared

  abbrev W : Worker
  W = σ.workers i

  abbrev G' : Shared
  G' = (step_w height energy_of G W).0

  abbrev W' : Worker
  W' = (step_w height energy_of G W).1

  abbrev mine : ℕ
  mine = (m.tasks i).id

  abbrev course : Course
  course = course_of W'

  step_inv : Inv height energy_of (settled σ i (G', W'))
  step_inv = step_keeps height energy_of σ i T.inv

  step_turns : Outcome height energy_of G W
  step_turns = turns height energy_of G W working

  abbrev o : Op
  o = step_turns.op

  adv : Advanced height i m (advance n i (phase_of i s) s m) G (G', W')
  adv = advanced height n (sized n T.ready.sized).power G s m T.view T.remembers i (phase_of i s) W working (T.shown i inside) (T.inv.works i) (T.inv.known i) (T.tasked i inside)

  abbrev m₁ : Memory
  m₁ = advance n i (phase_of i s) s m

  abbrev new : List Placed
  new = places m.moment adv.who

  abbrev told : Option Answered
  told = answer_of m.moment course

  abbrev after : Memory
  after = memory (suc m.moment) m.starts (onward n height m mine told) m₁.tasks m₁.waiting m₁.reached (m.order ++ new)

  -- what is remembered after the step
  lived_is : lived i course m₁ ≡ after
  lived_is = λ k. memory (suc (adv.moment k)) (adv.starts k)
      (put ℕ_discrete (adv.lives k) (adv.same_id k)
      (life (adv.lives k (adv.same_id k)).operation (adv.lives k (adv.same_id k)).started (suc (adv.lives k (adv.same_id k)).steps) (answer_of (adv.moment k) course)))
      m₁.tasks m₁.waiting m₁.reached (adv.order k)

  mine_is : mine ≡ o.id
  mine_is = op_id (m.tasks i) o W working step_turns.its (T.tasked i inside)

  updating : Updating height m mine o.update (steps_left height W)
  updating = to_updating height m G mine o W (phase_of i s) working step_turns.its (T.under_way i inside)

  -- ---- those that come to the root

  came_all : All (λ e. Known height G' e.op) ((at G []).reached ++ adv.who)
  came_all = subst (λ z. All (λ e. Known height G' e.op) z) adv.root (all_map (λ e p. p.1) (step_inv.spots []).inside)

  once_root : Distinct ((at G []).reached ++ adv.who)
  once_root = subst (λ z. Distinct z) adv.root (once_at height energy_of G' step_inv.spots [])

  entered : (e : Entry) → e ∈ adv.who → (e.op.id < m.starts) × ((m.lives e.op.id).operation ≡ Operation.Update e.op.update)
  entered e k = T.ledger e.op (ap (λ f. f e.op.id) (sym (same_numbers height energy_of G W).1) ∙ (all_at (all_right (at G []).reached came_all) k).is)

  new_known : All (λ p. (p.id < m.starts) × ((m.lives p.id).operation ≡ p.operation) × (p.moment ≡ m.moment)) new
  new_known = all_places m.moment (all_intro adv.who (λ e k. ((entered e k).0, (entered e k).1, refl)))

  new_once : Once (m.order ++ new)
  new_once = once_append m.order new T.chronicle.once (once_places m.moment (distinct_right (at G []).reached adv.who once_root))
      (all_places m.moment (all_intro adv.who (λ e k. all_intro m.order (λ p l q. not_placed m.order (at G []).reached adv.who T.placed once_root e k p l
      (sym (all_at T.chronicle.started l).1 ∙ ap (λ j. (m.lives j).operation) q ∙ (entered e k).1) q))))

  new_placed : updates (m.order ++ new) ≡ ops (at G' []).reached
  new_placed = updates_append m.order new ∙ ap₂ ◌++◌ T.placed (updates_places m.moment adv.who) ∙ sym (ap ops adv.root ∙ ops_append (at G []).reached adv.who)

  truthful : Truthful blank (at G' []).reached
  truthful = truthful_by_cells blank (at G' []).reached (truth_at height energy_of G' step_inv.spots [])

  moments : All (λ p. p.moment ≤ m.moment) (m.order ++ new)
  moments = all_append (all_map (λ p r. omega (arith, r.3)) T.chronicle.started) (all_map (λ p r. omega (arith, r.2)) new_known)

  -- ---- an update that answers stands in the order

  stands : (r : Bool) → entry o r ∈ (at G' []).reached → Stands n (m.order ++ new) mine (m.lives mine).operation (record { moment = m.moment; value = pick r yes' no' })
  stands r k = by (found n blank (m.order ++ new) (at G' []).reached o r new_placed truthful k)
    where
      by : Found n blank (m.order ++ new) o r → Stands n (m.order ++ new) mine (m.lives mine).operation (record { moment = m.moment; value = pick r yes' no' })
      by f = subst (λ j. Stands n (m.order ++ new) j (m.lives mine).operation (record { moment = m.moment; value = pick r yes' no' })) (sym mine_is)
          (subst (λ q. Stands n (m.order ++ new) o.id q (record { moment = m.moment; value = pick r yes' no' })) (sym updating.opened.operation)
          (record {
            before = f.before;
            behind = f.behind;
            moment = f.moment;
            is = f.is;
            answers = f.answers;
            by = all_at moments (subst (λ z. placed o.id (Operation.Update o.update) f.moment ∈ z) (sym f.is) (Memᴰ.append_right f.before (Memᴰ.head refl)));
          }))

  falls : suc (steps_left height W') ≤ steps_left height W
  falls = left_step height energy_of G W (left_some height W working)

  most_is : most_steps height (m.lives mine).operation ≡ 2 + 8 * height
  most_is = ap (most_steps height) updating.opened.operation

  -- what the step makes of the update: it goes on, with a step less; or it has answered
  turn_of : (X : Worker) → Turned o X → suc (steps_left height X) ≤ steps_left height W → WorkerOk height energy_of G' X → Turn n height m new mine (answer_of m.moment (course_of X))
  turn_of X (still k e) fall ok = subst (λ a. Turn n height m new mine a) (sym (still_on X k m.moment)) (omega (arith, updating.time, most_is, fall, left_some height X k))
  turn_of X (ended r) fall ok = (omega (arith, updating.time, most_is, fall), stands r ok)

  came_of : (X : Worker) → Turned o X → WorkerOk height energy_of G' X → (u : Update) (x : Answered) → answer_of m.moment (course_of X) ≡ some x → (m.lives mine).operation ≡ Operation.Update u
      → Came G' mine u x.value
  came_of X (still k e) ok u x a q = absurd (let y : none ≡ some x = sym (still_on X k m.moment) ∙ a in let z : ◌≡◌ {A = ℕ} 0 1 = cc in omega arith)
  came_of X (ended r) ok u x a q = record { result = r; told = sym value; at_root_lem = subst (λ z. entry z r ∈ (at G' []).reached) same ok }
    where
      value : pick r yes' no' ≡ x.value
      value = let y : record { moment = m.moment; value = pick r yes' no' } ≡ x = cc in ap (λ (z : Answered). z.value) y

      update_is : o.update ≡ u
      update_is = let y : Operation.Update o.update ≡ Operation.Update u = sym updating.opened.operation ∙ q in cc

      same : o ≡ record { id = mine; update = u }
      same = ap₂ (λ (j : ℕ) (v : Update). record { id = j; update = v }) (sym mine_is) update_is

  under_of : (X : Worker) → Turned o X → suc (steps_left height X) ≤ steps_left height W → (p : Phase)
      → UnderWay height (memory (suc m.moment) m.starts (onward n height m mine (answer_of m.moment (course_of X))) m₁.tasks m₁.waiting m₁.reached (m.order ++ new)) G' mine X p
  under_of X (ended r) fall p = tt
  under_of X (still k e) fall p = from_updating height _ G' mine o X p k e
      (record {
        opened = record {
          known = updating.opened.known;
          operation = same_operation n height m mine _ mine ∙ updating.opened.operation;
          unanswered = ap (λ f. f.answer) (put_same ℕ_discrete m.lives mine _) ∙ still_on X k m.moment;
        };
        time = subst (λ f. f.steps + steps_left height X ≤ 2 + 8 * height) (sym (put_same ℕ_discrete m.lives mine _)) (omega (arith, updating.time, fall));
      })

  stays_of : (X : Worker) → Turned o X → (p : Phase) → Shown X p → answer_of m.moment (course_of X) ≡ none → busy_phase p ≡ true
  stays_of X (still k e) p sh a = working_busy X p k sh
  stays_of X (ended r) p sh a = absurd (let z : ◌≡◌ {A = ℕ} 0 1 = cc in omega arith)

  worker_ok : WorkerOk height energy_of G' W'
  worker_ok = subst (λ X. WorkerOk height energy_of G' X) (put_same ℕ_discrete σ.workers i W') (step_inv.works i)

  -- ---- the moment after the step

  module _ (s' : State) (c : Call n w σ s s' m i inside T G' W') where
    goes_on_lem : Step n w σ s s' m i inside T G' W' new told m₁.tasks m₁.waiting m₁.reached
    goes_on_lem =
        record {
          call = c;
          busy = working_busy W (phase_of i s) working (T.shown i inside);
          same_next = (same_numbers height energy_of G W).0;
          same_ops = (same_numbers height energy_of G W).1;
          remembers = record { reached = adv.remembers.reached; waiting = adv.remembers.waiting };
          placed = new_placed;
          task_others = adv.others;
          task_id = adv.same_id;
          tasked = adv.tasked;
          known = updating.opened.known;
          places = record { known = new_known; once = new_once };
          news = all_places m.moment (all_intro adv.who (λ e k q z. absurd (let y : ◌≡◌ {A = ℕ} 0 1 = cc in omega arith)));
          turn = turn_of W' step_turns.turned falls worker_ok;
          came = came_of W' step_turns.turned worker_ok;
          stays = stays_of W' step_turns.turned (phase_of i s') c.shown;
          under = under_of W' step_turns.turned falls (phase_of i s');
        }

    pub update_tied : Tied n w (settled σ i (G', W')) s' (lived i course m₁)
    update_tied = subst (λ z. Tied n w (settled σ i (G', W')) s' z) (sym lived_is) (step_tied n w σ s s' m i inside T G' W' new told m₁.tasks m₁.waiting m₁.reached goes_on_lem)
