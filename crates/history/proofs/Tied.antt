-- A moment of a history and a state of the machine that belong together: the tables show the machine, what is remembered
-- agrees, and each worker's operation is on its way. Assumes nothing.
use Rattle.std.specs.Prelude.{◌≡◌, refl, ◌≢◌, true, List, [], ◌∷◌, ◌++◌, ℕ, suc, ◌+◌, ◌*◌, ◌≤◌, ◌<◌}
use Rattle.std.proofs.Common.{sym, ap, ◌∙◌, subst, append_assoc, arith}
use Rattle.std.proofs.Math.Option.{some, none}
use Rattle.history.proofs.Asked.{under_busy}
use Rattle.decibel.specs.Energy.{energy_of}
use Rattle.trie.specs.declared.Update.{Update}
use Rattle.trie.specs.declared.Query.{Query}
use Rattle.trie.specs.declared.Operation.{Operation}
use Rattle.trie.specs.declared.Phase.{Phase}
use Rattle.trie.specs.Size.{height_of}
use Rattle.trie.specs.Record.{busy_phase}
use Rattle.trie.specs.Calls.{State}
use Rattle.trie.proofs.CallLaws.{Ready}
use Rattle.history.specs.Lists.{All}
use Rattle.history.proofs.ListLaws.{all_map, all_append}
use Rattle.history.specs.Arrivals.{Op}
use Rattle.history.specs.Order.{Placed, placed, Answered, Memory, updates, ops}
use Rattle.history.specs.Histories.{phase_of}
use Rattle.history.specs.Theorem.{most_steps, Carried}
use Rattle.history.proofs.Machine.{Shared, Worker, idle, reading, swapping, climbing, answered, at}
use Rattle.history.proofs.Machine.{State as Machine}
use Rattle.history.proofs.Invariant.{Inv}
use Rattle.history.proofs.View.{View, Shown}
use Rattle.history.proofs.Kept.{Later}
use Rattle.history.proofs.Promise.{Promise}
use Rattle.history.proofs.Walks.{under_grow}
use Rattle.history.proofs.Chronicle.{Chronicle}
use Rattle.history.proofs.Following.{Remembers, Tasked}
use Rattle.history.proofs.UnderWay.{Open, Entered, Came, Updating, Querying, resting, asking, walking, UnderWay}

module _ (h : ℕ) where
  -- what another worker's call may do to what is remembered, where its operation is `mine`
  pub record Onward (m m' : Memory) (G G' : Shared) (mine : ℕ) : Type 0 where
    pub starts : m.starts ≤ m'.starts
    pub lives : (j : ℕ) → j < m.starts → j ≢ mine → m'.lives j ≡ m.lives j
    pub new : List Placed
    pub order : m'.order ≡ m.order ++ new
    pub news : All (λ p. ((m.lives p.id).operation ≡ p.operation) × ((q : Query) → p.operation ≡ Operation.Query q → p.id ≡ mine)) new
    pub later : Later h energy_of G G'

  module _ {m m' : Memory} {G G' : Shared} {mine : ℕ} (w : Onward m m' G G' mine) where
    open_kept : {id : ℕ} {o : Operation} → id ≢ mine → Open m id o → Open m' id o
    open_kept {id} {o} n p = record { known = omega (arith, p.known, w.starts); operation = ap (λ l. l.operation) same ∙ p.operation; unanswered = ap (λ l. l.answer) same ∙ p.unanswered }
      where
        same : m'.lives id ≡ m.lives id
        same = w.lives id p.known n

    updating_kept : {id : ℕ} {u : Update} {left : ℕ} → id ≢ mine → Updating h m id u left → Updating h m' id u left
    updating_kept {id} {u} {left} n p = record { opened = open_kept n p.opened; time = subst (λ l. l.steps + left ≤ 2 + 8 * h) (sym (w.lives id p.opened.known n)) p.time }

    querying_kept : {id : ℕ} {p : Phase} → (busy_phase p ≡ true → id ≢ mine) → Querying h m G id p → Querying h m' G' id p
    querying_kept f resting = resting
    querying_kept {id} f (asking {q = q} o z k a) =
        asking (open_kept (f refl) o) (ap (λ l. l.steps) (w.lives id o.known (f refl)) ∙ z) k
        (subst (λ s. All (λ p. p.id ≢ id) s) (sym w.order) (all_append a (all_map (λ p r e. f refl (sym e ∙ r.1 q (sym r.0 ∙ ap (λ i. (m.lives i).operation) e ∙ o.operation))) w.news)))
    querying_kept {id} f (walking {q = q} {p = p} {e = e} o t s u) =
        walking (open_kept (f (under_busy u)) o) (subst (λ l. l.steps + suc e ≤ most_steps h (Operation.Query q)) (sym (w.lives id o.known (f (under_busy u)))) t)
        (record { before = s.before; behind = s.behind ++ w.new; moment = s.moment; is = w.order ∙ ap (λ z. z ++ w.new) s.is ∙ append_assoc s.before (placed id (Operation.Query q) s.moment ∷ s.behind) w.new })
        (under_grow w.later.more w.later.same u)

    pub under_way_kept : (W : Worker) (id : ℕ) (p : Phase) → Shown W p → (busy_phase p ≡ true → id ≢ mine) → UnderWay h m G id W p → UnderWay h m' G' id W p
    under_way_kept idle id p s f u = querying_kept f u
    under_way_kept (reading o) id p s f u = updating_kept (f (ap busy_phase s)) u
    under_way_kept (swapping o v) id p s f u = updating_kept (f (ap busy_phase s)) u
    under_way_kept (climbing c st) id p s f u = updating_kept (f (ap busy_phase s)) u
    under_way_kept (answered o r) id p s f u = tt

module _ (n w : ℕ) where
  abbrev height : ℕ
  height = height_of n

  pub record Tied (σ : Machine) (s : State) (m : Memory) : Type 0 where
    pub ready : Ready n w s
    pub promise : Promise n w s.nodes s.versions s.board
    pub inv : Inv height energy_of σ
    pub view : View height σ.shared s.nodes s.versions
    pub shown : (i : ℕ) → i < w → Shown (σ.workers i) (phase_of i s)
    pub remembers : Remembers height m σ.shared
    pub placed : updates m.order ≡ ops (at σ.shared []).reached
    pub tasked : (i : ℕ) → i < w → Tasked (m.tasks i) (σ.workers i)
    pub ledger : (o : Op) → σ.shared.ops o.id ≡ some o → Entered m o
    pub next : σ.shared.next ≤ m.starts
    pub chronicle : Chronicle n height m
    pub came : (id : ℕ) (u : Update) (a : Answered) → id < m.starts → (m.lives id).operation ≡ Operation.Update u → (m.lives id).answer ≡ some a → Came σ.shared id u a.value
    pub under_way : (i : ℕ) → i < w → UnderWay height m σ.shared (m.tasks i).id (σ.workers i) (phase_of i s)
    pub carried : (id : ℕ) → id < m.starts → (m.lives id).answer ≡ none → Carried w s m id
    pub apart : (i j : ℕ) → i < w → j < w → i ≢ j → busy_phase (phase_of i s) ≡ true → busy_phase (phase_of j s) ≡ true → (m.tasks i).id ≢ (m.tasks j).id
