-- The step of a worker with a query keeps the moment and the machine together: it is placed at its reading of the root,
-- and answers what the book was there. Assumes nothing.
use Rattle.std.specs.Prelude.{◌≡◌, refl, true, List, [], ◌++◌, ℕ, suc, ◌+◌, ◌^◌, ◌≤◌, ◌<◌}
use Rattle.std.proofs.Common.{sym, ap, ◌∙◌, subst, append-nil, arith}
use Rattle.std.proofs.Math.Option.{none}
use Rattle.std.proofs.Math.Decide.{ℕ_discrete}
use Rattle.decibel.specs.Told.{Told, gives}
use Rattle.trie.specs.declared.Update.{Update}
use Rattle.trie.specs.declared.Query.{Query}
use Rattle.trie.specs.declared.Operation.{Operation}
use Rattle.trie.specs.declared.Phase.{Phase}
use Rattle.trie.specs.Size.{height_of}
use Rattle.trie.proofs.SizeLaws.{sized}
use Rattle.trie.specs.Record.{busy_phase}
use Rattle.trie.specs.Values.{Course, on, done}
use Rattle.trie.specs.Stepping.{Stepped}
use Rattle.trie.specs.Calls.{State}
use Rattle.history.specs.Lists.{All}
use Rattle.history.specs.Book.{Book, blank, answer}
use Rattle.history.proofs.PutLaws.{put_same}
use Rattle.history.proofs.Replay.{view, replay_at}
use Rattle.history.specs.Order.{Placed, Memory, memory, answer_of, advance, updates}
use Rattle.history.specs.Histories.{phase_of}
use Rattle.history.specs.Theorem.{replay, Stands, most_steps}
use Rattle.history.proofs.Machine.{Shared, idle, at, settled}
use Rattle.history.proofs.Machine.{State as Machine}
use Rattle.history.proofs.View.{Resting, rests}
use Rattle.history.proofs.Walks.{Under, finding, ranking, selecting}
use Rattle.history.proofs.Asked.{Turns, answers, onward as goes, under_busy, under_resting}
use Rattle.history.proofs.Chronicle.{Places, Turn, onward, same_operation}
use Rattle.history.proofs.Placing.{updates_append, same_book}
use Rattle.history.proofs.UnderWay.{Open, Place, Querying, resting, walking}
use Rattle.history.proofs.Tied.{Tied}
use Rattle.history.proofs.TiedCalls.{Call, step_tied}

-- a query's step after its reading of the root adds nothing to what is remembered
pub walk_adds : (n i : ℕ) (s : State) (m : Memory) {ver : _} {u : ℕ} {B : Book} {h e : ℕ} {q : Query} {p : Phase} → Under ver u B h e q p → advance n i p s m ≡ m
walk_adds n i s m (finding l st) = refl
walk_adds n i s m (ranking l st r) = refl
walk_adds n i s m (selecting c st x l d g k v) = refl

-- what a query's step tells, and the moment after it
pub record Result (n w : ℕ) (σ : Machine) (m : Memory) (i : ℕ) (new : List Placed) (told : Told Course) (s' : State) : Type 0 where
  pub course : Course
  pub is : told ≡ gives course
  pub tied : Tied n w (settled σ i (σ.shared, idle)) s'
      (memory (suc m.moment) m.starts (onward n (height_of n) m (m.tasks i).id (answer_of m.moment course)) m.tasks m.waiting m.reached (m.order ++ new))

module _ (n w : ℕ) (σ : Machine) (s : State) (m : Memory) (i : ℕ) (inside : i < w) (T : Tied n w σ s m) (busy : busy_phase (phase_of i s) ≡ true) where
  abbrev height : ℕ
  height = height_of n

  abbrev G : Shared
  G = σ.shared

  abbrev mine : ℕ
  mine = (m.tasks i).id

  -- the book of the order is what the root's version shows
  pub book_now : replay blank m.order ≡ view (at G []).reached
  book_now = same_book blank m.order (at G []).reached T.placed ∙ (λ k c. replay_at blank c (at G []).reached k)

  module _ (q : Query) (o : Open m mine (Operation.Query q)) (new : List Placed) (p : Places n height m new)
      (news : All (λ p. (q : Query) → p.operation ≡ Operation.Query q → p.id ≡ mine) new) (same : updates new ≡ [])
      (sp : Place (m.order ++ new) mine (Operation.Query q)) (by : sp.moment ≤ m.moment) where
    abbrev after : Course → Memory
    after course = memory (suc m.moment) m.starts (onward n height m mine (answer_of m.moment course)) m.tasks m.waiting m.reached (m.order ++ new)

    stands : Stands n (m.order ++ new) mine (m.lives mine).operation (record { moment = m.moment; value = answer (2 ^ height) (Operation.Query q) (replay blank sp.before) })
    stands = subst (λ z. Stands n (m.order ++ new) mine z (record { moment = m.moment; value = answer (2 ^ height) (Operation.Query q) (replay blank sp.before) })) (sym o.operation)
        (record {
          before = sp.before;
          behind = sp.behind;
          moment = sp.moment;
          is = sp.is;
          by = by;
          answers = ap (λ c. answer c (Operation.Query q) (replay blank sp.before)) (sym (sized n T.ready.sized).power);
        })

    no_update : (u : Update) → (m.lives mine).operation ≡ Operation.Update u → ⊥
    no_update u e = let y : Operation.Query q ≡ Operation.Update u = sym o.operation ∙ e in let z : ◌≡◌ {A = ℕ} 0 1 = cc in omega arith

    steps : (course : Course) (s' : State) → Call n w σ s s' m i inside T G idle → Turn n height m new mine (answer_of m.moment course) → Querying height (after course) G mine (phase_of i s')
        → (answer_of m.moment course ≡ none → busy_phase (phase_of i s') ≡ true) → Tied n w (settled σ i (G, idle)) s' (after course)
    steps course s' c t u y = step_tied n w σ s s' m i inside T G idle new (answer_of m.moment course) m.tasks m.waiting m.reached
        (record {
          call = c;
          busy = busy;
          same_next = refl;
          same_ops = refl;
          remembers = record { reached = T.remembers.reached; waiting = T.remembers.waiting };
          placed = updates_append m.order new ∙ ap (λ z. updates m.order ++ z) same ∙ append-nil (updates m.order) ∙ T.placed;
          task_others = λ j d. refl;
          task_id = refl;
          tasked = tt;
          known = o.known;
          places = p;
          news = news;
          turn = t;
          came = λ u x e f. absurd (no_update u f);
          under = u;
          stays = y;
        })

    abbrev given : Course
    given = done (answer (2 ^ height) (Operation.Query q) (replay blank sp.before))

    pub query_tied : {e : ℕ} {r : Stepped} → Turns G (replay blank sp.before) height q s.nodes s.versions e r → (m.lives mine).steps + suc e ≤ most_steps height (Operation.Query q)
        → (s' : State) → phase_of i s' ≡ r.worker.phase → (Resting r.worker.phase → Call n w σ s s' m i inside T G idle) → Result n w σ m i new r.told s'
    query_tied answers time s' f c =
        record {
          course = given;
          is = refl;
          tied = steps given s' (c rests) (omega (arith, time, ap (most_steps height) o.operation), stands) (subst (λ z. Querying height (after given) G mine z) (sym f) resting)
              (λ e. absurd (let z : ◌≡◌ {A = ℕ} 0 1 = cc in omega arith));
        }
    query_tied (goes {e = e} {p = z} u) time s' f c =
        record {
          course = on;
          is = refl;
          tied = steps on s' (c (under_resting u)) (omega (arith, time, ap (most_steps height) o.operation))
              (subst (λ z. Querying height (after on) G mine z) (sym f)
              (walking (record { known = o.known; operation = same_operation n height m mine none mine ∙ o.operation; unanswered = ap (λ l. l.answer) (put_same ℕ_discrete m.lives mine _) })
              (subst (λ l. l.steps + suc e ≤ most_steps height (Operation.Query q)) (sym (put_same ℕ_discrete m.lives mine _)) (omega (arith, time))) sp u)) (λ e. ap busy_phase f ∙ under_busy u);
        }
