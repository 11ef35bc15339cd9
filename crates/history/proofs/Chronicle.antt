-- The facts of the order and of the operations' lives alone, whatever machine made them: no place twice, moments that do
-- not fall, answers in time. Assumes nothing.
use Rattle.std.specs.Prelude.{◌≡◌, refl, ◌≢◌, ◌⊎◌, List, [], ◌∷◌, ◌++◌, ℕ, suc, ◌≤◌, ◌<◌}
use Rattle.std.proofs.Common.{sym, ap, ◌∙◌, subst, inl, inr, append_assoc, le_refl, arith}
use mathlib.Core.List.Memᴰ
use Rattle.std.proofs.Math.Option.{Option, some, none}
use Rattle.std.proofs.Math.Decide.{ℕ_discrete}
use Rattle.trie.specs.declared.Query.{Query}
use Rattle.trie.specs.declared.Operation.{Operation}
use Rattle.history.specs.Lists.{◌∈◌, All}
use Rattle.history.proofs.ListLaws.{all_head, all_tail, all_map, all_append, all_at}
use Rattle.history.specs.Arrivals.{Op, Entry}
use Rattle.history.specs.Put.{put}
use Rattle.history.proofs.PutLaws.{put_all, put_other}
use Rattle.history.specs.Order.{Placed, placed, Answered, Life, life, Task, Memory, memory, begin}
use Rattle.history.specs.Theorem.{Once, Stands, Before, most_steps, InTime}

-- moments do not fall
abbrev pub Sorted : List Placed → Type 0
Sorted [] = Unit {0}
Sorted (p ∷ s) = All (λ q. p.moment ≤ q.moment) s × Sorted s

pub sorted_append : (s t : List Placed) (m : ℕ) → Sorted s → Sorted t → All (λ p. p.moment ≤ m) s → All (λ p. m ≤ p.moment) t → Sorted (s ++ t)
sorted_append [] t m a b c d = b
sorted_append (p ∷ s) t m a b c d = (all_append a.0 (all_map (λ q l. omega (arith, l, all_head c)) d), sorted_append s t m a.1 b (all_tail c) d)

pub sorted_same : (s : List Placed) (m : ℕ) → All (λ p. p.moment ≡ m) s → Sorted s
sorted_same [] m a = tt
sorted_same (p ∷ s) m a = (all_map (λ q e. omega (arith, e, all_head a)) (all_tail a), sorted_same s m (all_tail a))

-- where moments do not fall, the earlier moment stands before
pub stands_before : (p q : Placed) (s : List Placed) → Sorted s → p ∈ s → q ∈ s → p.moment < q.moment → Before p q s
stands_before p q s so (Memᴰ.head {x = a} {xs = r} e) m l = go (Memᴰ.cases_cons m)
  where
    split : {r : List Placed} → q ∈ r → (x : List Placed) × (y : List Placed) × (r ≡ x ++ (q ∷ y))
    split (Memᴰ.head {x = b} {xs = r} f) = ([], r, ap (λ (z : Placed). z ∷ r) (sym f))
    split (Memᴰ.tail {x = b} {xs = r} f) = more (split f)
      where
        more : (x : List Placed) × (y : List Placed) × (r ≡ x ++ (q ∷ y)) → (x : List Placed) × (y : List Placed) × (b ∷ r ≡ x ++ (q ∷ y))
        more (x, y, g) = (b ∷ x, y, ap (λ z. b ∷ z) g)

    made : (x : List Placed) × (y : List Placed) × (r ≡ x ++ (q ∷ y)) → Before p q (a ∷ r)
    made (x, y, g) = record { front = []; middle = x; back = y; is = ap (λ (z : Placed). z ∷ r) (sym e) ∙ ap (λ z. p ∷ z) g }

    go : (q ≡ a) ⊎ (q ∈ r) → Before p q (a ∷ r)
    go (inl f) = absurd (omega (arith, ap (λ z. z.moment) f, ap (λ z. z.moment) e))
    go (inr f) = made (split f)
stands_before p q s so (Memᴰ.tail {x = a} {xs = r} m) n l = go (Memᴰ.cases_cons n) (λ f. stands_before p q r so.1 m f l)
  where
    go : (q ≡ a) ⊎ (q ∈ r) → (q ∈ r → Before p q r) → Before p q (a ∷ r)
    go (inl f) k = absurd (omega (arith, ap (λ z. z.moment) f, all_at so.0 m))
    go (inr f) k = more (k f)
      where
        more : Before p q r → Before p q (a ∷ r)
        more b = record { front = a ∷ b.front; middle = b.middle; back = b.back; is = ap (λ z. a ∷ z) b.is }

pub once_append : (s t : List Placed) → Once s → Once t → All (λ q. All (λ p. p.id ≢ q.id) s) t → Once (s ++ t)
once_append [] t a b c = b
once_append (p ∷ s) t a b c = (all_append a.0 (all_map (λ (q : Placed) (f : All (λ (r : Placed). r.id ≢ q.id) (p ∷ s)) e. all_head f (sym e)) c), once_append s t a.1 b (all_map (λ (q : Placed) (f : All (λ (r : Placed). r.id ≢ q.id) (p ∷ s)). all_tail f) c))

-- who stands in the order goes on standing there when more is placed behind
pub stands_grow : {n : ℕ} {s : List Placed} {id : ℕ} {o : Operation} {a : Answered} (t : List Placed) → Stands n s id o a → Stands n (s ++ t) id o a
stands_grow {n} {s} {id} {o} {a} t p =
    record { before = p.before; behind = p.behind ++ t; moment = p.moment; is = ap (λ z. z ++ t) p.is ∙ append_assoc p.before (placed id o p.moment ∷ p.behind) t; by = p.by; answers = p.answers }

module _ (n h : ℕ) where
  pub record Chronicle (m : Memory) : Type 0 where
    pub once : Once m.order
    pub sorted : Sorted m.order
    pub started : All (λ p. (p.id < m.starts) × ((m.lives p.id).operation ≡ p.operation) × ((m.lives p.id).started < p.moment) × (p.moment < m.moment)) m.order
    pub born : (id : ℕ) → id < m.starts → (m.lives id).started < m.moment
    pub stands : (id : ℕ) (a : Answered) → id < m.starts → (m.lives id).answer ≡ some a → Stands n m.order id (m.lives id).operation a
    pub in_time : (id : ℕ) → id < m.starts → InTime h (m.lives id).operation (m.lives id).steps (m.lives id).answer

  -- what a call places: operations that were started, at this moment, and none that stands there already
  pub record Places (m : Memory) (new : List Placed) : Type 0 where
    pub known : All (λ p. (p.id < m.starts) × ((m.lives p.id).operation ≡ p.operation) × (p.moment ≡ m.moment)) new
    pub once : Once (m.order ++ new)

  -- how the worker's operation goes on: without an answer, and with steps left; or with one
  abbrev pub Turn : Memory → List Placed → ℕ → Option Answered → Type 0
  Turn m new id none = suc (m.lives id).steps < most_steps h (m.lives id).operation
  Turn m new id (some a) = (suc (m.lives id).steps ≤ most_steps h (m.lives id).operation) × Stands n (m.order ++ new) id (m.lives id).operation a

  abbrev pub onward : Memory → ℕ → Option Answered → ℕ → Life
  onward m id a = put ℕ_discrete m.lives id (life (m.lives id).operation (m.lives id).started (suc (m.lives id).steps) a)

  turn_in_time : (m : Memory) (new : List Placed) (id : ℕ) (a : Option Answered) → Turn m new id a → InTime h (m.lives id).operation (suc (m.lives id).steps) a
  turn_in_time m new id none p = p
  turn_in_time m new id (some a) p = p.0

  turn_stands : (m : Memory) (new : List Placed) (id : ℕ) (a : Option Answered) → Turn m new id a → (b : Answered) → a ≡ some b → Stands n (m.order ++ new) id (m.lives id).operation b
  turn_stands m new id none p b e = absurd (let z : ◌≡◌ {A = ℕ} 0 1 = cc in omega arith)
  turn_stands m new id (some a) p b e = let q : a ≡ b = cc in subst (λ z. Stands n (m.order ++ new) id (m.lives id).operation z) q p.1

  -- an operation and the moment of its start never change
  pub same_operation : (m : Memory) (id : ℕ) (a : Option Answered) (j : ℕ) → (onward m id a j).operation ≡ (m.lives j).operation
  same_operation m id a = put_all ℕ_discrete (λ j l. l.operation ≡ (m.lives j).operation) m.lives id _ refl (λ j n. refl)

  same_started : (m : Memory) (id : ℕ) (a : Option Answered) (j : ℕ) → (onward m id a j).started ≡ (m.lives j).started
  same_started m id a = put_all ℕ_discrete (λ j l. l.started ≡ (m.lives j).started) m.lives id _ refl (λ j n. refl)

  pub chronicle_step : (m : Memory) (new : List Placed) (id : ℕ) (a : Option Answered) (tasks : ℕ → Task) (waiting : ℕ → List Op) (reached : ℕ → List Entry)
      → Chronicle m → id < m.starts → Places m new → Turn m new id a
      → Chronicle (memory (suc m.moment) m.starts (onward m id a) tasks waiting reached (m.order ++ new))
  chronicle_step m new id a tasks waiting reached c l p t =
      record {
        once = p.once;
        sorted = sorted_append m.order new m.moment c.sorted (sorted_same new m.moment (all_map (λ q r. r.2) p.known))
            (all_map (λ q r. omega (arith, r.3)) c.started) (all_map (λ q r. omega (arith, r.2)) p.known);
        started = all_append
            (all_map (λ q r. (r.0, same_operation m id a q.id ∙ r.1, omega (arith, r.2, same_started m id a q.id), omega (arith, r.3))) c.started)
            (all_map (λ q r. (r.0, same_operation m id a q.id ∙ r.1, omega (arith, c.born q.id r.0, r.2, same_started m id a q.id), omega (arith, r.2))) p.known);
        born = λ j k. omega (arith, c.born j k, same_started m id a j);
        stands = put_all ℕ_discrete (λ j f. (b : Answered) → j < m.starts → f.answer ≡ some b → Stands n (m.order ++ new) j f.operation b) m.lives id _
            (λ b k e. turn_stands m new id a t b e) (λ j k b r e. stands_grow new (c.stands j b r e));
        in_time = put_all ℕ_discrete (λ j f. j < m.starts → InTime h f.operation f.steps f.answer) m.lives id _ (λ k. turn_in_time m new id a t) (λ j k. c.in_time j);
      }

  most_pos : (o : Operation) → 0 < most_steps h o
  most_pos (Operation.Update u) = omega arith
  most_pos (Operation.Query (Query.Find k)) = omega arith
  most_pos (Operation.Query (Query.Rank k)) = omega arith
  most_pos (Operation.Query (Query.Select j)) = omega arith
  most_pos (Operation.Query Query.Total) = omega arith

  pub chronicle_start : (m : Memory) (i : ℕ) (o : Operation) → Chronicle m → Chronicle (begin i o m)
  chronicle_start m i o c =
      record {
        once = c.once;
        sorted = c.sorted;
        started = all_map (λ q r. (omega (arith, r.0), ap (λ f. f.operation) (old q.id r.0) ∙ r.1, omega (arith, ap (λ f. f.started) (old q.id r.0), r.2), omega (arith, r.3))) c.started;
        born = put_all ℕ_discrete (λ j f. j < suc m.starts → f.started < suc m.moment) m.lives m.starts _ (λ k. le_refl (suc m.moment)) (λ j k l. omega (arith, c.born j (omega arith)));
        stands = put_all ℕ_discrete (λ j f. (a : Answered) → j < suc m.starts → f.answer ≡ some a → Stands n m.order j f.operation a) m.lives m.starts _
            (λ a k e. absurd (let z : ◌≡◌ {A = ℕ} 0 1 = cc in omega arith)) (λ j k a l. c.stands j a (omega arith));
        in_time = put_all ℕ_discrete (λ j f. j < suc m.starts → InTime h f.operation f.steps f.answer) m.lives m.starts _ (λ k. most_pos o) (λ j k l. c.in_time j (omega arith));
      }
    where
      old : (j : ℕ) → j < m.starts → (begin i o m).lives j ≡ m.lives j
      old j l = put_other ℕ_discrete m.lives m.starts _ j (λ e. omega arith)
