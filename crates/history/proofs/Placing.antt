-- The order has the updates that have reached the root, as they came, with queries between: so its book is the book of the
-- root's list, and an update that has reached the root stands there with its true answer. Assumes nothing.
use Rattle.std.specs.Prelude.{◌≡◌, refl, ◌≢◌, ◌⊎◌, Bool, true, false, not, List, [], ◌∷◌, ◌++◌, ℕ}
use Rattle.std.proofs.Common.{sym, ap, ap₂, ◌∙◌, subst, inl, inr, arith}
use mathlib.Core.List.Memᴰ
use Rattle.trie.specs.declared.Update.{Update}
use Rattle.trie.specs.declared.Operation.{Operation}
use Rattle.trie.specs.Choice.{pick}
use Rattle.trie.specs.Record.{cell_of}
use Rattle.trie.specs.Values.{yes', no'}
use Rattle.history.specs.Lists.{◌∈◌, All, all_nil, all_cons}
use Rattle.history.proofs.ListLaws.{all_head, all_tail}
use Rattle.history.specs.Book.{Book, fits, write, effect, answer}
use Rattle.history.specs.Arrivals.{Op, Entry, entry}
use Rattle.history.proofs.Replay.{Truthful, Distinct, dist_nil, dist_cons, distinct_apart, replay}
use Rattle.history.specs.Order.{Placed, placed, places, if_update, updates, ops}
use Rattle.history.specs.Theorem.{Once, replay as replay_order}

pub ops_append : (s t : List Entry) → ops (s ++ t) ≡ ops s ++ ops t
ops_append [] t = refl
ops_append (e ∷ s) t = ap (λ z. e.op ∷ z) (ops_append s t)

pub updates_append : (s t : List Placed) → updates (s ++ t) ≡ updates s ++ updates t
updates_append [] t = refl
updates_append (p ∷ s) t = go p.operation (updates_append s t)
  where
    go : (o : Operation) → updates (s ++ t) ≡ updates s ++ updates t → if_update o p.id (updates (s ++ t)) ≡ if_update o p.id (updates s) ++ updates t
    go (Operation.Update u) e = ap (λ z. record { id = p.id; update = u } ∷ z) e
    go (Operation.Query q) e = e

pub updates_places : (m : ℕ) (s : List Entry) → updates (places m s) ≡ ops s
updates_places m [] = refl
updates_places m (e ∷ s) = ap (λ z. e.op ∷ z) (updates_places m s)

-- ---- the book

pub same_book : (B : Book) (s : List Placed) (R : List Entry) → updates s ≡ ops R → replay_order B s ≡ replay B R
same_book B [] [] e = refl
same_book B [] (x ∷ R) e = absurd (let z : ◌≡◌ {A = ℕ} 0 1 = cc in omega arith)
same_book B (p ∷ s) R e = go p.operation R e (λ C Q f. same_book C s Q f)
  where
    go : (o : Operation) (R : List Entry) → if_update o p.id (updates s) ≡ ops R → ((C : Book) (Q : List Entry) → updates s ≡ ops Q → replay_order C s ≡ replay C Q)
        → replay_order (effect o B) s ≡ replay B R
    go (Operation.Query q) R f k = k B R f
    go (Operation.Update u) [] f k = absurd (let z : ◌≡◌ {A = ℕ} 0 1 = cc in omega arith)
    go (Operation.Update u) (x ∷ Q) f k =
        let same : u ≡ x.op.update = ap (λ (o : Op). o.update) (first f) in
        k (write B u) Q (rest f) ∙ ap (λ v. replay (write B v) Q) same
      where
        first : {a b : Op} {y z : List Op} → a ∷ y ≡ b ∷ z → a ≡ b
        first g = cc

        rest : {a b : Op} {y z : List Op} → a ∷ y ≡ b ∷ z → y ≡ z
        rest g = cc

-- ---- where an update stands

pub record Found (n : ℕ) (B : Book) (s : List Placed) (o : Op) (r : Bool) : Type 0 where
  pub before : List Placed
  pub behind : List Placed
  pub moment : ℕ
  pub is : s ≡ before ++ (placed o.id (Operation.Update o.update) moment ∷ behind)
  pub answers : pick r yes' no' ≡ answer n (Operation.Update o.update) (replay_order B before)

said : (r b : Bool) → r ≡ not b → pick r yes' no' ≡ pick b no' yes'
said true true e = absurd (let z : ◌≡◌ {A = ℕ} 0 1 = cc in omega arith)
said true false e = refl
said false true e = refl
said false false e = absurd (let z : ◌≡◌ {A = ℕ} 0 1 = cc in omega arith)

pub found : (n : ℕ) (B : Book) (s : List Placed) (R : List Entry) (o : Op) (r : Bool) → updates s ≡ ops R → Truthful B R → entry o r ∈ R → Found n B s o r
found n B [] [] o r e t m = absurd (Memᴰ.not-nil m)
found n B [] (x ∷ R) o r e t m = absurd (let z : ◌≡◌ {A = ℕ} 0 1 = cc in omega arith)
found n B (p ∷ s) R o r e t m = go p.operation refl R e t m (λ C Q f u k. found n C s Q o r f u k)
  where
    more : (q : Operation) → p.operation ≡ q → Found n (effect q B) s o r → Found n B (p ∷ s) o r
    more q g f = record {
      before = p ∷ f.before;
      behind = f.behind;
      moment = f.moment;
      is = ap (λ z. p ∷ z) f.is;
      answers = f.answers ∙ ap (λ x. answer n (Operation.Update o.update) (replay_order (effect x B) f.before)) (sym g);
    }

    here : (u : Update) (x : Entry) → p.operation ≡ Operation.Update u → record { id = p.id; update = u } ≡ x.op → entry o r ≡ x
        → x.res ≡ not (fits x.op.update (B (cell_of x.op.update))) → Found n B (p ∷ s) o r
    here u x g f q t = record {
      before = [];
      behind = s;
      moment = p.moment;
      is = ap₂ (λ (i : ℕ) (a : Operation). placed i a p.moment ∷ s) (ap (λ (z : Op). z.id) same) (g ∙ ap (λ (z : Op). Operation.Update z.update) same);
      answers = said r (fits o.update (B (cell_of o.update))) (ap (λ (z : Entry). z.res) q ∙ t ∙ ap (λ (z : Entry). not (fits z.op.update (B (cell_of z.op.update)))) (sym q));
    }
      where
        same : record { id = p.id; update = u } ≡ o
        same = f ∙ ap (λ (z : Entry). z.op) (sym q)

    go : (q : Operation) → p.operation ≡ q → (R : List Entry) → if_update q p.id (updates s) ≡ ops R → Truthful B R → entry o r ∈ R
        → ((C : Book) (Q : List Entry) → updates s ≡ ops Q → Truthful C Q → entry o r ∈ Q → Found n C s o r) → Found n B (p ∷ s) o r
    go (Operation.Query q) g R f t m k = more (Operation.Query q) g (k B R f t m)
    go (Operation.Update u) g [] f t m k = absurd (Memᴰ.not-nil m)
    go (Operation.Update u) g (x ∷ Q) f t m k = by (Memᴰ.cases_cons m)
      where
        first : {a b : Op} {y z : List Op} → a ∷ y ≡ b ∷ z → a ≡ b
        first g = cc

        rest : {a b : Op} {y z : List Op} → a ∷ y ≡ b ∷ z → y ≡ z
        rest g = cc

        by : (entry o r ≡ x) ⊎ (entry o r ∈ Q) → Found n B (p ∷ s) o r
        by (inl q) = here u x g (first f) q t.0
        by (inr q) = more (Operation.Update u) g (k (write B u) Q (rest f) (subst (λ v. Truthful (write B v) Q) (sym (ap (λ (z : Op). z.update) (first f))) t.1) q)

-- ---- no update is placed twice

mem_updates : {p : Placed} {s : List Placed} (u : Update) → p.operation ≡ Operation.Update u → p ∈ s → record { id = p.id; update = u } ∈ updates s
mem_updates {p} u e (Memᴰ.head {x = a} {xs = s} q) = subst (λ (o : Operation). record { id = p.id; update = u } ∈ if_update o a.id (updates s)) (sym (ap (λ (z : Placed). z.operation) (sym q) ∙ e))
    (Memᴰ.head (ap (λ (z : Placed). record { id = z.id; update = u }) q))
mem_updates {p} u e (Memᴰ.tail {x = a} {xs = s} m) = go a.operation (mem_updates u e m)
  where
    go : (o : Operation) → record { id = p.id; update = u } ∈ updates s → record { id = p.id; update = u } ∈ if_update o a.id (updates s)
    go (Operation.Update v) k = Memᴰ.tail k
    go (Operation.Query q) k = k

ops_mem : {o : Op} (R : List Entry) → o ∈ ops R → (f : Entry) × (f ∈ R) × (f.op ≡ o)
ops_mem [] m = absurd (Memᴰ.not-nil m)
ops_mem {o} (e ∷ R) m = go (Memᴰ.cases_cons m) (λ k. ops_mem R k)
  where
    go : (o ≡ e.op) ⊎ (o ∈ ops R) → (o ∈ ops R → (f : Entry) × (f ∈ R) × (f.op ≡ o)) → (f : Entry) × (f ∈ (e ∷ R)) × (f.op ≡ o)
    go (inl q) k = (e, Memᴰ.head refl, sym q)
    go (inr q) k = let g = k q in (g.0, Memᴰ.tail g.1, g.2)

-- an update that comes to the root now has not been placed before
pub not_placed : (s : List Placed) (R W : List Entry) → updates s ≡ ops R → Distinct (R ++ W) → (e : Entry) → e ∈ W → (p : Placed) → p ∈ s → p.operation ≡ Operation.Update e.op.update → p.id ≢ e.op.id
not_placed s R W u d e m p k o i = go (ops_mem R (subst (λ z. record { id = p.id; update = e.op.update } ∈ z) u (mem_updates e.op.update o k)))
  where
    go : (f : Entry) × (f ∈ R) × (f.op ≡ record { id = p.id; update = e.op.update }) → ⊥
    go (f, g, q) = distinct_apart R W d g m (sym i ∙ sym (ap (λ (z : Op). z.id) q))

pub once_places : (m : ℕ) {s : List Entry} → Distinct s → Once (places m s)
once_places m dist_nil = tt
once_places m (dist_cons {e = e} {s = s} h k) = (ids s h, once_places m k)
  where
    ids : (s : List Entry) → All (λ f. f.op.id ≢ e.op.id) s → All (λ q. q.id ≢ e.op.id) (places m s)
    ids [] a = all_nil
    ids (f ∷ s) a = all_cons (all_head a) (ids s (all_tail a))

pub all_places : {P : Placed → Type 0} (m : ℕ) {s : List Entry} → All (λ e. P (placed e.op.id (Operation.Update e.op.update) m)) s → All P (places m s)
all_places m all_nil = all_nil
all_places m (all_cons h k) = all_cons h (all_places m k)
