-- What a list of arrivals makes of each cell; which lists tell the truth; and lists in which no update stands twice.
-- Assumes nothing.
use Rattle.std.specs.Prelude.{◌≡◌, refl, ◌≢◌, ◌⊎◌, List, [], ◌∷◌, ◌++◌, Bool, true, false, not, ◌||◌, ℕ, eqb}
use Rattle.std.proofs.Common.{sym, ap, ◌∙◌, subst, inl, inr, eqb-true, eq-eqb, ne_eqb}
use mathlib.Core.List.Memᴰ
use Rattle.std.proofs.Math.Option.{Option, some, none}
use Rattle.std.proofs.Math.Decide.{ℕ_discrete}
use Rattle.std.proofs.lemmas.Bool.{eqb-false}
use Rattle.trie.specs.declared.Update.{Update}
use Rattle.trie.specs.Choice.{pick}
use Rattle.trie.specs.Record.{cell_of}
use Rattle.history.specs.Lists.{◌∈◌, All, all_nil, all_cons}
use Rattle.history.proofs.ListLaws.{all_head, all_tail, all_map, all_append, all_left, all_right, all_at, all_intro}
use Rattle.history.specs.Book.{Book, fits, want, after, turn, write}
use Rattle.history.specs.Arrivals.{Op, Entry, entry, refused, others, has, unseen}

pub after_fits : (u : Update) (m : Option ℕ) → fits u m ≡ true → after u m ≡ m
after_fits u m e = rw e

pub after_want : (u : Update) (m : Option ℕ) → fits u m ≡ false → after u m ≡ want u
after_want u m e = rw e

-- an update that was possible before another one changed the cell finds it as wanted
pub fits_flip : (a b : Update) (m : Option ℕ) → fits a m ≡ false → fits b m ≡ false → fits b (want a) ≡ true
fits_flip (Update.Insert k l) (Update.Insert k' l') none p q = refl
fits_flip (Update.Insert k l) (Update.Insert k' l') (some m) p q = refl
fits_flip (Update.Insert k l) (Update.Delete k') none p q = sym q
fits_flip (Update.Insert k l) (Update.Delete k') (some m) p q = sym p
fits_flip (Update.Delete k) (Update.Insert k' l') none p q = sym p
fits_flip (Update.Delete k) (Update.Insert k' l') (some m) p q = sym q
fits_flip (Update.Delete k) (Update.Delete k') none p q = refl
fits_flip (Update.Delete k) (Update.Delete k') (some m) p q = refl

-- ---- one cell

abbrev pub run : Option ℕ → List Entry → Option ℕ
run m [] = m
run m (e ∷ s) = run (after e.op.update m) s

-- each result is what the update gets, one after the other
abbrev pub Ok : Option ℕ → List Entry → Type 0
Ok m [] = Unit {0}
Ok m (e ∷ s) = (e.res ≡ not (fits e.op.update m)) × Ok (after e.op.update m) s

pub run_append : (m : Option ℕ) (s t : List Entry) → run m (s ++ t) ≡ run (run m s) t
run_append m [] t = refl
run_append m (e ∷ s) t = run_append (after e.op.update m) s t

pub ok_append : (m : Option ℕ) (s t : List Entry) → Ok m s → Ok (run m s) t → Ok m (s ++ t)
ok_append m [] t h k = k
ok_append m (e ∷ s) t h k = (h.0, ok_append (after e.op.update m) s t h.1 k)

pub ok_prefix : (m : Option ℕ) (s t : List Entry) → Ok m (s ++ t) → Ok m s
ok_prefix m [] t h = tt
ok_prefix m (e ∷ s) t h = (h.0, ok_prefix (after e.op.update m) s t h.1)

pub run_refused : (m : Option ℕ) (s : List Op) → All (λ o. fits o.update m ≡ true) s → run m (refused s) ≡ m
run_refused m [] h = refl
run_refused m (o ∷ s) h = ap (λ n. run n (refused s)) (after_fits o.update m (all_head h)) ∙ run_refused m s (all_tail h)

pub ok_refused : (m : Option ℕ) (s : List Op) → All (λ o. fits o.update m ≡ true) s → Ok m (refused s)
ok_refused m [] h = tt
ok_refused m (o ∷ s) h = rw (all_head h) (refl, ok_refused m s (all_tail h))

pub mem_refused : {o : Op} {s : List Op} → o ∈ s → entry o false ∈ refused s
mem_refused (Memᴰ.head e) = Memᴰ.head (ap (λ o. entry o false) e)
mem_refused (Memᴰ.tail m) = Memᴰ.tail (mem_refused m)

pub all_refused : {P : Op → Type 0} {s : List Op} → All P s → All (λ e. P e.op) (refused s)
all_refused all_nil = all_nil
all_refused (all_cons h k) = all_cons h (all_refused k)

-- ---- the other updates

pub all_others : {P : Op → Type 0} (i : ℕ) {s : List Op} → All P s → All P (others i s)
all_others i all_nil = all_nil
all_others {P} i (all_cons {a = o} {s = s} h k) = go (eqb o.id i) (all_others i k)
  where
    go : (b : Bool) → All P (others i s) → All P (pick b (others i s) (o ∷ others i s))
    go true r = r
    go false r = all_cons h r

pub mem_others : {o : Op} (i : ℕ) {s : List Op} → o.id ≢ i → o ∈ s → o ∈ others i s
mem_others {o} i n (Memᴰ.head {x = a} {xs = s} e) = go (eqb a.id i) refl
  where
    go : (b : Bool) → eqb a.id i ≡ b → o ∈ pick b (others i s) (a ∷ others i s)
    go true p = absurd (n (ap (λ r. r.id) e ∙ eqb-true _ _ p))
    go false p = Memᴰ.head e
mem_others {o} i n (Memᴰ.tail {x = a} {xs = s} m) = go (eqb a.id i) (mem_others i n m)
  where
    go : (b : Bool) → o ∈ others i s → o ∈ pick b (others i s) (a ∷ others i s)
    go true r = r
    go false r = Memᴰ.tail r

-- ---- the entries of one cell

abbrev pub keep : {P : Type 0} → Dec P → Entry → List Entry → List Entry
keep (yes p) e s = e ∷ s
keep (no n) e s = s

abbrev pub only : ℕ → List Entry → List Entry
only k [] = []
only k (e ∷ s) = keep (ℕ_discrete (cell_of e.op.update) k) e (only k s)

-- what the entries make of a cell
abbrev pub view : List Entry → Book
view s k = run none (only k s)

pub only_append : (k : ℕ) (s t : List Entry) → only k (s ++ t) ≡ only k s ++ only k t
only_append k [] t = refl
only_append k (e ∷ s) t = rw (only_append k s t) (go (ℕ_discrete (cell_of e.op.update) k))
  where
    go : (d : Dec (cell_of e.op.update ≡ k)) → keep d e (only k s ++ only k t) ≡ keep d e (only k s) ++ only k t
    go (yes p) = refl
    go (no n) = refl

pub only_none : (k : ℕ) {s : List Entry} → All (λ e. cell_of e.op.update ≢ k) s → only k s ≡ []
only_none k all_nil = refl
only_none k (all_cons {a = e} {s = s} h r) = go (ℕ_discrete (cell_of e.op.update) k) (only_none k r)
  where
    go : (d : Dec (cell_of e.op.update ≡ k)) → only k s ≡ [] → keep d e (only k s) ≡ []
    go (yes p) q = absurd (h p)
    go (no n) q = q

pub only_all : (k : ℕ) {s : List Entry} → All (λ e. cell_of e.op.update ≡ k) s → only k s ≡ s
only_all k all_nil = refl
only_all k (all_cons {a = e} {s = s} h r) = go (ℕ_discrete (cell_of e.op.update) k) (only_all k r)
  where
    go : (d : Dec (cell_of e.op.update ≡ k)) → only k s ≡ s → keep d e (only k s) ≡ e ∷ s
    go (yes p) q = ap (λ t. e ∷ t) q
    go (no n) q = absurd (n h)

pub only_cells : (k : ℕ) (s : List Entry) → All (λ e. cell_of e.op.update ≡ k) (only k s)
only_cells k [] = all_nil
only_cells k (e ∷ s) = go (ℕ_discrete (cell_of e.op.update) k) (only_cells k s)
  where
    go : (d : Dec (cell_of e.op.update ≡ k)) → All (λ e. cell_of e.op.update ≡ k) (only k s) → All (λ e. cell_of e.op.update ≡ k) (keep d e (only k s))
    go (yes p) r = all_cons p r
    go (no n) r = r

pub mem_only : {e : Entry} (k : ℕ) (s : List Entry) → e ∈ only k s → e ∈ s
mem_only k [] m = m
mem_only {e} k (a ∷ s) m = go (ℕ_discrete (cell_of a.op.update) k) m (λ q. mem_only k s q)
  where
    go : (d : Dec (cell_of a.op.update ≡ k)) → e ∈ keep d a (only k s) → (e ∈ only k s → e ∈ s) → e ∈ (a ∷ s)
    go (no n) q f = Memᴰ.tail (f q)
    go (yes p) q f = by (Memᴰ.cases_cons q)
      where
        by : (e ≡ a) ⊎ (e ∈ only k s) → e ∈ (a ∷ s)
        by (inl r) = Memᴰ.head r
        by (inr r) = Memᴰ.tail (f r)

pub only_mem : {e : Entry} (k : ℕ) {s : List Entry} → cell_of e.op.update ≡ k → e ∈ s → e ∈ only k s
only_mem {e} k c (Memᴰ.head {x = a} {xs = s} q) = go (ℕ_discrete (cell_of a.op.update) k)
  where
    go : (d : Dec (cell_of a.op.update ≡ k)) → e ∈ keep d a (only k s)
    go (yes p) = Memᴰ.head q
    go (no n) = absurd (n (ap (λ r. cell_of r.op.update) (sym q) ∙ c))
only_mem {e} k c (Memᴰ.tail {x = a} {xs = s} m) = go (ℕ_discrete (cell_of a.op.update) k) (only_mem k c m)
  where
    go : (d : Dec (cell_of a.op.update ≡ k)) → e ∈ only k s → e ∈ keep d a (only k s)
    go (yes q) r = Memᴰ.tail r
    go (no n) r = r

-- ---- the book of all cells

-- the book after the entries, from the book B
abbrev pub replay : Book → List Entry → Book
replay B [] = B
replay B (e ∷ s) = replay (write B e.op.update) s

-- the entries have the results that they get one after the other, from the book B
abbrev pub Truthful : Book → List Entry → Type 0
Truthful B [] = Unit {0}
Truthful B (e ∷ s) = (e.res ≡ not (fits e.op.update (B (cell_of e.op.update)))) × Truthful (write B e.op.update) s

pub replay_at : (B : Book) (k : ℕ) (s : List Entry) → replay B s k ≡ run (B k) (only k s)
replay_at B k [] = refl
replay_at B k (e ∷ s) = replay_at (write B e.op.update) k s ∙ go (ℕ_discrete (cell_of e.op.update) k)
  where
    go : (d : Dec (cell_of e.op.update ≡ k)) → run (turn d e.op.update (B k)) (only k s) ≡ run (B k) (keep d e (only k s))
    go (yes p) = refl
    go (no n) = refl

-- a list that tells the truth of each cell tells it of the book
pub truthful_by_cells : (B : Book) (s : List Entry) → ((k : ℕ) → Ok (B k) (only k s)) → Truthful B s
truthful_by_cells B [] f = tt
truthful_by_cells B (e ∷ s) f = (first (ℕ_discrete (cell_of e.op.update) (cell_of e.op.update)) (f (cell_of e.op.update)), truthful_by_cells (write B e.op.update) s (λ k. go k (ℕ_discrete (cell_of e.op.update) k) (f k)))
  where
    first : (d : Dec (cell_of e.op.update ≡ cell_of e.op.update)) → Ok (B (cell_of e.op.update)) (keep d e (only (cell_of e.op.update) s)) → e.res ≡ not (fits e.op.update (B (cell_of e.op.update)))
    first (yes p) o = o.0
    first (no n) o = absurd (n refl)

    go : (k : ℕ) (d : Dec (cell_of e.op.update ≡ k)) → Ok (B k) (keep d e (only k s)) → Ok (turn d e.op.update (B k)) (only k s)
    go k (yes p) o = o.1
    go k (no n) o = o

-- ---- no update twice

-- no entry of s is of the update with the number i
abbrev pub NoneOf : ℕ → List Entry → Type 0
NoneOf i s = All (λ e. e.op.id ≢ i) s

pub data Distinct : List Entry → Type 0 where
  dist_nil : Distinct []
  dist_cons : {e : Entry} {s : List Entry} → NoneOf e.op.id s → Distinct s → Distinct (e ∷ s)

pub distinct_head : {e : Entry} {s : List Entry} → Distinct (e ∷ s) → NoneOf e.op.id s
distinct_head (dist_cons h k) = h

pub distinct_tail : {e : Entry} {s : List Entry} → Distinct (e ∷ s) → Distinct s
distinct_tail (dist_cons h k) = k

pub distinct_append : {s t : List Entry} → Distinct s → Distinct t → All (λ f. NoneOf f.op.id s) t → Distinct (s ++ t)
distinct_append dist_nil d a = d
distinct_append {t = t} (dist_cons {e = e} {s = s} h k) d a = dist_cons (all_append h (all_map (λ (f : Entry) (n : NoneOf f.op.id (e ∷ s)) q. all_head n (sym q)) a)) (distinct_append k d (all_map (λ (f : Entry) (n : NoneOf f.op.id (e ∷ s)). all_tail n) a))

pub distinct_prefix : (s t : List Entry) → Distinct (s ++ t) → Distinct s
distinct_prefix [] t d = dist_nil
distinct_prefix (e ∷ s) t d = dist_cons (all_left s t (distinct_head d)) (distinct_prefix s t (distinct_tail d))

pub distinct_right : (s t : List Entry) → Distinct (s ++ t) → Distinct t
distinct_right [] t d = d
distinct_right (e ∷ s) t d = distinct_right s t (distinct_tail d)

pub distinct_apart : {e f : Entry} (s t : List Entry) → Distinct (s ++ t) → e ∈ s → f ∈ t → f.op.id ≢ e.op.id
distinct_apart {e} {f} s t d (Memᴰ.head {x = a} {xs = r} q) m = subst (λ x. f.op.id ≢ x.op.id) (sym q) (all_at (all_right r (distinct_head d)) m)
distinct_apart {e} {f} s t d (Memᴰ.tail {x = a} {xs = r} q) m = distinct_apart r t (distinct_tail d) q m

pub all_only : {P : Entry → Type 0} (k : ℕ) {s : List Entry} → All P s → All P (only k s)
all_only k all_nil = all_nil
all_only {P} k (all_cons {a = e} {s = s} h r) = go (ℕ_discrete (cell_of e.op.update) k) (all_only k r)
  where
    go : (d : Dec (cell_of e.op.update ≡ k)) → All P (only k s) → All P (keep d e (only k s))
    go (yes p) q = all_cons h q
    go (no n) q = q

pub distinct_only : (k : ℕ) {s : List Entry} → Distinct s → Distinct (only k s)
distinct_only k dist_nil = dist_nil
distinct_only k (dist_cons {e = e} {s = s} h r) = go (ℕ_discrete (cell_of e.op.update) k) (distinct_only k r)
  where
    go : (d : Dec (cell_of e.op.update ≡ k)) → Distinct (only k s) → Distinct (keep d e (only k s))
    go (yes p) q = dist_cons (all_only k h) q
    go (no n) q = q

-- where a number tells the update, a list is without repetition if each cell's entries are
pub distinct_by_cells : (ops : ℕ → Option Op) (s : List Entry) → All (λ e. ops e.op.id ≡ some e.op) s → ((k : ℕ) → Distinct (only k s)) → Distinct s
distinct_by_cells ops [] a f = dist_nil
distinct_by_cells ops (e ∷ s) a f =
    dist_cons (all_intro s (λ x m q. apart x m (ap (λ (o : Op). cell_of o.update) (same x.op (sym (all_at (all_tail a) m) ∙ ap ops q ∙ all_head a))) q)) (distinct_by_cells ops s (all_tail a) (λ k. less k (ℕ_discrete (cell_of e.op.update) k) (f k)))
  where
    same : (o : Op) → some o ≡ some e.op → o ≡ e.op
    same o q = cc

    first : (d : Dec (cell_of e.op.update ≡ cell_of e.op.update)) → Distinct (keep d e (only (cell_of e.op.update) s)) → NoneOf e.op.id (only (cell_of e.op.update) s)
    first (yes p) q = distinct_head q
    first (no n) q = absurd (n refl)

    apart : (x : Entry) → x ∈ s → cell_of x.op.update ≡ cell_of e.op.update → x.op.id ≡ e.op.id → ⊥
    apart x m c q = all_at (first (ℕ_discrete (cell_of e.op.update) (cell_of e.op.update)) (f (cell_of e.op.update))) (only_mem (cell_of e.op.update) c m) q

    less : (k : ℕ) (d : Dec (cell_of e.op.update ≡ k)) → Distinct (keep d e (only k s)) → Distinct (only k s)
    less k (yes p) q = distinct_tail q
    less k (no n) q = q

abbrev pub NoneOps : ℕ → List Op → Type 0
NoneOps i s = All (λ o. o.id ≢ i) s

pub data DistinctOps : List Op → Type 0 where
  ops_nil : DistinctOps []
  ops_cons : {o : Op} {s : List Op} → NoneOps o.id s → DistinctOps s → DistinctOps (o ∷ s)

pub ops_snoc : {s : List Op} (o : Op) → DistinctOps s → NoneOps o.id s → DistinctOps (s ++ (o ∷ []))
ops_snoc o ops_nil a = ops_cons all_nil ops_nil
ops_snoc o (ops_cons h k) a = ops_cons (all_append h (all_cons (λ q. all_head a (sym q)) all_nil)) (ops_snoc o k (all_tail a))

pub none_others : (i : ℕ) (s : List Op) → NoneOps i (others i s)
none_others i [] = all_nil
none_others i (o ∷ s) = go (eqb o.id i) refl (none_others i s)
  where
    go : (b : Bool) → eqb o.id i ≡ b → NoneOps i (others i s) → NoneOps i (pick b (others i s) (o ∷ others i s))
    go true p q = q
    go false p q = all_cons (eqb-false _ _ p) q

pub distinct_others : (i : ℕ) {s : List Op} → DistinctOps s → Distinct (refused (others i s))
distinct_others i ops_nil = dist_nil
distinct_others i (ops_cons {o = o} {s = s} h k) = go (eqb o.id i) (distinct_others i k)
  where
    go : (b : Bool) → Distinct (refused (others i s)) → Distinct (refused (pick b (others i s) (o ∷ others i s)))
    go true q = q
    go false q = dist_cons (all_refused (all_others i h)) q

-- ---- those that have not come yet

pub has_mem : {e : Entry} {s : List Entry} → e ∈ s → has s e.op.id ≡ true
has_mem {e} (Memᴰ.head {x = a} {xs = s} q) = rw (eq-eqb a.op.id e.op.id (ap (λ x. x.op.id) (sym q))) refl
has_mem {e} (Memᴰ.tail {x = a} {xs = s} m) = rw (has_mem m) (go (eqb a.op.id e.op.id))
  where
    go : (b : Bool) → (b || true) ≡ true
    go true = refl
    go false = refl

pub has_none : (i : ℕ) {s : List Entry} → NoneOf i s → has s i ≡ false
has_none i all_nil = refl
has_none i (all_cons {a = a} h k) = rw (ne_eqb a.op.id i h, has_none i k) refl

-- what has come is passed over, and what has not is kept
pub unseen_split : (r p q : List Entry) → All (λ e. has r e.op.id ≡ true) p → All (λ e. has r e.op.id ≡ false) q → unseen r (p ++ q) ≡ q
unseen_split r [] [] a b = refl
unseen_split r [] (e ∷ q) a b = rw (all_head b) (ap (λ s. e ∷ s) (unseen_split r [] q all_nil (all_tail b)))
unseen_split r (e ∷ p) q a b = rw (all_head a) (unseen_split r p q (all_tail a) b)
