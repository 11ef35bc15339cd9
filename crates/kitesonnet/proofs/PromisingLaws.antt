-- The sum from the board's words is document 01's where all of them are records, and else damage; and it is small enough to be added.
-- Assumes nothing.
use Rattle.std.proofs.Math.Path.{◌≡◌, refl}
use Rattle.std.proofs.Common.{sym, ap, subst, ◌∙◌, leb-true, leb-false, drop-drop}
use Rattle.std.specs.Prelude.{is_some, Bool, true, false, ◌&&◌, List, leb, take, drop, Option, None, Some, Result}
use Prim.Native.Nat.{ℕ, zero, suc, ◌+◌, ◌*◌, ◌-◌, ◌≤◌, ◌<◌}
use native.Mathlib.Numerals.{add-one}
use native.Mathlib.Omega.{arith}
use Rattle.std.proofs.lemmas.Nat.{trailing_le}
use Rattle.trie.specs.declared.Phase.{Phase}
use Rattle.trie.specs.declared.Damage.{Damage}
use Rattle.trie.specs.declared.Worker.{Worker}
use Rattle.trie.specs.Choice.{pick}
use Rattle.trie.specs.Size.{height_of, most_workers}
use Rattle.trie.specs.Refusing.{damaged}
use Rattle.trie.specs.Record.{owed_phase, together, promised_of}
use Rattle.steps.proofs.Together.{together_nothing, nothing_together, together_both}
use Rattle.kitesonnet.specs.Reading.{record_of}
use Rattle.kitesonnet.specs.Seats.{record_words, record_at, readable, workers_in}
use Rattle.kitesonnet.proofs.SeatLaws.{at_next}
use Rattle.kitesonnet.specs.Promising.{owed_in, promised_in, most_share}

-- ---- it is document 01's sum

damaged_last : (p : Result ℕ Damage) → together p damaged ≡ damaged
damaged_last (Result.Err d) = refl
damaged_last (Result.Ok a) = refl

module _ (share : ℕ) where
  sum_by : (r : Option Worker) (b : Bool) (w k : ℕ) (words : List ℕ) → r ≡ record_of (take record_words words) → is_some r && b ≡ true
      → (b ≡ true → promised_in share w (drop record_words words) ≡ promised_of share w (workers_in k (drop record_words words)))
      → promised_in share (suc w) words ≡ promised_of share (suc w) (workers_in (suc k) words)
  unfolding promised_in workers_in
  sum_by None b w k words e t h = absurd (let z : ◌≡◌ {A = ℕ} 0 1 = cc in omega arith)
  sum_by (Some r) b w k words e t h = rw (← e) (ap (together (owed_phase share r.phase)) (h t))

  pub promised_is : (w k : ℕ) (words : List ℕ) → w ≤ k → readable w words ≡ true → promised_in share w words ≡ promised_of share w (workers_in k words)
  unfolding readable promised_in
  promised_is zero k words l e = refl
  promised_is (suc w) zero words l e = absurd (omega arith)
  promised_is (suc w) (suc k) words l e =
      sum_by (record_of (take record_words words)) (readable w (drop record_words words)) w k words refl e (promised_is w k (drop record_words words) (omega arith))

  -- ---- else it is damage

  damage_by : (r : Option Worker) (b : Bool) (w : ℕ) (words : List ℕ) → is_some r && b ≡ false → (b ≡ false → promised_in share w words ≡ damaged)
      → together (owed_in share r) (promised_in share w words) ≡ damaged
  damage_by None b w words t h = refl
  damage_by (Some r) b w words t h = ap (together (owed_phase share r.phase)) (h t) ∙ damaged_last (owed_phase share r.phase)

  pub promised_damaged : (w : ℕ) (words : List ℕ) → readable w words ≡ false → promised_in share w words ≡ damaged
  unfolding readable promised_in
  promised_damaged zero words e = absurd (let z : ◌≡◌ {A = ℕ} 0 1 = cc in omega arith)
  promised_damaged (suc w) words e =
      damage_by (record_of (take record_words words)) (readable w (drop record_words words)) w (drop record_words words) e (promised_damaged w (drop record_words words))

-- ---- how large it can be

-- a number, if it is one, is at most k
abbrev pub Most : ℕ → Result ℕ Damage → Type 0
Most k (Result.Err d) = 0 ≤ k
Most k (Result.Ok a) = a ≤ k

together_most : (p q : Result ℕ Damage) (j k n : ℕ) → j + k ≤ n → Most j p → Most k q → Most n (together p q)
together_most (Result.Err d) q j k n l g h = omega arith
together_most (Result.Ok a) (Result.Err d) j k n l g h = omega arith
together_most (Result.Ok a) (Result.Ok b) j k n l g h = omega (arith, l, g, h)

-- no sum of a board passes this
abbrev pub Small : Result ℕ Damage → Type 0
Small p = Most (most_workers * most_share) p

module _ (share : ℕ) where
  left_most : (made : ℕ) (t : Bool) → Most share (pick t (Result.Ok (share - made)) damaged)
  left_most made true = omega arith
  left_most made false = omega arith

  pub owed_most : (p : Phase) → Most share (owed_phase share p)
  owed_most Phase.Idle = omega arith
  owed_most (Phase.Read u) = omega arith
  owed_most (Phase.Swap u v) = omega arith
  owed_most (Phase.Refresh c s) = left_most c.made (leb c.made share)
  owed_most (Phase.Ask q) = omega arith
  owed_most (Phase.Find k s) = omega arith
  owed_most (Phase.Rank k s c e) = omega arith
  owed_most (Phase.Select j s x c) = omega arith

  pub owed_in_most : (r : Option Worker) → Most share (owed_in share r)
  owed_in_most None = omega arith
  owed_in_most (Some r) = owed_most r.phase

  -- so many shares
  unfoldable pub shares : ℕ → ℕ
  shares zero = 0
  shares (suc w) = share + shares w

  pub promised_most : (w : ℕ) (words : List ℕ) → Most (shares w) (promised_in share w words)
  unfolding promised_in shares
  promised_most zero words = omega arith
  promised_most (suc w) words =
      together_most (owed_in share (record_of (take record_words words))) (promised_in share w (drop record_words words)) share (shares w) _ (omega arith) (owed_in_most (record_of (take record_words words)))
      (promised_most w (drop record_words words))

-- ---- so the sums of a board can be added

most_up : (p : Result ℕ Damage) (j k : ℕ) → j ≤ k → Most j p → Most k p
most_up (Result.Err d) j k l h = omega arith
most_up (Result.Ok a) j k l h = omega (arith, l, h)

shares_most : (share : ℕ) → share ≤ most_share → (w : ℕ) → shares share w ≤ w * most_share
unfolding shares
shares_most share l zero = omega arith
shares_most share l (suc w) = omega (arith, l, shares_most share l w)

-- what the words of one worker may make
pub owed_small : (share : ℕ) (r : Option Worker) (p : Result ℕ Damage) → p ≡ owed_in share r → share ≤ most_share → Small p
owed_small share r p e l = subst Small (sym e) (most_up (owed_in share r) share (most_workers * most_share) (omega (arith, l)) (owed_in_most share r))

pub small_of : (p : Result ℕ Damage) (a : ℕ) → p ≡ Result.Ok a → Small p → a ≤ most_workers * most_share
small_of p a e h = subst Small e h

-- the sum so far, as the loop that sums has it
pub promised_small : (share w : ℕ) (words : List ℕ) (a : ℕ) → share ≤ most_share → Result.Ok a ≡ promised_in share w words → a ≤ w * most_share
promised_small share w words a l e =
    subst (Most (w * most_share)) (sym e) (most_up (promised_in share w words) (shares share w) (w * most_share) (shares_most share l w) (promised_most share w words))

pub share_small : (n : ℕ) → height_of n + 1 ≤ most_share
unfolding height_of
share_small n = omega (arith, trailing_le 64 n)

-- ---- one worker more

-- none yet, and one more, as the loop that sums has it
pub promised_none : (share w : ℕ) (words : List ℕ) → Result.Ok 0 ≡ promised_in share (w - w) words
unfolding promised_in
promised_none share w words =
    let e : 0 ≡ w - w = omega arith in
    ap (λ (k : ℕ). promised_in share k words) e

promised_suc : (share i : ℕ) (words : List ℕ) → together (promised_in share i words) (owed_in share (record_at words i)) ≡ promised_in share (suc i) words
unfolding promised_in
promised_suc share zero words = nothing_together (owed_in share (record_at words 0)) ∙ sym (together_nothing (owed_in share (record_at words 0)))
promised_suc share (suc i) words =
    together_both (owed_in share (record_at words 0)) (promised_in share i (drop record_words words)) (owed_in share (record_at words (suc i)))
    ∙ ap (λ (r : Option Worker). together (owed_in share (record_at words 0)) (together (promised_in share i (drop record_words words)) (owed_in share r))) (sym (at_next words i))
    ∙ ap (together (owed_in share (record_at words 0))) (promised_suc share i (drop record_words words))

pub promised_more : (share i : ℕ) (words : List ℕ) → together (promised_in share i words) (owed_in share (record_at words i)) ≡ promised_in share (i + 1) words
promised_more share i words = promised_suc share i words ∙ ap (λ (k : ℕ). promised_in share k words) (sym (add-one i))

-- the same from the last to the first: the sum of the workers from i on
pub promised_next : (share w i : ℕ) (words : List ℕ) → i < w
    → together (owed_in share (record_at words i)) (promised_in share (w - (i + 1)) (drop (record_words * (i + 1)) words)) ≡ promised_in share (w - i) (drop (record_words * i) words)
unfolding promised_in
promised_next share w i words h =
    let e : suc (w - (i + 1)) ≡ w - i = omega (arith, h) in
    let g : record_words * (i + 1) ≡ record_words * i + record_words = omega arith in
    ap (λ (t : List ℕ). together (owed_in share (record_at words i)) (promised_in share (w - (i + 1)) t)) (ap (λ (k : ℕ). drop k words) g ∙ sym (drop-drop record_words (record_words * i) words))
    ∙ ap (λ (k : ℕ). promised_in share k (drop (record_words * i) words)) e

pub promised_on : (share w i : ℕ) (words : List ℕ) (one sum : Result ℕ Damage) → 0 < i → i ≤ w → one ≡ owed_in share (record_at words (i - 1)) → sum ≡ promised_in share (w - i) (drop (record_words * i) words)
    → together one sum ≡ promised_in share (w - (i - 1)) (drop (record_words * (i - 1)) words)
promised_on share w i words one sum l h e g =
    let z : i ≡ i - 1 + 1 = omega (arith, l) in
    ap (λ (p : Result ℕ Damage). together p sum) e ∙ ap (together (owed_in share (record_at words (i - 1)))) (g ∙ ap (λ (k : ℕ). promised_in share (w - k) (drop (record_words * k) words)) z)
    ∙ promised_next share w (i - 1) words (omega (arith, l, h))

pub promised_all : (share w i : ℕ) (words : List ℕ) → i ≡ 0 → promised_in share (w - i) (drop (record_words * i) words) ≡ promised_in share w words
promised_all share w i words e =
    let z : w - 0 ≡ w = omega arith in
    ap (λ (k : ℕ). promised_in share (w - k) (drop (record_words * k) words)) e ∙ ap (λ (k : ℕ). promised_in share k words) z

-- damage before the last worker is damage of all
damaged_by : (share i w : ℕ) (words : List ℕ) (b : Bool) → leb i w ≡ b → i ≤ suc w → promised_in share i words ≡ damaged → (i ≤ w → promised_in share w words ≡ damaged) → promised_in share (suc w) words ≡ damaged
damaged_by share i w words true t l e h = sym (promised_suc share w words) ∙ ap (λ (p : Result ℕ Damage). together p (owed_in share (record_at words w))) (h (leb-true i w t))
damaged_by share i w words false t l e h =
    let z : suc w ≡ i = omega (arith, l, leb-false i w t) in
    ap (λ (k : ℕ). promised_in share k words) z ∙ e

damaged_on : (share i w : ℕ) (words : List ℕ) → i ≤ w → promised_in share i words ≡ damaged → promised_in share w words ≡ damaged
damaged_on share i zero words l e =
    let z : 0 ≡ i = omega (arith, l) in
    ap (λ (k : ℕ). promised_in share k words) z ∙ e
damaged_on share i (suc w) words l e = damaged_by share i w words (leb i w) refl l e (λ m. damaged_on share i w words m e)

-- and so is one worker's part that is damage
pub damaged_at : (share i w : ℕ) (words : List ℕ) → i < w → owed_in share (record_at words i) ≡ damaged → promised_in share w words ≡ damaged
damaged_at share i w words l g =
    damaged_on share (suc i) w words l (sym (promised_suc share i words) ∙ ap (together (promised_in share i words)) g ∙ damaged_last (promised_in share i words))
