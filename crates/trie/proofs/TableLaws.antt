-- A version that is put into the table is read again, and every other version is as it was.
-- Assumes nothing.
use Rattle.std.specs.Prelude.{◌≡◌, ◌≢◌, Bool, List, ℕ, ◌+◌, ◌*◌, ◌-◌, ◌/◌, ◌<◌, ◌≤◌, leb, length, get_or, set}
use Rattle.std.proofs.Math.Path.{refl}
use Rattle.std.proofs.Math.Nat.{min-le_left, min-le_right}
use Rattle.std.proofs.Common.{ap, ◌∙◌, arith, le-leb, leb-true, length-set, get_or-set_same, get_or-set_other}
use Rattle.std.proofs.Math.Bool.{true, false}
use Rattle.trie.specs.declared.VersionNumber.{VersionNumber}
use Rattle.trie.specs.declared.Version.{Version}
use Rattle.trie.specs.Choice.{pick}
use Rattle.trie.specs.Tables.{width, most_versions, room_of, version, words_at, words_put, stored, version_at, version_put, roomy}
use Rattle.trie.proofs.SizeLaws.{and_first, and_second, and_both}

-- ---- the words of a version

words_length : (vs : List ℕ) (i : ℕ) (r : Version) → length (words_put vs i r) ≡ length vs
words_length vs i r = simp length-set

word_other : (vs : List ℕ) (b i : ℕ) (r : Version) → i ≢ b → i ≢ b + 1 → i ≢ b + 2 → i ≢ b + 3 → i ≢ b + 4 → get_or (words_put vs b r) i 0 ≡ get_or vs i 0
word_other vs b i r h0 h1 h2 h3 h4 = simp get_or-set_other

-- a word of version u is none of version v's
module _ (vs : List ℕ) (u v : ℕ) (r : Version) (hu : 1 ≤ u) (hv : 1 ≤ v) (h : u ≢ v) where
  kept : (i : ℕ) → width * (u - 1) ≤ i → i ≤ width * (u - 1) + 4 → get_or (words_put vs (width * (v - 1)) r) i 0 ≡ get_or vs i 0
  kept i lo hi = word_other vs (width * (v - 1)) i r (λ e. h (omega arith)) (λ e. h (omega arith)) (λ e. h (omega arith)) (λ e. h (omega arith)) (λ e. h (omega arith))

  words_other : words_at (words_put vs (width * (v - 1)) r) (width * (u - 1)) ≡ words_at vs (width * (u - 1))
  words_other =
      let b = width * (u - 1) in
      simp (
        kept b (omega arith) (omega arith),
        kept (b + 1) (omega arith) (omega arith),
        kept (b + 2) (omega arith) (omega arith),
        kept (b + 3) (omega arith) (omega arith),
        kept (b + 4) (omega arith) (omega arith),
      )

behind : (l : List ℕ) (i j a : ℕ) → j ≢ i → get_or (set l i a) j 0 ≡ get_or l j 0
behind l i j a h = get_or-set_other l i j a 0 h

there : (l : List ℕ) (i a n : ℕ) → length l ≡ n → i < n → get_or (set l i a) i 0 ≡ a
there l i a n e h = get_or-set_same l i a 0 (omega arith)

module _ (vs : List ℕ) (b : ℕ) (r : Version) (h : b + 4 < length vs) where
  words_same : words_at (words_put vs b r) b ≡ r
  words_same =
      let n = length vs in
      let l1 = set vs b r.left.0 in
      let l2 = set l1 (b + 1) r.right.0 in
      let l3 = set l2 (b + 2) r.count in
      let l4 = set l3 (b + 3) r.energy.0 in
      let e0 : get_or (words_put vs b r) b 0 ≡ r.left.0 = behind l4 (b + 4) b r.level.0 (omega arith) ∙ behind l3 (b + 3) b r.energy.0 (omega arith) ∙ behind l2 (b + 2) b r.count (omega arith) ∙ behind l1 (b + 1) b r.right.0 (omega arith) ∙ there vs b r.left.0 n refl (omega arith) in
      let e1 : get_or (words_put vs b r) (b + 1) 0 ≡ r.right.0 = behind l4 (b + 4) (b + 1) r.level.0 (omega arith) ∙ behind l3 (b + 3) (b + 1) r.energy.0 (omega arith) ∙ behind l2 (b + 2) (b + 1) r.count (omega arith) ∙ there l1 (b + 1) r.right.0 n (simp length-set) (omega arith) in
      let e2 : get_or (words_put vs b r) (b + 2) 0 ≡ r.count = behind l4 (b + 4) (b + 2) r.level.0 (omega arith) ∙ behind l3 (b + 3) (b + 2) r.energy.0 (omega arith) ∙ there l2 (b + 2) r.count n (simp length-set) (omega arith) in
      let e3 : get_or (words_put vs b r) (b + 3) 0 ≡ r.energy.0 = behind l4 (b + 4) (b + 3) r.level.0 (omega arith) ∙ there l3 (b + 3) r.energy.0 n (simp length-set) (omega arith) in
      let e4 : get_or (words_put vs b r) (b + 4) 0 ≡ r.level.0 = there l4 (b + 4) r.level.0 n (simp length-set) (omega arith) in
      simp (e0, e1, e2, e3, e4)

-- ---- the table

pub is_stored : (vs : List ℕ) (v : VersionNumber) → 1 ≤ v.0 → v.0 ≤ length vs / width → stored vs v ≡ true
is_stored vs v low top = and_both _ _ (le-leb 1 v.0 low) (le-leb v.0 (length vs / width) top)

pub stored_low : (vs : List ℕ) (v : VersionNumber) → stored vs v ≡ true → 1 ≤ v.0
stored_low vs v e = leb-true 1 v.0 (and_first (leb 1 v.0) (leb v.0 (length vs / width)) e)

pub put_length : (vs : List ℕ) (v : VersionNumber) (r : Version) → length (version_put vs v r) ≡ length vs
unfolding version_put
put_length vs v r = by (stored vs v)
  where
    by : (t : Bool) → length (pick t (words_put vs (width * (v.0 - 1)) r) vs) ≡ length vs
    by true = words_length vs (width * (v.0 - 1)) r
    by false = refl

-- a number of the table, read where it stands
pub version_words : (vs : List ℕ) (v : VersionNumber) → 1 ≤ v.0 → v.0 ≤ length vs / width → version_at vs v ≡ words_at vs (width * (v.0 - 1))
unfolding version_at
version_words vs v low top = rw (is_stored vs v low top)

-- a number of the table is written where it stands
put_words : (vs : List ℕ) (v : VersionNumber) (r : Version) → stored vs v ≡ true → version_put vs v r ≡ words_put vs (width * (v.0 - 1)) r
unfolding version_put
put_words vs v r e = rw e

pub put_same : (vs : List ℕ) (v : VersionNumber) (r : Version) → 1 ≤ v.0 → v.0 ≤ length vs / width → version_at (version_put vs v r) v ≡ r
put_same vs v r low top =
    version_words (version_put vs v r) v low (let e = put_length vs v r in omega arith)
    ∙ ap (λ (l : List ℕ). words_at l (width * (v.0 - 1))) (put_words vs v r (is_stored vs v low top))
    ∙ words_same vs (width * (v.0 - 1)) r (omega arith)

module _ (vs : List ℕ) (v u : VersionNumber) (r : Version) (h : u.0 ≢ v.0) where
  at_u : (p : Bool) → stored vs v ≡ true → stored vs u ≡ p → pick p (words_at (words_put vs (width * (v.0 - 1)) r) (width * (u.0 - 1))) (version 0 0 0 0 0) ≡ pick p (words_at vs (width * (u.0 - 1))) (version 0 0 0 0 0)
  at_u true e f = words_other vs u.0 v.0 r (stored_low vs u f) (stored_low vs v e) h
  at_u false e f = refl

  at_v : (p : Bool) → stored vs v ≡ p → version_at (pick p (words_put vs (width * (v.0 - 1)) r) vs) u ≡ version_at vs u
  unfolding version_at
  at_v true e = rw (words_length vs (width * (v.0 - 1)) r) (at_u (stored vs u) e refl)
  at_v false e = refl

  pub put_other : version_at (version_put vs v r) u ≡ version_at vs u
  unfolding version_put
  put_other = at_v (stored vs v) refl

-- V is no more than the table holds, nor more than the most
pub room_length : (vs : List ℕ) → room_of vs ≤ length vs / width
unfolding room_of
room_length vs = min-le_left _ _

pub room_most : (vs : List ℕ) → room_of vs ≤ most_versions
unfolding room_of
room_most vs = min-le_right _ _

-- V is told by the table's length
pub room_same : (vs ws : List ℕ) → length ws ≡ length vs → room_of ws ≡ room_of vs
unfolding room_of
room_same vs ws e = rw e

-- what refusal 3 leaves to the rest of a call
pub roomy_nodes : (n : ℕ) (nodes vs : List ℕ) → roomy n nodes vs ≡ true → 2 * n ≤ length nodes
unfolding roomy room_of
roomy_nodes n nodes vs e = leb-true _ _ (and_first (leb (2 * n) (length nodes)) (leb (2 * n - 1) (room_of vs)) e)

pub roomy_versions : (n : ℕ) (nodes vs : List ℕ) → roomy n nodes vs ≡ true → 2 * n - 1 ≤ room_of vs
unfolding roomy room_of
roomy_versions n nodes vs e = leb-true _ _ (and_second (leb (2 * n) (length nodes)) (leb (2 * n - 1) (room_of vs)) e)

pub roomy_same : (n : ℕ) (nodes nodes' vs vs' : List ℕ) → length nodes' ≡ length nodes → length vs' ≡ length vs → roomy n nodes' vs' ≡ roomy n nodes vs
unfolding roomy room_of
roomy_same n nodes nodes' vs vs' p q = rw (p, q)
