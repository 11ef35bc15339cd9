-- What open leaves: the first words have their first values, and what lies beyond is untouched.
-- Assumes nothing.
use Rattle.std.specs.Prelude.{◌≡◌, Bool, true, false, List, ltb, length, set}
use Rattle.std.proofs.Math.Path.{refl}
use Rattle.std.proofs.Common.{ap, ◌∙◌, eq-or-lt_of_le, le_of_suc-le-suc, arith, ne_eqb, lit<, get_or-set_same}
use Rattle.std.proofs.Math.Logic.{⊎_elim}
use Prim.Native.Nat.{ℕ, zero, suc, ◌+◌, ◌*◌, ◌-◌, ◌/◌, ◌<◌, ◌≤◌}
use Rattle.std.proofs.Math.Arith.{digits_div, digits_mod}
use Rattle.std.proofs.Math.ListN.{get_or, length-set}
use Rattle.std.proofs.Math.Seq.{get_or-set_other}
use Rattle.trie.specs.declared.Version.{Version}
use Rattle.trie.specs.declared.Worker.{Worker}
use Rattle.trie.specs.Choice.{pick}
use Rattle.trie.specs.Tables.{width, used_of, version, words_at, version_at}
use Rattle.trie.specs.Record.{idle}
use Rattle.trie.specs.Opening.{filled, first_node, first_child, first_word, open_nodes, open_versions, open_board}
use Rattle.trie.proofs.TableLaws.{version_words}

-- ---- a row that is filled

module _ {A : Type 0} (f : ℕ → A) where
  pub filled_length : (k : ℕ) (row : List A) → length (filled f k row) ≡ length row
  unfolding filled
  filled_length zero row = refl
  filled_length (suc k) row = length-set (filled f k row) k (f k) ∙ filled_length k row

  pub filled_in : (k : ℕ) (row : List A) (i : ℕ) (d : A) → i < k → k ≤ length row → get_or (filled f k row) i d ≡ f i
  unfolding filled
  filled_in zero row i d h l = absurd (omega arith)
  filled_in (suc k) row i d h l = ⊎_elim same (λ (g : i < k). below g (filled_in k row i d g (omega arith))) (eq-or-lt_of_le (le_of_suc-le-suc h))
    where
      same : i ≡ k → get_or (set (filled f k row) k (f k)) i d ≡ f i
      same e = rw e (get_or-set_same (filled f k row) k (f k) d (omega (arith, filled_length k row)))

      below : i < k → get_or (filled f k row) i d ≡ f i → get_or (set (filled f k row) k (f k)) i d ≡ f i
      below g e = get_or-set_other (filled f k row) k i (f k) d (omega arith) ∙ e

  pub filled_beyond : (k : ℕ) (row : List A) (i : ℕ) (d : A) → k ≤ i → get_or (filled f k row) i d ≡ get_or row i d
  unfolding filled
  filled_beyond zero row i d h = refl
  filled_beyond (suc k) row i d h = get_or-set_other (filled f k row) k i (f k) d (omega arith) ∙ filled_beyond k row i d (omega arith)

-- ---- the node table

pub open_nodes_length : (n : ℕ) (nodes : List ℕ) → length (open_nodes n nodes) ≡ length nodes
open_nodes_length n nodes = filled_length (first_node n) (2 * n) nodes

pub open_used : (n : ℕ) (nodes : List ℕ) → 1 ≤ n → 2 * n ≤ length nodes → used_of (open_nodes n nodes) ≡ 2 * n - 1
open_used n nodes h l = filled_in (first_node n) (2 * n) nodes 0 0 (omega arith) l

pub open_current : (n : ℕ) (nodes : List ℕ) (x : ℕ) → 1 ≤ x → x < 2 * n → 2 * n ≤ length nodes → get_or (open_nodes n nodes) x 0 ≡ x
open_current n nodes x h l r = filled_in (first_node n) (2 * n) nodes x 0 l r ∙ rw (ne_eqb x 0 (omega arith))

pub open_nodes_beyond : (n : ℕ) (nodes : List ℕ) (i : ℕ) → 2 * n ≤ i → get_or (open_nodes n nodes) i 0 ≡ get_or nodes i 0
open_nodes_beyond n nodes i h = filled_beyond (first_node n) (2 * n) nodes i 0 h

-- ---- the version table

pub open_versions_length : (n : ℕ) (vs : List ℕ) → length (open_versions n vs) ≡ length vs
open_versions_length n vs = filled_length (first_word n) (width * (2 * n - 1)) vs

pub open_versions_beyond : (n : ℕ) (vs : List ℕ) (i : ℕ) → width * (2 * n - 1) ≤ i → get_or (open_versions n vs) i 0 ≡ get_or vs i 0
open_versions_beyond n vs i h = filled_beyond (first_word n) (width * (2 * n - 1)) vs i 0 h

-- a word by its version and its place there
first_word_lem : (n x word i : ℕ) → word < width → i ≡ x * width + word → first_word n i ≡ first_child n (x + 1) word
first_word_lem n x word i h e = rw (e, digits_div x {m = width} {r = word} h, digits_mod x {m = width} {r = word} h)

-- the version x, as open leaves it
abbrev pub first_version : ℕ → ℕ → Version
first_version n x = version (pick (ltb x n) (2 * x) 0) (pick (ltb x n) (2 * x + 1) 0) 0 0 0

words_are : (vs : List ℕ) (i a b c d e : ℕ) → get_or vs i 0 ≡ a → get_or vs (i + 1) 0 ≡ b → get_or vs (i + 2) 0 ≡ c → get_or vs (i + 3) 0 ≡ d → get_or vs (i + 4) 0 ≡ e
    → words_at vs i ≡ version a b c d e
words_are vs i a b c d e p q r s t = λ j. version (p j) (q j) (r j) (s j) (t j)

child_is : (n x word : ℕ) (test : Bool) → ltb x n ≡ test → first_child n x word ≡ pick test (pick (ltb word 2) (2 * x + word) 0) 0
child_is n x word test e = rw e

module _ (n : ℕ) (vs : List ℕ) (x : ℕ) (low : 1 ≤ x) (top : x ≤ 2 * n - 1) (long : 2 * n - 1 ≤ length vs / width) where
  opened_word : (word i : ℕ) → word < width → i ≡ width * (x - 1) + word → get_or (open_versions n vs) i 0 ≡ first_child n x word
  opened_word word i h e =
      filled_in (first_word n) (width * (2 * n - 1)) vs i 0 (omega arith) (omega arith)
      ∙ first_word_lem n (x - 1) word i h (omega arith)
      ∙ ap (λ (y : ℕ). first_child n y word) (omega arith)

  opened : (test : Bool) → ltb x n ≡ test → words_at (open_versions n vs) (width * (x - 1)) ≡ version (pick test (2 * x) 0) (pick test (2 * x + 1) 0) 0 0 0
  opened true e =
      words_are (open_versions n vs) (width * (x - 1)) (2 * x) (2 * x + 1) 0 0 0
      (opened_word 0 _ (lit< tt) (omega arith) ∙ child_is n x 0 true e ∙ omega arith)
      (opened_word 1 _ (lit< tt) refl ∙ child_is n x 1 true e)
      (opened_word 2 _ (lit< tt) refl ∙ child_is n x 2 true e)
      (opened_word 3 _ (lit< tt) refl ∙ child_is n x 3 true e)
      (opened_word 4 _ (lit< tt) refl ∙ child_is n x 4 true e)
  opened false e =
      words_are (open_versions n vs) (width * (x - 1)) 0 0 0 0 0
      (opened_word 0 _ (lit< tt) (omega arith) ∙ child_is n x 0 false e)
      (opened_word 1 _ (lit< tt) refl ∙ child_is n x 1 false e)
      (opened_word 2 _ (lit< tt) refl ∙ child_is n x 2 false e)
      (opened_word 3 _ (lit< tt) refl ∙ child_is n x 3 false e)
      (opened_word 4 _ (lit< tt) refl ∙ child_is n x 4 false e)

  pub open_version : version_at (open_versions n vs) (record { 0 = x }) ≡ first_version n x
  open_version = version_words (open_versions n vs) (record { 0 = x }) low (omega (arith, open_versions_length n vs)) ∙ opened (ltb x n) refl

-- ---- the board

pub open_board_length : (w : ℕ) (board : List Worker) → length (open_board w board) ≡ length board
open_board_length w board = filled_length (λ i. idle) w board

pub open_board_idle : (w : ℕ) (board : List Worker) (i : ℕ) → i < w → w ≤ length board → get_or (open_board w board) i idle ≡ idle
open_board_idle w board i h l = filled_in (λ i. idle) w board i idle h l

pub open_board_beyond : (w : ℕ) (board : List Worker) (i : ℕ) → w ≤ i → get_or (open_board w board) i idle ≡ get_or board i idle
open_board_beyond w board i h = filled_beyond (λ i. idle) w board i idle h
