-- What is promised, when one record of the board changes: each record's part counts once, and no record beyond the board's first w.
-- Assumes nothing.
use Rattle.std.specs.Prelude.{◌≡◌, refl, List, [], ◌∷◌, ℕ, zero, suc, ◌+◌, ◌≤◌, ◌<◌, length, get_or, set, Result}
use Rattle.std.proofs.Common.{sym, ap, arith}
use Rattle.trie.specs.declared.Damage.{Damage}
use Rattle.trie.specs.declared.Worker.{Worker}
use Rattle.trie.specs.Record.{idle, owed_phase, together, promised_of}

-- two parts that come to a number are numbers, and it is their sum
pub record Parts (x y : Result ℕ Damage) (p : ℕ) : Type 0 where
  pub first : ℕ
  pub second : ℕ
  pub first_is : x ≡ Result.Ok first
  pub second_is : y ≡ Result.Ok second
  pub sum : p ≡ first + second

together_parts : (x y : Result ℕ Damage) (p : ℕ) → together x y ≡ Result.Ok p → Parts x y p
together_parts (Result.Err d) y p e = absurd (let z : ◌≡◌ {A = ℕ} 0 1 = cc in omega arith)
together_parts (Result.Ok a) (Result.Err d) p e = absurd (let z : ◌≡◌ {A = ℕ} 0 1 = cc in omega arith)
together_parts (Result.Ok a) (Result.Ok b) p e = record { first = a; second = b; first_is = refl; second_is = refl; sum = let z : a + b ≡ p = cc in sym z }

together_is : (x y : Result ℕ Damage) (a b : ℕ) → x ≡ Result.Ok a → y ≡ Result.Ok b → together x y ≡ Result.Ok (a + b)
together_is x y a b p q = rw (p, q)

module _ (share : ℕ) where
  abbrev owed : Worker → Result ℕ Damage
  owed r = owed_phase share r.phase

  -- a record's part is in the sum
  pub promised_part : (w : ℕ) (board : List Worker) (i p : ℕ) → i < w → w ≤ length board → promised_of share w board ≡ Result.Ok p
      → (a : ℕ) × (owed_phase share (get_or board i idle).phase ≡ Result.Ok a) × (a ≤ p)
  promised_part zero board i p l m e = absurd (omega arith)
  promised_part (suc w) [] i p l m e = absurd (omega arith)
  promised_part (suc w) (r ∷ board) zero p l m e =
      let t = together_parts (owed r) (promised_of share w board) p e in
      (t.first, t.first_is, omega (arith, t.sum))
  promised_part (suc w) (r ∷ board) (suc i) p l m e =
      let t = together_parts (owed r) (promised_of share w board) p e in
      let q = promised_part w board i t.second (omega arith) (omega arith) t.second_is in
      (q.0, q.1, omega (arith, q.2, t.sum))

  -- a record that changes changes the sum by its part alone
  pub promised_set : (w : ℕ) (board : List Worker) (i p a c : ℕ) (r : Worker) → i < w → w ≤ length board → promised_of share w board ≡ Result.Ok p
      → owed_phase share (get_or board i idle).phase ≡ Result.Ok a → owed_phase share r.phase ≡ Result.Ok c
      → (q : ℕ) × (promised_of share w (set board i r) ≡ Result.Ok q) × (q + a ≡ p + c)
  promised_set zero board i p a c r l m e f g = absurd (omega arith)
  promised_set (suc w) [] i p a c r l m e f g = absurd (omega arith)
  promised_set (suc w) (s ∷ board) zero p a c r l m e f g =
      let t = together_parts (owed s) (promised_of share w board) p e in
      let z : a ≡ t.first = cc (f, t.first_is) in
      (c + t.second, together_is (owed r) (promised_of share w board) c t.second g t.second_is, omega (arith, t.sum))
  promised_set (suc w) (s ∷ board) (suc i) p a c r l m e f g =
      let t = together_parts (owed s) (promised_of share w board) p e in
      let q = promised_set w board i t.second a c r (omega arith) (omega arith) t.second_is f g in
      (t.first + q.0, together_is (owed s) (promised_of share w (set board i r)) t.first q.0 t.first_is q.1, omega (arith, q.2, t.sum))

  -- idle records promise nothing
  pub promised_idle : (w : ℕ) (board : List Worker) → w ≤ length board → ((i : ℕ) → i < w → get_or board i idle ≡ idle) → promised_of share w board ≡ Result.Ok 0
  promised_idle zero board m f = refl
  promised_idle (suc w) [] m f = absurd (omega arith)
  promised_idle (suc w) (r ∷ board) m f =
      together_is (owed r) (promised_of share w board) 0 0 (ap owed (f 0 (omega arith))) (promised_idle w board (omega arith) (λ i l. f (suc i) (omega arith)))
