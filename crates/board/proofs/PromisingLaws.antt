-- What is promised is what the count of the updates leaves due: one more worker of both, and bounds on the count.
-- Assumes nothing.
use Rattle.std.specs.Prelude.{◌≡◌, refl, Bool, true, false, ◌&&◌, List, [], ◌∷◌, ℕ, zero, suc, ◌+◌, ◌*◌, ◌-◌, ◌%◌, ◌≤◌, leb, get_or, take, length, Result}
use Rattle.std.proofs.Common.{sym, ap, ◌∙◌, mul-le-mul, arith, leb-true, le-leb, length-take}
use Rattle.std.proofs.lemmas.Nat.{trailing_le}
use Rattle.trie.specs.declared.Phase.{Phase}
use Rattle.trie.specs.declared.Damage.{Damage}
use Rattle.trie.specs.declared.Worker.{Worker}
use Rattle.trie.specs.Choice.{pick}
use Rattle.trie.specs.Size.{height_of}
use Rattle.trie.proofs.SizeLaws.{and_first, and_second}
use Rattle.trie.specs.Refusing.{damaged}
use Rattle.trie.specs.Record.{idle, owed_phase, together, promised_of}
use Rattle.records.specs.Phases.{updating}
use Rattle.board.specs.declared.promising.Tally.{Tally}
use Rattle.steps.proofs.Together.{together_nothing, nothing_together, together_both}
use Rattle.board.specs.Promising.{most_share, counted, tally_of, still_due, made_of}

-- ---- bounds on the count

pub one_at_most : (n : ℕ) (t : Bool) → n ≡ pick t 1 0 → n ≤ 1
one_at_most n true e = omega (arith, e)
one_at_most n false e = omega (arith, e)

pub tally_updates : (share w : ℕ) (board : List Worker) → (tally_of share w board).updates ≤ w
tally_updates share zero board = omega arith
tally_updates share (suc w) board = omega (arith, tally_updates share w board, one_at_most _ (updating (get_or board w idle).phase) refl)

pub tally_made : (share w : ℕ) (board : List Worker) → (tally_of share w board).made ≤ 128 * w
tally_made share zero board = omega arith
tally_made share (suc w) board = omega (arith, tally_made share w board)

-- only an update has made versions, and at most its share
made_within : (share : ℕ) (p : Phase) → leb (made_of p) share ≡ true → made_of p ≤ pick (updating p) 1 0 * share
made_within share Phase.Idle e = omega arith
made_within share (Phase.Read u) e = omega arith
made_within share (Phase.Swap u v) e = omega arith
made_within share (Phase.Refresh c held) e = omega (arith, leb-true c.made share e)
made_within share (Phase.Ask q) e = omega arith
made_within share (Phase.Find k s) e = omega arith
made_within share (Phase.Rank k s count energy) e = omega arith
made_within share (Phase.Select j s x passed) e = omega arith

pub tally_within : (share w : ℕ) (board : List Worker) → (tally_of share w board).within ≡ true → (tally_of share w board).made ≤ (tally_of share w board).updates * share
tally_within share zero board e = omega arith
tally_within share (suc w) board e =
    let p = (get_or board w idle).phase in
    let before = tally_within share w board (and_first (tally_of share w board).within (leb (made_of p) share) e) in
    omega (arith, before, made_within share p (and_second (tally_of share w board).within (leb (made_of p) share) e))

-- what all updates may make
pub tally_due : (share w : ℕ) (board : List Worker) → share ≤ most_share → (tally_of share w board).updates * share ≤ w * most_share
tally_due share w board l = mul-le-mul (tally_updates share w board) l

-- ---- one more worker counted

none_made : (share : ℕ) (x y : Result ℕ Damage) → pick (leb 0 share) x y ≡ x
none_made share x y = ap (λ (t : Bool). pick t x y) (le-leb 0 share (omega arith))

-- a number within its share is below 128
climb_due : (share updates made part : ℕ) (t : Bool) → leb part share ≡ t → share ≤ most_share → made ≤ updates * share
    → pick t (Result.Ok ((updates + 1) * share - (made + part % 128))) damaged ≡ together (Result.Ok (updates * share - made)) (pick t (Result.Ok (share - part)) damaged)
climb_due share updates made part true e l h = ap Result.Ok (omega (arith, l, h, leb-true part share e))
climb_due share updates made part false e l h = refl

within_due : (share updates made : ℕ) (p : Phase) → share ≤ most_share → made ≤ updates * share
    → pick (leb (made_of p) share) (Result.Ok ((updates + pick (updating p) 1 0) * share - (made + made_of p % 128))) damaged ≡ together (Result.Ok (updates * share - made)) (owed_phase share p)
within_due share updates made Phase.Idle l h = none_made share _ _ ∙ ap Result.Ok (omega (arith, h))
within_due share updates made (Phase.Read u) l h = none_made share _ _ ∙ ap Result.Ok (omega (arith, h))
within_due share updates made (Phase.Swap u v) l h = none_made share _ _ ∙ ap Result.Ok (omega (arith, h))
within_due share updates made (Phase.Refresh c held) l h = climb_due share updates made c.made (leb c.made share) refl l h
within_due share updates made (Phase.Ask q) l h = none_made share _ _ ∙ ap Result.Ok (omega (arith, h))
within_due share updates made (Phase.Find k s) l h = none_made share _ _ ∙ ap Result.Ok (omega (arith, h))
within_due share updates made (Phase.Rank k s count energy) l h = none_made share _ _ ∙ ap Result.Ok (omega (arith, h))
within_due share updates made (Phase.Select j s x passed) l h = none_made share _ _ ∙ ap Result.Ok (omega (arith, h))

either_due : (share updates made : ℕ) (within : Bool) (p : Phase) → share ≤ most_share → (within ≡ true → made ≤ updates * share)
    → pick (within && leb (made_of p) share) (Result.Ok ((updates + pick (updating p) 1 0) * share - (made + made_of p % 128))) damaged ≡ together (pick within (Result.Ok (updates * share - made)) damaged) (owed_phase share p)
either_due share updates made true p l h = within_due share updates made p l (h refl)
either_due share updates made false p l h = refl

counted_due : (share : ℕ) (t : Tally) (p : Phase) → share ≤ most_share → (t.within ≡ true → t.made ≤ t.updates * share) → still_due share (counted share t p) ≡ together (still_due share t) (owed_phase share p)
counted_due share t p l h = either_due share t.updates t.made t.within p l h

-- ---- one more worker promised for

-- past the board's end stands an idle worker, which promises nothing: so no length is asked
promised_next : (share w : ℕ) (board : List Worker) → together (promised_of share w board) (owed_phase share (get_or board w idle).phase) ≡ promised_of share (suc w) board
promised_next share zero [] = refl
promised_next share (suc w) [] = refl
promised_next share zero (r ∷ board) = nothing_together (owed_phase share r.phase) ∙ sym (together_nothing (owed_phase share r.phase))
promised_next share (suc w) (r ∷ board) =
    together_both (owed_phase share r.phase) (promised_of share w board) (owed_phase share (get_or board w idle).phase) ∙ ap (together (owed_phase share r.phase)) (promised_next share w board)

-- ---- what the count leaves due is promised

pub promised_by_tally : (share w : ℕ) (board : List Worker) → share ≤ most_share → still_due share (tally_of share w board) ≡ promised_of share w board
promised_by_tally share zero board l = ap Result.Ok (omega arith)
promised_by_tally share (suc w) board l =
    let p = (get_or board w idle).phase in
    counted_due share (tally_of share w board) p l (tally_within share w board) ∙ ap (λ (x : Result ℕ Damage). together x (owed_phase share p)) (promised_by_tally share w board l) ∙ promised_next share w board

-- ---- the share of any number of cells is small

pub share_small : (n : ℕ) → height_of n + 1 ≤ most_share
unfolding height_of
share_small n = omega (arith, trailing_le 64 n)

-- ---- records at W and beyond are never read

pub first_row : (w : ℕ) (board : List Worker) → w ≤ length board → w ≡ length (take w board)
first_row w board l = omega (arith, length-take w board)

pub promised_first : (share w : ℕ) (board : List Worker) → promised_of share w (take w board) ≡ promised_of share w board
promised_first share zero board = refl
promised_first share (suc w) [] = refl
promised_first share (suc w) (r ∷ board) = ap (together (owed_phase share r.phase)) (promised_first share w board)
