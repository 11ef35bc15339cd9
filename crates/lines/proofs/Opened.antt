-- An open that is accepted begins a history: the N, W and V that are kept are such as `opened` asks for, so that the next start or step is not refused with 10. Before it there is none.
-- Assumes nothing.
use mathlib.Core.Path.{◌≡◌, refl, ap}
use mathlib.Core.Bool.{Bool, true, false, ◌&&◌}
use mathlib.Core.List.{List, [], ◌∷◌}
use Prim.Native.Nat.{ℕ, zero, suc, ◌*◌, ◌-◌, ◌≤◌}
use native.Mathlib.Omega.{arith}
use borrow.Author.Tests.{leb-true, le-leb}
use lib.Dec.{leb}
use lib.ListN.{length, take}
use Rattle.decibel.specs.Told.{refused, gives}
use Rattle.trie.specs.Choice.{pick}
use Rattle.trie.specs.Size.{allowed, most_workers}
use Rattle.trie.proofs.SizeLaws.{and_first, and_both, sized}
use Rattle.trie.specs.Tables.{width, roomy}
use Rattle.trie.proofs.TableLaws.{room_length, roomy_versions}
use Rattle.trie.specs.Values.{Ok}
use Rattle.trie.specs.Calls.{State, After, check, manned, open_of}
use Rattle.lines.specs.declared.Watch.{Watch}
use Rattle.lines.specs.Watch.{history, most_cells, most_versions, opened, lent}
use Rattle.lines.specs.Turns.{room}
use Rattle.lines.specs.Chunks.{at_start}

refused_gives : {A : Type 0} (k : ℕ) (a : A) → refused k ≡ gives a → ⊥
refused_gives k a e = let z : ◌≡◌ {A = ℕ} 0 1 = cc in omega arith

-- what is accepted has passed the test, and what comes after it is accepted
passed : (t : Bool) (k : ℕ) (s : State) (x : After Ok) (a : Ok) → (check t k s x).told ≡ gives a → (t ≡ true) × (x.told ≡ gives a)
passed true k s x a e = (refl, e)
passed false k s x a e = absurd (refused_gives k a e)

take_most : (k : ℕ) (xs : List ℕ) → length (take k xs) ≤ k
take_most zero xs = omega arith
take_most (suc k) [] = omega arith
take_most (suc k) (x ∷ xs) = omega (arith, take_most k xs)

-- so many versions have room in the words that are lent
enough : (n v : ℕ) (nodes versions : List ℕ) → 2 ≤ n → roomy n nodes (take (width * room v) versions) ≡ true → (2 * n - 1 ≤ v) × (v ≤ most_versions)
enough n v nodes versions two e =
    by (leb v most_versions) refl (omega (arith, roomy_versions n nodes (take (width * room v) versions) e, room_length (take (width * room v) versions), take_most (width * room v) versions))
  where
    by : (t : Bool) → leb v most_versions ≡ t → 2 * n - 1 ≤ pick (leb v most_versions) v 0 → (2 * n - 1 ≤ v) × (v ≤ most_versions)
    by true f h = let g : pick (leb v most_versions) v 0 ≡ v = ap (λ (t : Bool). pick t v 0) f in (omega (arith, g, h), leb-true v most_versions f)
    by false f h = let g : pick (leb v most_versions) v 0 ≡ 0 = ap (λ (t : Bool). pick t v 0) f in absurd (omega (arith, g, h, two))

pub open_opens : (n w v : ℕ) (s : Watch) (a : Ok) → leb n most_cells ≡ true → (open_of n w (lent (room v) s)).told ≡ gives a → opened (history n w v) ≡ true
unfolding open_of manned opened
open_opens n w v s a few e =
    let t = lent (room v) s in
    let one = passed (allowed n) 1 t _ a e in
    let two = passed (manned w s.board) 2 t _ a one.1 in
    let three = passed (roomy n s.nodes (take (width * room v) s.versions)) 3 t _ a two.1 in
    let fits = enough n v s.nodes s.versions (sized n one.0).from three.0 in
    and_both (allowed n && leb n most_cells) _ (and_both (allowed n) (leb n most_cells) one.0 few)
    (and_both (leb 1 w && leb w most_workers) _ (and_first (leb 1 w && leb w most_workers) (leb w (length s.board)) two.0)
    (and_both (leb (2 * n - 1) v) (leb v most_versions) (le-leb (2 * n - 1) v fits.0) (le-leb v most_versions fits.1)))

-- before the first accepted open no history is under way: a listing begins with zeros, and no cells are too few
too_few : (b t u : Bool) → ((b && false) && t) && u ≡ false
too_few true t u = refl
too_few false t u = refl

pub closed_at_start : opened at_start.watch.history ≡ false
unfolding opened allowed
closed_at_start = too_few _ _ _
