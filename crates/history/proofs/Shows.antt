-- A version shows a book: each cell below it is as the book has it. Its count and energy are then the book's, summed over those cells.
-- Assumes nothing.
use Rattle.std.specs.Prelude.{◌≡◌, refl, ℕ, suc, ◌+◌, ◌^◌, ◌≤◌, ◌<◌}
use Rattle.std.proofs.Common.{sym, ap, ◌∙◌, subst, pow-suc, add-one, arith}
use Rattle.std.proofs.Math.Option.{Option}
use Rattle.trie.specs.declared.Version.{Version}
use Rattle.history.specs.Book.{Book, sum, ones, weights, mark}
use Rattle.history.proofs.Depicting.{Same}
use Rattle.history.proofs.Whole.{Cell, unmarked, marked, Whole, leaf, inner}

-- v stands d levels above the leaves, and s is the first of the 2 ^ d cells below it
pub data Shows (ver : ℕ → Version) (B : Book) : ℕ → ℕ → ℕ → Type 0 where
  cell : {s v : ℕ} → mark (ver v) ≡ B s → Shows ver B 0 s v
  cells : {d s v : ℕ} → Shows ver B d s (ver v).left.0 → Shows ver B d (s + 2 ^ d) (ver v).right.0 → Shows ver B (suc d) s v

pub shows_at : {ver : ℕ → Version} {B : Book} {d s t v w : ℕ} → s ≡ t → v ≡ w → Shows ver B d s v → Shows ver B d t w
shows_at {ver} {B} {d} {s} {t} {v} {w} p q h = subst (λ (x : ℕ). Shows ver B d t x) q (subst (λ (y : ℕ). Shows ver B d y v) p h)

pub shows_left : {ver : ℕ → Version} {B : Book} {d s v : ℕ} → Shows ver B (suc d) s v → Shows ver B d s (ver v).left.0
shows_left (cells l r) = l

pub shows_right : {ver : ℕ → Version} {B : Book} {d s v : ℕ} → Shows ver B (suc d) s v → Shows ver B d (s + 2 ^ d) (ver v).right.0
shows_right (cells l r) = r

pub shows_cell : {ver : ℕ → Version} {B : Book} {s v : ℕ} → Shows ver B 0 s v → mark (ver v) ≡ B s
shows_cell (cell e) = e

-- cells that the books have alike
pub shows_book : {ver : ℕ → Version} {B C : Book} {d s v : ℕ} → ((k : ℕ) → s ≤ k → k < s + 2 ^ d → B k ≡ C k) → Shows ver B d s v → Shows ver C d s v
shows_book {ver} {B} {C} f (cell {s = s} e) = cell (e ∙ f s (omega arith) (omega arith))
shows_book {ver} {B} {C} f (cells {d = d} {s = s} l r) =
    cells (shows_book (λ k p q. f k p (omega (arith, pow-suc 2 d))) l) (shows_book (λ k p q. f k (omega arith) (omega (arith, pow-suc 2 d))) r)

module _ (weight : ℕ → ℕ) where
  pub shows_grow : {ver ver' : ℕ → Version} {B : Book} {u d s v : ℕ} → Same u ver ver' → Whole weight ver u d v → Shows ver B d s v → Shows ver' B d s v
  shows_grow {ver} {ver'} e (leaf {v = v} p q c) (cell m) = cell (ap (λ (x : Version). mark x) (e v q) ∙ m)
  shows_grow {ver} {ver'} e (inner {v = v} p q l r n f z) (cells a b) =
      cells (shows_at refl (ap (λ (x : Version). x.left.0) (sym (e v q))) (shows_grow e l a)) (shows_at refl (ap (λ (x : Version). x.right.0) (sym (e v q))) (shows_grow e r b))

  -- ---- sums

  -- a word that an inner version adds up from its children, and a leaf's version has from its mark
  pub record Adds (word : Version → ℕ) (f : Option ℕ → ℕ) : Type 0 where
    pub at_leaf : {r : Version} → Cell weight r → word r ≡ f (mark r)
    pub above : {ver : ℕ → Version} {u d v : ℕ} → Whole weight ver u (suc d) v → word (ver v) ≡ word (ver (ver v).left.0) + word (ver (ver v).right.0)

  pub adds_count : Adds (λ r. r.count) ones
  adds_count = record { at_leaf = at; above = λ w. over w }
    where
      at : {r : Version} → Cell weight r → r.count ≡ ones (mark r)
      at unmarked = refl
      at (marked l h) = refl

      over : {ver : ℕ → Version} {u d v : ℕ} → Whole weight ver u (suc d) v → (ver v).count ≡ (ver (ver v).left.0).count + (ver (ver v).right.0).count
      over (inner p q l r n e z) = n

  pub adds_energy : Adds (λ r. r.energy.0) (weights weight)
  adds_energy = record { at_leaf = at; above = λ w. over w }
    where
      at : {r : Version} → Cell weight r → r.energy.0 ≡ weights weight (mark r)
      at unmarked = refl
      at (marked l h) = refl

      over : {ver : ℕ → Version} {u d v : ℕ} → Whole weight ver u (suc d) v → (ver v).energy.0 ≡ (ver (ver v).left.0).energy.0 + (ver (ver v).right.0).energy.0
      over (inner p q l r n e z) = e

  pub shows_sum : {word : Version → ℕ} {f : Option ℕ → ℕ} {ver : ℕ → Version} {B : Book} {u d s v : ℕ} → Adds word f → Whole weight ver u d v → Shows ver B d s v
      → sum f (s + 2 ^ d) B ≡ sum f s B + word (ver v)
  shows_sum {word} {f} {ver} {B} a (leaf {v = v} p q c) (cell {s = s} m) = rw (add-one s) (ap (λ (n : ℕ). sum f s B + n) (ap f (sym m) ∙ sym (a.at_leaf c)))
  shows_sum {word} {f} {ver} {B} a (inner {d = d} {v = v} p q l r n e z) (cells {s = s} x y) =
      let both : s + 2 ^ suc d ≡ s + 2 ^ d + 2 ^ d = omega (arith, pow-suc 2 d) in
      ap (λ (m : ℕ). sum f m B) both ∙ omega (arith, shows_sum a l x, shows_sum a r y, a.above (inner {d = d} p q l r n e z))
