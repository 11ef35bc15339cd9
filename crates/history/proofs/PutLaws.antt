-- Laws of a function that is changed at one place: what it is there, and elsewhere.
-- Assumes nothing.
use Rattle.std.specs.Prelude.{◌≡◌, refl, ◌≢◌}
use Rattle.std.proofs.Common.{sym, subst}
use Rattle.history.specs.Put.{choose, put}

module _ {I A : Type 0} (dec : (x y : I) → Dec (x ≡ y)) where
  pub put_all : (P : I → A → Type 0) (f : I → A) (z : I) (a : A) → P z a → ((y : I) → y ≢ z → P y (f y)) → (y : I) → P y (put dec f z a y)
  put_all P f z a h k y = go (dec y z)
    where
      go : (d : Dec (y ≡ z)) → P y (choose d a (f y))
      go (yes e) = subst (λ n. P n a) (sym e) h
      go (no n) = k y n

  pub put_same : (f : I → A) (z : I) (a : A) → put dec f z a z ≡ a
  put_same f z a = go (dec z z)
    where
      go : (d : Dec (z ≡ z)) → choose d a (f z) ≡ a
      go (yes e) = refl
      go (no n) = absurd (n refl)

  pub put_other : (f : I → A) (z : I) (a : A) (y : I) → y ≢ z → put dec f z a y ≡ f y
  put_other f z a y n = go (dec y z)
    where
      go : (d : Dec (y ≡ z)) → choose d a (f y) ≡ f y
      go (yes e) = absurd (n e)
      go (no n') = refl
