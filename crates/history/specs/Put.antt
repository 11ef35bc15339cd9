-- A function that is changed at one place.
-- Assumes nothing.
use Rattle.std.specs.Prelude.{◌≡◌}

abbrev pub choose : {A P : Type 0} → Dec P → A → A → A
choose (yes p) a b = a
choose (no n) a b = b

abbrev pub put : {I A : Type 0} → ((x y : I) → Dec (x ≡ y)) → (I → A) → I → A → I → A
put dec f z a y = choose (dec y z) a (f y)
