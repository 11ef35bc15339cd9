-- Members of a list, a fact of all its members, and what a list begins with.
-- Assumes nothing.
use Rattle.std.specs.Prelude.{◌≡◌}
use mathlib.Core.List.{List, [], ◌∷◌, ◌++◌, Memᴰ}

infix 40 ◌∈◌
abbrev pub ◌∈◌ : {A : Type 0} → A → List A → Type 0
◌∈◌ a s = Memᴰ a s

module _ {A : Type 0} where
  -- s begins with p
  pub record Prefix (p s : List A) : Type 0 where
    pub rest : List A
    pub is : s ≡ p ++ rest

  -- P holds of every member
  pub data All (P : A → Type 0) : List A → Type 0 where
    all_nil : All P []
    all_cons : {a : A} {s : List A} → P a → All P s → All P (a ∷ s)
