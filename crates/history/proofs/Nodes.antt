-- Nodes as the turns that lead to them, and what lies below a node.
-- Assumes nothing.
use Rattle.std.specs.Prelude.{◌≡◌, refl, ◌≢◌, List, [], ◌∷◌, ℕ, ◌+◌, ◌≤◌, length}
use Rattle.std.proofs.Common.{sym, ap, ap₂, ◌∙◌, arith}

pub data Side : Type 0 where
  lo hi : Side

-- a node is the turns that lead to it, the last one first: the root is [], the children of x are lo ∷ x and hi ∷ x
abbrev pub Node : Type 0
Node = List Side

unfoldable pub side_discrete : (a b : Side) → Dec (a ≡ b)
side_discrete lo lo = yes refl
side_discrete lo hi = no (λ p. let z : ◌≡◌ {A = ℕ} 0 1 = cc in omega arith)
side_discrete hi lo = no (λ p. let z : ◌≡◌ {A = ℕ} 0 1 = cc in omega arith)
side_discrete hi hi = yes refl

unfoldable pub both : {a b : Side} {x y : Node} → Dec (a ≡ b) → Dec (x ≡ y) → Dec (a ∷ x ≡ b ∷ y)
both (yes p) (yes q) = yes (ap₂ ◌∷◌ p q)
both (yes p) (no n) = no (λ e. n (cc))
both (no n) q = no (λ e. n (cc))

-- (computes, as mathlib's `List-discrete` does not: it is shut)
unfoldable pub Node-discrete : (x y : Node) → Dec (x ≡ y)
unfolding side_discrete both
Node-discrete [] [] = yes refl
Node-discrete [] (b ∷ y) = no (λ p. let z : ◌≡◌ {A = ℕ} 0 1 = cc in omega arith)
Node-discrete (a ∷ x) [] = no (λ p. let z : ◌≡◌ {A = ℕ} 0 1 = cc in omega arith)
Node-discrete (a ∷ x) (b ∷ y) = both (side_discrete a b) (Node-discrete x y)

-- the node that is reached from x by the turns t, the first turn first
abbrev pub down : List Side → Node → Node
down [] x = x
down (b ∷ t) x = down t (b ∷ x)

pub length_down : (t : List Side) (x : Node) → length (down t x) ≡ length t + length x
length_down [] x = omega arith
length_down (b ∷ t) x = omega (arith, length_down t (b ∷ x))

-- k is x, or lies below it
pub record Below (x k : Node) : Type 0 where
  pub turns : List Side
  pub is : k ≡ down turns x

pub below_length : {x k : Node} → Below x k → length x ≤ length k
below_length {x} {k} h = omega (arith, length_down h.turns x, ap length h.is)

pub below_self : (x : Node) → Below x x
below_self x = record { turns = []; is = refl }

pub below_up : {b : Side} {x k : Node} → Below (b ∷ x) k → Below x k
below_up {b} h = record { turns = b ∷ h.turns; is = h.is }

pub below_down : {x k : Node} (t : List Side) → Below (down t x) k → Below x k
below_down [] h = h
below_down (b ∷ t) h = below_up (below_down t h)

pub below_same : {x k : Node} → Below x k → length k ≡ length x → k ≡ x
below_same {x} {k} h l = go h.turns h.is
  where
    go : (t : List Side) → k ≡ down t x → k ≡ x
    go [] e = e
    go (b ∷ t) e = absurd (omega (arith, length_down t (b ∷ x), ap length e))

down_inj : (t t' : List Side) (y y' : Node) → length t ≡ length t' → down t y ≡ down t' y' → y ≡ y'
down_inj [] [] y y' l e = e
down_inj [] (c ∷ t') y y' l e = absurd (omega arith)
down_inj (b ∷ t) [] y y' l e = absurd (omega arith)
down_inj (b ∷ t) (c ∷ t') y y' l e = tails (down_inj t t' (b ∷ y) (c ∷ y') (omega arith) e)
  where
    tails : b ∷ y ≡ c ∷ y' → y ≡ y'
    tails q = cc

-- the cells below two different children are different
pub below_one : {b c : Side} {x k : Node} → Below (b ∷ x) k → Below (c ∷ x) k → b ≡ c
below_one {b} {c} {x} {k} h g = heads (down_inj h.turns g.turns (b ∷ x) (c ∷ x) (omega (arith, length_down h.turns (b ∷ x), length_down g.turns (c ∷ x), ap length h.is, ap length g.is)) (sym h.is ∙ g.is))
  where
    heads : b ∷ x ≡ c ∷ x → b ≡ c
    heads q = cc

pub lo≢hi : lo ≢ hi
lo≢hi p = let z : ◌≡◌ {A = ℕ} 0 1 = cc in omega arith
