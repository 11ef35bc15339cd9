-- Laws of members, of facts of all members, and of what a list begins with.
-- Assumes nothing.
use Rattle.std.specs.Prelude.{◌≡◌, refl, ◌⊎◌, List, [], ◌∷◌, ◌++◌}
use Rattle.std.proofs.Common.{sym, ◌∙◌, inl, inr, append_assoc, append-nil}
use mathlib.Core.List.Memᴰ
use Rattle.history.specs.Lists.{◌∈◌, Prefix, All, all_nil, all_cons}

module _ {A : Type 0} where
  pub prefix_refl : (s : List A) → Prefix s s
  prefix_refl s = record { rest = []; is = sym (append-nil s) }

  pub prefix_append : (s t : List A) → Prefix s (s ++ t)
  prefix_append s t = record { rest = t; is = refl }

  pub prefix_trans : {p s r : List A} → Prefix p s → Prefix s r → Prefix p r
  prefix_trans {p} {s} {r} h k = record { rest = h.rest ++ k.rest; is = k.is ∙ rw (h.is, append_assoc) }

  pub mem_prefix : {a : A} {p s : List A} → Prefix p s → a ∈ p → a ∈ s
  mem_prefix {a} {p} {s} h m = rw h.is (Memᴰ.append_left h.rest m)

  pub all_head : {P : A → Type 0} {a : A} {s : List A} → All P (a ∷ s) → P a
  all_head (all_cons h k) = h

  pub all_tail : {P : A → Type 0} {a : A} {s : List A} → All P (a ∷ s) → All P s
  all_tail (all_cons h k) = k

  pub all_map : {P Q : A → Type 0} {s : List A} → ((a : A) → P a → Q a) → All P s → All Q s
  all_map f all_nil = all_nil
  all_map f (all_cons {a = a} h k) = all_cons (f a h) (all_map f k)

  pub all_append : {P : A → Type 0} {s t : List A} → All P s → All P t → All P (s ++ t)
  all_append all_nil k = k
  all_append (all_cons h r) k = all_cons h (all_append r k)

  pub all_right : {P : A → Type 0} (s : List A) {t : List A} → All P (s ++ t) → All P t
  all_right [] h = h
  all_right (a ∷ s) h = all_right s (all_tail h)

  pub all_left : {P : A → Type 0} (s t : List A) → All P (s ++ t) → All P s
  all_left [] t h = all_nil
  all_left (a ∷ s) t h = all_cons (all_head h) (all_left s t (all_tail h))

  pub all_prefix : {P : A → Type 0} {p s : List A} → Prefix p s → All P s → All P p
  all_prefix {P} {p} {s} q h = all_left p q.rest (rw q.is at h)

  pub all_rest : {P : A → Type 0} {p s : List A} (q : Prefix p s) → All P s → All P q.rest
  all_rest {P} {p} {s} q h = all_right p (rw q.is at h)

  pub all_at : {P : A → Type 0} {a : A} {s : List A} → All P s → a ∈ s → P a
  all_at all_nil m = absurd (Memᴰ.not-nil m)
  all_at {P} {a} (all_cons {a = b} {s = s} h k) m = go (Memᴰ.cases_cons m) (λ q. all_at k q)
    where
      go : (a ≡ b) ⊎ (a ∈ s) → (a ∈ s → P a) → P a
      go (inl e) f = rw e h
      go (inr q) f = f q

  pub all_intro : {P : A → Type 0} (s : List A) → ((a : A) → a ∈ s → P a) → All P s
  all_intro [] f = all_nil
  all_intro (a ∷ s) f = all_cons (f a (Memᴰ.head refl)) (all_intro s (λ b m. f b (Memᴰ.tail m)))

  pub all_zip : {P Q R : A → Type 0} {s : List A} → ((a : A) → P a → Q a → R a) → All P s → All Q s → All R s
  all_zip f all_nil k = all_nil
  all_zip f (all_cons {a = a} h r) k = all_cons (f a h (all_head k)) (all_zip f r (all_tail k))
