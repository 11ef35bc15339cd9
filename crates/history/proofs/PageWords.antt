-- The order remembers lists where document 01 speaks of moments; these laws say of it what the page says.
-- Assumes nothing.
use Rattle.std.specs.Prelude.{◌≡◌, refl, ◌⊎◌, Bool, true, false, List, [], ◌∷◌, ◌++◌, ℕ, ◌+◌, ◌*◌}
use Rattle.std.proofs.Common.{sym, ap, ◌∙◌, subst, inl, inr}
use mathlib.Core.List.Memᴰ
use Rattle.std.proofs.Math.Decide.{ℕ_discrete}
use Rattle.trie.specs.declared.VersionNumber.{VersionNumber}
use Rattle.trie.specs.declared.Climb.{Climb}
use Rattle.trie.specs.declared.Held.{Held}
use Rattle.trie.specs.declared.Phase.{Phase}
use Rattle.trie.specs.Choice.{pick}
use Rattle.trie.specs.Calls.{State}
use Rattle.trie.proofs.CallLaws.{start_call_refused, step_call_refused}
use Rattle.history.specs.Histories.{Call, start, step, Moment, called, after_start, after_step, Refuses}
use Rattle.history.specs.Lists.{◌∈◌}
use Rattle.history.specs.Arrivals.{Entry, has, unseen, refresh_brings}
use Rattle.history.proofs.PutLaws.{put_same}
use Rattle.history.specs.Order.{Memory, succeeds, advance, swaps_node}

-- those of a list that have not come yet: they are in the list, and not among those that have come
unseen_mem : {e : Entry} (came s : List Entry) → e ∈ unseen came s → (e ∈ s) × (has came e.op.id ≡ false)
unseen_mem came [] m = absurd (Memᴰ.not-nil m)
unseen_mem {e} came (a ∷ s) m = go (has came a.op.id) refl m (λ k. unseen_mem came s k)
  where
    more : (e ∈ s) × (has came e.op.id ≡ false) → (e ∈ (a ∷ s)) × (has came e.op.id ≡ false)
    more (k, f) = (Memᴰ.tail k, f)

    go : (b : Bool) → has came a.op.id ≡ b → e ∈ pick b (unseen came s) (a ∷ unseen came s) → (e ∈ unseen came s → (e ∈ s) × (has came e.op.id ≡ false)) → (e ∈ (a ∷ s)) × (has came e.op.id ≡ false)
    go true f k g = more (g k)
    go false f k g = by (Memᴰ.cases_cons k)
      where
        by : (e ≡ a) ⊎ (e ∈ unseen came s) → (e ∈ (a ∷ s)) × (has came e.op.id ≡ false)
        by (inl q) = (Memᴰ.head q, subst (λ (x : Entry). has came x.op.id ≡ false) (sym q) f)
        by (inr q) = more (g q)

mem_unseen : {e : Entry} (came : List Entry) {s : List Entry} → has came e.op.id ≡ false → e ∈ s → e ∈ unseen came s
mem_unseen {e} came f (Memᴰ.head {x = a} {xs = s} q) = subst (λ b. e ∈ pick b (unseen came s) (a ∷ unseen came s)) (sym (subst (λ (x : Entry). has came x.op.id ≡ false) q f)) (Memᴰ.head q)
mem_unseen {e} came f (Memᴰ.tail {x = a} {xs = s} m) = go (has came a.op.id) (mem_unseen came f m)
  where
    go : (b : Bool) → e ∈ unseen came s → e ∈ pick b (unseen came s) (a ∷ unseen came s)
    go true k = k
    go false k = Memᴰ.tail k

module _ (n i : ℕ) (s : State) (m : Memory) (c : Climb) where
  -- a refresh's read of a child remembers who has reached that child by then
  pub left_read : (v : VersionNumber) → ((advance n i (Phase.Refresh c (Held.Node v)) s m).tasks i).left ≡ m.reached (2 * c.node.0)
  left_read v = ap (λ t. t.left) (put_same ℕ_discrete m.tasks i _)

  pub right_read : (v l : VersionNumber) → ((advance n i (Phase.Refresh c (Held.Left v l)) s m).tasks i).right ≡ m.reached (2 * c.node.0 + 1)
  right_read v l = ap (λ t. t.right) (put_same ℕ_discrete m.tasks i _)

  module _ (v l r : VersionNumber) (e : Entry) where
    abbrev pub before : List Entry
    before = m.reached c.node.0

    abbrev pub afterwards : List Entry
    afterwards = (advance n i (Phase.Refresh c (Held.Both v l r)) s m).reached c.node.0

    -- had reached a child when the refresh read it
    abbrev pub ReadIn : Type 0
    ReadIn = (e ∈ (m.tasks i).left) ⊎ (e ∈ (m.tasks i).right)

    swapped : succeeds s c.node.0 v ≡ true → afterwards ≡ before ++ refresh_brings before (m.tasks i).left (m.tasks i).right
    swapped k = ap (λ b. (swaps_node b c.node.0 (m.tasks i) m).reached c.node.0) k ∙ put_same ℕ_discrete m.reached c.node.0 _

    -- a successful swap brings to the node whoever had reached a child when its refresh read that child, and had not come before ..
    pub brings : succeeds s c.node.0 v ≡ true → has before e.op.id ≡ false → ReadIn → e ∈ afterwards
    brings k f q = subst (λ z. e ∈ z) (sym (swapped k)) (Memᴰ.append_right before (by q))
      where
        by : ReadIn → e ∈ refresh_brings before (m.tasks i).left (m.tasks i).right
        by (inl x) = Memᴰ.append_left (unseen before (m.tasks i).right) (mem_unseen before f x)
        by (inr x) = Memᴰ.append_right (unseen before (m.tasks i).left) (mem_unseen before f x)

    -- .. and nobody else
    pub brings_only : succeeds s c.node.0 v ≡ true → e ∈ afterwards → (e ∈ before) ⊎ (ReadIn × (has before e.op.id ≡ false))
    brings_only k q = by (Memᴰ.append_cases before (subst (λ z. e ∈ z) (swapped k) q))
      where
        sides : (e ∈ unseen before (m.tasks i).left) ⊎ (e ∈ unseen before (m.tasks i).right) → ReadIn × (has before e.op.id ≡ false)
        sides (inl x) = let y = unseen_mem before (m.tasks i).left x in (inl y.0, y.1)
        sides (inr x) = let y = unseen_mem before (m.tasks i).right x in (inr y.0, y.1)

        by : (e ∈ before) ⊎ (e ∈ refresh_brings before (m.tasks i).left (m.tasks i).right) → (e ∈ before) ⊎ (ReadIn × (has before e.op.id ≡ false))
        by (inl x) = inl x
        by (inr x) = inr (sides (Memᴰ.append_cases (unseen before (m.tasks i).left) x))

    -- a failing swap brings nobody
    pub brings_none : succeeds s c.node.0 v ≡ false → afterwards ≡ before
    brings_none k = ap (λ b. (swaps_node b c.node.0 (m.tasks i) m).reached c.node.0) k

-- a refused call is no part of the history: it leaves all that is lent, and all that is remembered, as it was
pub refused_nothing : (n w : ℕ) (c : Call) (t : Moment) (number : ℕ) → Refuses n w c t.state number → called n w c t ≡ t
refused_nothing n w (start i o) t number e = λ j. record { state = start_call_refused n w i o t.state number e j; memory = after_start (e j) i o t.memory }
refused_nothing n w (step i) t number e = λ j. record { state = step_call_refused n w i t.state number e j; memory = after_step (e j) n i t.state t.memory }
