-- A refresh's successful swap keeps the facts: the new version shows the two lists that the refresh has read, and what
-- comes to the node with it is what of these lists had not come before. Assumes nothing.
use Rattle.std.specs.Prelude.{◌≡◌, refl, ◌≢◌, true, List, [], ◌∷◌, ◌++◌, ℕ, suc, ◌+◌, ◌≤◌, ◌<◌, length}
use Rattle.std.proofs.Common.{sym, ap, ap₂, ◌∙◌, subst, append-nil, le_refl, arith}
use Rattle.std.proofs.Math.Option.{some, none}
use Rattle.std.proofs.Math.Decide.{ℕ_discrete}
use Rattle.trie.specs.Record.{cell_of}
use Rattle.history.specs.Lists.{◌∈◌, Prefix, All, all_nil}
use Rattle.history.proofs.ListLaws.{prefix_trans, all_map, all_append, all_prefix, all_rest, all_at, all_intro}
use Rattle.history.proofs.Nodes.{Side, lo, hi, Node, Node-discrete, Below, below_length, below_up, below_one, lo≢hi}
use Rattle.history.proofs.Numbers.{leaf, place, length_leaf, place_leaf, leaf_place}
use Rattle.history.specs.Arrivals.{Op, Entry, unseen, refresh_brings}
use Rattle.history.proofs.PutLaws.{put_all, put_same}
use Rattle.history.proofs.Machine.{either, child, Shared, at_both, Climb, climbing, at, cell, go_up, join, node_swap, node_try}
use Rattle.history.proofs.Replay.{run, only, only_append, only_none, mem_only, only_mem, Distinct, distinct_prefix, distinct_apart, ops_nil, has_mem, has_none, unseen_split}
use Rattle.history.proofs.Invariant.{Closed, Inner, Depicts, Known, its, Late, PairOk, SpotOk, SawOk, ClimbOk}
use Rattle.history.proofs.Depicting.{depicts_cong, depicts_ver, depicts_join}
use Rattle.history.proofs.Growth.{inner, Grow, Step, spot_grow}
use Rattle.history.proofs.Building.{NoJ, no_j, closed_swap, grow_swap, up}
use Rattle.history.proofs.AtLeaf.{fit_below}
use Rattle.history.proofs.Once.{once_at}
use Rattle.history.proofs.Refreshes.{onclimb_map, knows_use, miss_step}

-- a leaf is told by its cell
pub cell_is : (h : ℕ) (o : Op) (k : Node) → length k ≡ h → cell_of o.update ≡ place k → cell h o ≡ k
cell_is h o k l e = ap (leaf h) e ∙ subst (λ m. leaf m (place k) ≡ k) l (leaf_place k)

module _ (h : ℕ) (weight : ℕ → ℕ) (G : Shared) (cl : Closed G.ver G.used) (sp : (y : Node) → SpotOk h weight G y (at G y)) where
  place_of : (o : Op) → Known h G o → cell_of o.update ≡ place (cell h o)
  place_of o kn = sym (place_leaf h (cell_of o.update) (fit_below o.update kn.fit))

  -- an entry of a node's list is in what the node has taken of the child on its way, and the other way round
  taken_reached : (x : Node) (b : Side) (q : Entry) → Below (b ∷ x) (cell h q.op) → Known h G q.op → q ∈ (at G x).taken b → q ∈ (at G x).reached
  taken_reached x b q below kn m = mem_only k (at G x).reached (subst (λ s. q ∈ s) (sym ((sp x).taken_eq b (cell h q.op) below (length_leaf h (cell_of q.op.update)))) (only_mem k (place_of q.op kn) m))
    where
      k : ℕ
      k = place (cell h q.op)

  reached_taken : (x : Node) (b : Side) (q : Entry) → Below (b ∷ x) (cell h q.op) → Known h G q.op → q ∈ (at G x).reached → q ∈ (at G x).taken b
  reached_taken x b q below kn m = mem_only k ((at G x).taken b) (subst (λ s. q ∈ s) ((sp x).taken_eq b (cell h q.op) below (length_leaf h (cell_of q.op.update))) (only_mem k (place_of q.op kn) m))
    where
      k : ℕ
      k = place (cell h q.op)

  -- what of a child's list has not reached the node is what the node has not taken: the page's sentence and the prefix agree
  pub unseen_rest : (x : Node) (b : Side) (s : List Entry) → Prefix s (at G (b ∷ x)).reached → (p : Prefix ((at G x).taken b) s) → unseen (at G x).reached s ≡ p.rest
  unseen_rest x b s pre p = ap (unseen (at G x).reached) p.is ∙ unseen_split (at G x).reached ((at G x).taken b) p.rest
      (all_intro ((at G x).taken b) (λ q m. has_mem (taken_reached x b q (all_at taken_inside m).0 (all_at taken_inside m).1 m)))
      (all_intro p.rest (λ q m. has_none q.op.id (all_intro (at G x).reached (λ f n e. apart q m f n e))))
    where
      inside : All (λ q. Below (b ∷ x) (cell h q.op) × Known h G q.op) s
      inside = all_prefix pre (sp (b ∷ x)).inside

      taken_inside : All (λ q. Below (b ∷ x) (cell h q.op) × Known h G q.op) ((at G x).taken b)
      taken_inside = all_prefix p inside

      once : Distinct ((at G x).taken b ++ p.rest)
      once = subst (λ z. Distinct z) p.is (distinct_prefix s pre.rest (subst (λ z. Distinct z) pre.is (once_at h weight G sp (b ∷ x))))

      apart : (q : Entry) → q ∈ p.rest → (f : Entry) → f ∈ (at G x).reached → f.op.id ≡ q.op.id → ⊥
      apart q m f n e = distinct_apart ((at G x).taken b) p.rest once (reached_taken x b f (subst (λ o. Below (b ∷ x) (cell h o)) (sym same) (all_at (all_rest p inside) m).0) kf n) m (sym e)
        where
          kf : Known h G f.op
          kf = (all_at (sp x).inside n).1

          same : f.op ≡ q.op
          same = unsome (sym kf.is ∙ ap G.ops e ∙ (all_at (all_rest p inside) m).1.is)
            where
              unsome : {a b : Op} → some a ≡ some b → a ≡ b
              unsome z = cc

  module _ (c : Climb) (v l : ℕ) (s : List Entry) (r : ℕ) (t : List Entry) (ok : ClimbOk h weight G c (at_both v l s r t)) (e : (at G c.node).current ≡ v) where
    abbrev x : Node
    x = c.node

    inner_lt : length x < h
    inner_lt = omega (arith, below_length ok.below, length_leaf h (cell_of c.op.update))

    saw : (b : Side) → SawOk h weight G c v b (either b l r) (either b s t)
    saw lo = ok.stages.1
    saw hi = ok.stages.2

    abbrev new : List Entry
    new = refresh_brings (at G x).reached s t

    abbrev rest : Side → List Entry
    rest b = ((saw b).taken e).rest

    new_is : new ≡ rest lo ++ rest hi
    new_is = ap₂ ◌++◌ (unseen_rest x lo s (saw lo).pre ((saw lo).taken e)) (unseen_rest x hi t (saw hi).pre ((saw hi).taken e))

    all_new : (b : Side) → All (λ q. Below (b ∷ x) (cell h q.op) × Known h G q.op) (rest b)
    all_new b = all_rest ((saw b).taken e) (all_prefix (saw b).pre (sp (b ∷ x)).inside)

    none_new : (b d : Side) → b ≢ d → (k : Node) → length k ≡ h → Below (b ∷ x) k → only (place k) (rest d) ≡ []
    none_new b d n k len below = only_none (place k) (all_map (λ q p f. n (below_one below (subst (λ y. Below (d ∷ x) y) (cell_is h q.op k len f) p.0))) (all_new d))

    -- the list after the swap, cell by cell, is what the refresh has read of the child
    seen : (b : Side) (k : Node) → Below (b ∷ x) k → length k ≡ h → only (place k) ((at G x).reached ++ new) ≡ only (place k) (either b s t)
    seen b k below len = only_append (place k) (at G x).reached new
        ∙ ap₂ ◌++◌ ((sp x).taken_eq b k below len) (ap (only (place k)) new_is ∙ only_append (place k) (rest lo) (rest hi) ∙ side b below)
        ∙ sym (ap (only (place k)) ((saw b).taken e).is ∙ only_append (place k) ((at G x).taken b) (rest b))
      where
        side : (b : Side) → Below (b ∷ x) k → only (place k) (rest lo) ++ only (place k) (rest hi) ≡ only (place k) (rest b)
        side lo p = ap (λ z. only (place k) (rest lo) ++ z) (none_new lo hi lo≢hi k len p) ∙ append-nil (only (place k) (rest lo))
        side hi p = ap (λ z. z ++ only (place k) (rest hi)) (none_new hi lo (λ q. lo≢hi (sym q)) k len p)

    seen_in : (b : Side) (q : Entry) → Below (b ∷ x) (cell h q.op) → q ∈ either b s t → q ∈ (at G x).reached ++ new
    seen_in b q p m = mem_only k ((at G x).reached ++ new) (subst (λ z. q ∈ z) (sym (seen b (cell h q.op) p (length_leaf h (cell_of q.op.update))))
        (only_mem k (place_of q.op (all_at (all_prefix (saw b).pre (sp (b ∷ x)).inside) m).1) m))
      where
        k : ℕ
        k = place (cell h q.op)

    abbrev Seen : Climb → Type 0
    Seen d = d.node ≡ x → its d ∈ either d.side s t

    abbrev after_swap : Shared
    after_swap = node_swap G x l s r t

    grow_node : Grow h weight NoJ Seen G after_swap
    grow_node = grow_swap h weight G cl NoJ Seen x (join G l r) new (λ b. either b s t)
        (inner (omega arith) inner_lt (λ d nd k b. seen_in d.side (its d) b (k nd)))
        (λ o d j z. absurd (omega (arith, inner_lt)))

    kid : (b : Side) → child b (join G l r) ≡ either b l r
    kid lo = refl
    kid hi = refl

    closed_node : Closed after_swap.ver after_swap.used
    closed_node = closed_swap G.ver G.used (join G l r) (λ b. subst (λ n. n ≤ G.used) (sym (kid b)) (saw b).le) cl

    ver_new : after_swap.ver (suc G.used) ≡ join G l r
    ver_new = put_same ℕ_discrete G.ver (suc G.used) (join G l r)

    kid_new : (b : Side) → Depicts h weight after_swap.ver (b ∷ x) (either b l r) ((at G x).reached ++ new)
    kid_new b = depicts_cong h weight (λ k p d. ap (run none) (sym (seen b k p d))) (depicts_ver h weight (grow_node.stable _ (saw b).le) (saw b).depicts)

    depicts_new : Depicts h weight after_swap.ver x (suc G.used) ((at G x).reached ++ new)
    depicts_new = depicts_join h weight after_swap.ver x (suc G.used) ((at G x).reached ++ new) (omega arith) inner_lt
        (subst (λ w. Inner w) (sym ver_new) (record { flat = refl; kids = λ b. subst (λ n. 1 ≤ n) (sym (kid b)) (saw b).depicts.numbered }))
        (λ b. subst (λ w. Depicts h weight after_swap.ver (b ∷ x) (child b w) ((at G x).reached ++ new)) (sym ver_new)
        (subst (λ n. Depicts h weight after_swap.ver (b ∷ x) n ((at G x).reached ++ new)) (sym (kid b)) (kid_new b)))
        (subst (λ w. w.count ≡ (after_swap.ver (child lo w)).count + (after_swap.ver (child hi w)).count) (sym ver_new)
        (sym (ap₂ ◌+◌ (ap (λ w. w.count) (grow_node.stable l (saw lo).le [])) (ap (λ w. w.count) (grow_node.stable r (saw hi).le [])))))
        (subst (λ w. w.energy.0 ≡ (after_swap.ver (child lo w)).energy.0 + (after_swap.ver (child hi w)).energy.0) (sym ver_new)
        (sym (ap₂ ◌+◌ (ap (λ w. w.energy.0) (grow_node.stable l (saw lo).le [])) (ap (λ w. w.energy.0) (grow_node.stable r (saw hi).le [])))))

    spot_node : (y : Node) → SpotOk h weight after_swap y (at after_swap y)
    spot_node = put_all Node-discrete (λ y a. SpotOk h weight after_swap y a) G.spot x _
        (record {
          current_le = le_refl (suc G.used);
          depicts = depicts_new;
          taken_pre = λ b. prefix_trans (saw b).pre (grow_node.grows (b ∷ x));
          taken_eq = seen;
          inside = all_map (λ q p. (p.0, grow_node.knew q.op p.1))
              (all_append (sp x).inside (subst (λ z. All (λ q. Below x (cell h q.op) × Known h G q.op) z) (sym new_is)
              (all_append (all_map (λ q p. (below_up p.0, p.1)) (all_new lo)) (all_map (λ q p. (below_up p.0, p.1)) (all_new hi)))));
          truth = λ d. absurd (omega (arith, inner_lt));
          able = all_nil;
          once = λ d. absurd (omega (arith, inner_lt));
          once_waiting = ops_nil;
        })
        (λ y n. spot_grow h weight grow_node y (at G y) (sp y))

    node_step : Known h G c.op → Step h weight G (climbing c (at_both v l s r t)) (after_swap, go_up c.op c.res (suc c.made) x)
    node_step old =
        up h weight G NoJ Seen (climbing c (at_both v l s r t)) after_swap c.op c.res (suc c.made) x (λ P p. p) old closed_node spot_node grow_node (λ X a. no_j X)
        (λ X p. onclimb_map (λ d su. PairOk G d su c (at_both v l s r t)) (λ d su. d.again ≡ true → Seen d)
        (λ d su k ag nd. knows_use _ d.side v l s r t (its d) (k nd (subst (λ a. Late (at G d.node).current a su) (sym ag) tt)) (ap (λ y. (at G y).current) nd ∙ e)) X p)
        (omega (arith, ok.share)) (below_up ok.below)
        (subst (λ a. its c ∈ a.reached) (sym (put_same Node-discrete G.spot x _)) (seen_in c.side (its c) ok.below ((saw c.side).own refl)))

  pub step_3 : (c : Climb) (v l : ℕ) (s : List Entry) (r : ℕ) (t : List Entry) → ClimbOk h weight G c (at_both v l s r t) → Known h G c.op → (d : Dec ((at G c.node).current ≡ v))
      → Step h weight G (climbing c (at_both v l s r t)) (node_try d G c l s r t)
  step_3 c v l s r t ok old (yes e) = node_step c v l s r t ok e old
  step_3 c v l s r t ok old (no n) = miss_step h weight G cl sp c v l s r t ok old n c.again refl
