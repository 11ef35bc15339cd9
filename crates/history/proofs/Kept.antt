-- The facts hold at every moment: an opening makes them true, and each step and each start of an update keeps them.
-- Assumes nothing.
use Rattle.std.specs.Prelude.{◌≡◌, refl, ◌≢◌, true, List, [], ◌∷◌, ℕ, zero, suc, ◌+◌, ◌*◌, ◌^◌, ◌≤◌, ◌<◌, length}
use Rattle.std.proofs.Common.{sym, ap, ◌∙◌, subst, le_refl, arith, pow_mono, pow_pos}
use Rattle.std.proofs.Math.Option.{Option, some, none}
use Rattle.std.proofs.Math.Decide.{ℕ_discrete, dec_le}
use Rattle.trie.specs.declared.Version.{Version}
use Rattle.trie.specs.Record.{update_fits}
use Rattle.trie.specs.Tables.{version}
use Rattle.history.specs.Lists.{Prefix, all_nil}
use Rattle.history.proofs.ListLaws.{prefix_refl, all_map}
use Rattle.history.proofs.Nodes.{Side, lo, hi, Node, down, length_down}
use Rattle.history.proofs.Numbers.{number, number_pos, number_range}
use Rattle.history.specs.Book.{fits, ones, weights, mark}
use Rattle.history.specs.Arrivals.{Op}
use Rattle.history.specs.Put.{choose}
use Rattle.history.proofs.PutLaws.{put_same, put_other}
use Rattle.history.proofs.Machine.{child, look, Shared, nothing, at_node, at_left, at_both, Worker, idle, reading, swapping, climbing, answered, State, at, cell, step_w, begins, settled, initial}
use Rattle.history.proofs.Replay.{dist_nil, ops_nil}
use Rattle.history.proofs.Invariant.{tally, Closed, Inner, Depicts, Known, OnOp, Pair, SpotOk, WorkerOk, Inv}
use Rattle.history.proofs.Depicting.{Same}
use Rattle.history.proofs.Growth.{kept, Grow, Good, Step, onop_map, good_inv, spot_grow}
use Rattle.history.proofs.Building.{NoJ, NoK, no_j, no_k, onclimb_all, move, stay}
use Rattle.history.proofs.AtLeaf.{read_step}
use Rattle.history.proofs.LeafSwap.{try_step}
use Rattle.history.proofs.Refreshes.{step_0, step_1, step_2}
use Rattle.history.proofs.RefreshSwap.{step_3}

module _ (h : ℕ) (weight : ℕ → ℕ) where
  module _ (G : Shared) (cl : Closed G.ver G.used) (sp : (y : Node) → SpotOk h weight G y (at G y)) where
    stepping : (W : Worker) → WorkerOk h weight G W → Pair G W W → OnOp (Known h G) W → Step h weight G W (step_w h weight G W)
    stepping idle ok p old = stay h weight G cl sp idle old ok p
    stepping (reading o) ok p old = read_step h weight G cl sp o ok old (fits o.update (mark (G.ver (at G (cell h o)).current))) refl
    stepping (swapping o v) ok p old = try_step h weight G cl sp o v ok old (ℕ_discrete (at G (cell h o)).current v)
    stepping (climbing c nothing) ok p old = step_0 h weight G cl sp c ok old
    stepping (climbing c (at_node v)) ok p old = step_1 h weight G cl sp c v ok old
    stepping (climbing c (at_left v l s)) ok p old = step_2 h weight G cl sp c v l s ok old
    stepping (climbing c (at_both v l s r t)) ok p old = step_3 h weight G cl sp c v l s r t ok old (ℕ_discrete (at G c.node).current v)
    stepping (answered o r) ok p old = stay h weight G cl sp (answered o r) old ok p

    module _ (o : Op) (new : G.next ≤ o.id) (fit : update_fits (2 ^ h) o.update ≡ true) where
      older : (q : Op) → Known h G q → q.id ≢ o.id
      older q k e = omega (arith, k.old)

      grow_begin : Grow h weight NoJ NoK G (begins G o)
      grow_begin =
          record {
            more = le_refl G.used;
            stable = λ v l t. refl;
            grows = λ y. prefix_refl (at G y).reached;
            change = λ y. kept refl (λ b. refl) (λ o m. m);
            nexts = omega arith;
            knew = λ q k. record { old = omega (arith, k.old); is = put_other ℕ_discrete G.ops o.id (some o) q.id (older q k) ∙ k.is; fit = k.fit };
            absent = λ q y l j z. z;
          }

      begin_step : (W : Worker) → Good h weight NoJ NoK G W (begins G o) (reading o)
      begin_step W =
          record {
            closed = cl;
            spots = λ y. spot_grow h weight grow_begin y (at G y) (sp y);
            grow = grow_begin;
            is_j = λ X q. no_j X;
            is_k = λ X q. no_k X;
            self = record { reached = all_map (λ e p. older e.op p.1) (sp (cell h o)).inside; waiting = all_map (λ q p. older q p.2) (sp (cell h o)).able };
            pair_to = λ X q p. onclimb_all (λ c st. Unit {0}) (λ c st. tt) X;
            pair_from = λ X q p. tt;
            pair_self = tt;
            known = record { old = omega arith; is = put_same ℕ_discrete G.ops o.id (some o); fit = fit };
            apart_to = λ X q p. onop_map h weight (Known h G) (λ q. q.id ≢ o.id) older X q;
            apart_from = λ X q p. onop_map h weight (Known h G) (λ q. o.id ≢ q.id) (λ q l e. older q l (sym e)) X q;
          }

  pub step_keeps : (σ : State) (w : ℕ) → Inv h weight σ → Inv h weight (settled σ w (step_w h weight σ.shared (σ.workers w)))
  step_keeps σ w i = good_inv h weight σ w _ _ i (stepping σ.shared i.closed i.spots (σ.workers w) (i.works w) (i.pairs w w) (i.known w)).good

  pub start_keeps : (σ : State) (w : ℕ) (o : Op) → σ.shared.next ≤ o.id → update_fits (2 ^ h) o.update ≡ true → Inv h weight σ → Inv h weight (settled σ w (begins σ.shared o, reading o))
  start_keeps σ w o new fit i = good_inv h weight σ w _ _ i (begin_step σ.shared i.closed i.spots o new fit (σ.workers w))

  -- a worker that rests, and forgets what it answered
  pub rest_keeps : (σ : State) (w : ℕ) → Inv h weight σ → Inv h weight (settled σ w (σ.shared, idle))
  rest_keeps σ w i = good_inv h weight σ w _ _ i
      (move h weight σ.shared i.closed i.spots (σ.workers w) idle (λ P p. tt) (i.known w) tt (λ X q p. onclimb_all (λ c st. Unit {0}) (λ c st. tt) X) (λ X q p. tt) tt).good

  -- ---- what stays true of a moment that has passed

  -- versions stay as they are, lists grow at their end, what has begun has begun
  pub record Later (G G' : Shared) : Type 0 where
    pub more : G.used ≤ G'.used
    pub same : Same G.used G.ver G'.ver
    pub grows : (y : Node) → Prefix (at G y).reached (at G' y).reached
    pub nexts : G.next ≤ G'.next
    pub knew : (o : Op) → Known h G o → Known h G' o

  later_grow : {J : Op → Type 0} {K : _ → Type 0} {G G' : Shared} → Grow h weight J K G G' → Later G G'
  later_grow g = record { more = g.more; same = λ v l. g.stable v l []; grows = g.grows; nexts = g.nexts; knew = g.knew }

  pub step_later : (σ : State) (w : ℕ) → Inv h weight σ → Later σ.shared (step_w h weight σ.shared (σ.workers w)).0
  step_later σ w i = later_grow (stepping σ.shared i.closed i.spots (σ.workers w) (i.works w) (i.pairs w w) (i.known w)).good.grow

  pub later_refl : (G : Shared) → Later G G
  later_refl G = record { more = le_refl G.used; same = λ v l. refl; grows = λ y. prefix_refl (at G y).reached; nexts = le_refl G.next; knew = λ o k. k }

  pub start_later : (σ : State) (o : Op) → σ.shared.next ≤ o.id → update_fits (2 ^ h) o.update ≡ true → Inv h weight σ → Later σ.shared (begins σ.shared o)
  start_later σ o new fit i = later_grow (grow_begin σ.shared i.closed i.spots o new fit)

  -- ---- the opening

  tally_blank : (f : Option ℕ → ℕ) → f none ≡ 0 → (d : ℕ) (y : Node) → 0 ≡ tally f d y (λ k. none)
  tally_blank f e zero y = sym e
  tally_blank f e (suc d) y = omega (arith, tally_blank f e d (lo ∷ y), tally_blank f e d (hi ∷ y))

  -- the versions of an opening: version x is node x's, its children are 2x and 2x + 1, and all else is 0
  pub record Opened (used : ℕ) (ver : ℕ → Version) : Type 0 where
    pub all : used + 1 ≡ 2 * 2 ^ h
    pub closed : Closed ver used
    pub leaf : (y : Node) → length y ≡ h → ver (number y) ≡ version 0 0 0 0 0
    pub inner : (y : Node) → length y < h → ver (number y) ≡ version (2 * number y) (2 * number y + 1) 0 0 0

  module _ (used : ℕ) (ver : ℕ → Version) (o : Opened used ver) where
    child_number : (b : Side) (x : Node) → length x < h → child b (ver (number x)) ≡ number (b ∷ x)
    child_number lo x l = ap (λ v. v.left.0) (o.inner x l) ∙ omega arith
    child_number hi x l = ap (λ v. v.right.0) (o.inner x l)

    look_number : (t : List Side) (x : Node) → length (down t x) ≤ h → look ver t (number x) ≡ number (down t x)
    look_number [] x l = refl
    look_number (b ∷ t) x l = ap (λ n. look ver t n) (child_number b x (omega (arith, length_down t (b ∷ x)))) ∙ look_number t (b ∷ x) l

    zeros : (y : Node) → length y ≤ h → ((ver (number y)).count ≡ 0) × ((ver (number y)).energy.0 ≡ 0)
    zeros y l = go (dec_le h (length y))
      where
        go : Dec (h ≤ length y) → ((ver (number y)).count ≡ 0) × ((ver (number y)).energy.0 ≡ 0)
        go (yes m) = (ap (λ v. v.count) (o.leaf y (omega arith)), ap (λ v. v.energy.0) (o.leaf y (omega arith)))
        go (no n) = (ap (λ v. v.count) (o.inner y (omega arith)), ap (λ v. v.energy.0) (o.inner y (omega arith)))

    depicts_open : (y : Node) → length y ≤ h → Depicts h weight ver y (number y) []
    depicts_open y l =
        record {
          numbered = number_pos y;
          leaves = λ t e. ap ver (look_number t y (omega arith)) ∙ o.leaf (down t y) e;
          inner = λ t e. subst (λ v. Inner v) (sym (ap ver (look_number t y (omega arith))))
              (record { flat = ap (λ v. v.level.0) (o.inner (down t y) e); kids = λ b. subst (λ n. 1 ≤ n) (sym (child_number b (down t y) e)) (number_pos (b ∷ down t y)) });
          counts = λ t d e. ap (λ n. (ver n).count) (look_number t y (omega arith)) ∙ (zeros (down t y) (omega arith)).0 ∙ tally_blank ones refl d (down t y);
          energies = λ t d e. ap (λ n. (ver n).energy.0) (look_number t y (omega arith)) ∙ (zeros (down t y) (omega arith)).1 ∙ tally_blank (weights weight) refl d (down t y);
        }

    depicts_deep : (y : Node) → h < length y → Depicts h weight ver y 1 []
    depicts_deep y l =
        record {
          numbered = omega arith;
          leaves = λ t e. absurd (omega (arith, length_down t y));
          inner = λ t e. absurd (omega (arith, length_down t y));
          counts = λ t d e. absurd (omega (arith, length_down t y));
          energies = λ t d e. absurd (omega (arith, length_down t y));
        }

    spot_open : (y : Node) (d : Dec (length y ≤ h)) → (choose d (number y) 1 ≤ used) × Depicts h weight ver y (choose d (number y) 1) []
    spot_open y (yes l) = let up : 2 ^ length y ≤ 2 ^ h = pow_mono l in (omega (arith, o.all, (number_range y).1), depicts_open y l)
    spot_open y (no n) = let one : 1 ≤ 2 ^ h = pow_pos h in (omega (arith, o.all), depicts_deep y (omega arith))

    pub opening_holds : Inv h weight (initial h used ver)
    opening_holds =
        record {
          closed = o.closed;
          spots = λ y. record {
            current_le = (spot_open y (dec_le (length y) h)).0;
            depicts = (spot_open y (dec_le (length y) h)).1;
            taken_pre = λ b. prefix_refl [];
            taken_eq = λ b k p l. refl;
            inside = all_nil;
            truth = λ l. tt;
            able = all_nil;
            once = λ l. dist_nil;
            once_waiting = ops_nil;
          };
          works = λ u. tt;
          pairs = λ u w. tt;
          known = λ u. tt;
          apart = λ u w n. tt;
        }
