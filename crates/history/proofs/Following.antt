-- What the order remembers is what the machine remembers: node by number, list by list; and an update's step adds to
-- both alike. Assumes nothing.
use Rattle.std.specs.Prelude.{◌≡◌, refl, ◌≢◌, Bool, true, false, List, [], ◌∷◌, ◌++◌, ℕ, suc, ◌+◌, ◌^◌, ◌≤◌, ◌<◌, eqb, length, get_or}
use Rattle.std.proofs.Common.{sym, ap, ap₂, ◌∙◌, subst, append-nil, arith, eqb-true, ne_eqb}
use Rattle.std.proofs.Math.Decide.{ℕ_discrete}
use Rattle.std.proofs.lemmas.Bool.{eqb-false}
use Rattle.decibel.specs.Energy.{energy_of}
use Rattle.trie.specs.declared.Phase.{Phase}
use Rattle.trie.specs.Choice.{pick}
use Rattle.trie.specs.Tables.{current_of, version_at}
use Rattle.trie.specs.Record.{cell_of}
use Rattle.trie.specs.Leaf.{as_wanted}
use Rattle.trie.specs.Calls.{State}
use Rattle.history.proofs.Nodes.{lo, hi, Node, Node-discrete, below_length}
use Rattle.history.proofs.Numbers.{number, number_pos, number_inj, number_leaf, length_leaf}
use Rattle.history.specs.Book.{fits, mark}
use Rattle.history.specs.Arrivals.{Op, Entry, entry, swap_brings, refresh_brings}
use Rattle.history.specs.Put.{put}
use Rattle.history.proofs.PutLaws.{put_all, put_same, put_other}
use Rattle.history.specs.Order.{Task, Memory, places, read, op_of, reads_leaf, swaps_leaf, swaps_node, advance}
use Rattle.history.proofs.Machine.{Spot, Shared, Stage, nothing, at_node, at_left, at_both, Climb, Worker, idle, reading, swapping, climbing, answered, at, cell, go_up, missed, leaf_read, leaf_try, node_try, step_w}
use Rattle.history.proofs.Invariant.{Known, OnOp, WorkerOk}
use Rattle.history.proofs.View.{View, held_of, climb_of, Shown}
use Rattle.history.proofs.AtLeaf.{fit_below}
use Rattle.history.proofs.Simulation.{Working, at_read, at_swap, at_climb, as_wanted_lem}

-- the lists that the present refresh has read
abbrev pub Heard : Task → Stage → Type 0
Heard t nothing = Unit {0}
Heard t (at_node v) = Unit {0}
Heard t (at_left v l s) = t.left ≡ s
Heard t (at_both v l s r q) = (t.left ≡ s) × (t.right ≡ q)

abbrev pub Tasked : Task → Worker → Type 0
Tasked t idle = Unit {0}
Tasked t (reading o) = t.id ≡ o.id
Tasked t (swapping o v) = t.id ≡ o.id
Tasked t (climbing c st) = (t.id ≡ c.op.id) × Heard t st
Tasked t (answered o r) = Unit {0}

-- who of those that come to node x come to the root
abbrev at_root : Node → List Entry → List Entry
at_root [] s = s
at_root (b ∷ x) s = []

tasked_up : (t : Task) (o : Op) (r : Bool) (m : ℕ) (x : Node) → t.id ≡ o.id → Tasked t (go_up o r m x)
tasked_up t o r m [] e = tt
tasked_up t o r m (b ∷ x) e = (e, tt)

module _ (h : ℕ) where
  pub record Remembers (m : Memory) (G : Shared) : Type 0 where
    pub reached : (y : Node) → length y ≤ h → m.reached (number y) ≡ (at G y).reached
    pub waiting : (y : Node) → length y ≡ h → m.waiting (number y) ≡ (at G y).waiting

  -- a step of worker i: what is remembered follows, and those that come to the root are placed
  pub record Advanced (i : ℕ) (m m' : Memory) (G : Shared) (p : Shared × Worker) : Type 0 where
    pub remembers : Remembers m' p.0
    pub tasked : Tasked (m'.tasks i) p.1
    pub same_id : (m'.tasks i).id ≡ (m.tasks i).id
    pub others : (j : ℕ) → j ≢ i → m'.tasks j ≡ m.tasks j
    pub moment : m'.moment ≡ m.moment
    pub starts : m'.starts ≡ m.starts
    pub lives : m'.lives ≡ m.lives
    pub who : List Entry
    pub root : (at p.0 []).reached ≡ (at G []).reached ++ who
    pub order : m'.order ≡ m.order ++ places m.moment who

  module _ (G : Shared) (m : Memory) (r : Remembers m G) where
    -- a list by node number that is changed at one node
    changed : {A : Type 0} (field : Spot → A) (f : ℕ → A) (P : Node → Type 0) → ((y : Node) → P y → f (number y) ≡ field (at G y))
        → (x : Node) (a : Spot) (v : A) → v ≡ field a → (y : Node) → P y → put ℕ_discrete f (number x) v (number y) ≡ field (put Node-discrete G.spot x a y)
    changed field f P g x a v e = put_all Node-discrete (λ y b. P y → put ℕ_discrete f (number x) v (number y) ≡ field b) G.spot x a
        (λ p. put_same ℕ_discrete f (number x) v ∙ e) (λ y n p. put_other ℕ_discrete f (number x) v (number y) (λ q. n (number_inj y x q)) ∙ g y p)

    unchanged : {A : Type 0} (field : Spot → A) (f : ℕ → A) (P : Node → Type 0) → ((y : Node) → P y → f (number y) ≡ field (at G y))
        → (x : Node) (a : Spot) → field (at G x) ≡ field a → (y : Node) → P y → f (number y) ≡ field (put Node-discrete G.spot x a y)
    unchanged field f P g x a e = put_all Node-discrete (λ y b. P y → f (number y) ≡ field b) G.spot x a (λ p. g x p ∙ e) (λ y n p. g y p)

    root_came : (x : Node) (a : Spot) (s : List Entry) → a.reached ≡ (at G x).reached ++ s → (put Node-discrete G.spot x a []).reached ≡ (at G []).reached ++ at_root x s
    root_came [] a s e = ap (λ z. z.reached) (put_same Node-discrete G.spot [] a) ∙ e
    root_came (b ∷ x) a s e = ap (λ z. z.reached) (put_other Node-discrete G.spot (b ∷ x) a [] (λ q. let z : ◌≡◌ {A = ℕ} 0 1 = cc in omega arith)) ∙ sym (append-nil (at G []).reached)

    order_came : (x : Node) (s : List Entry) → pick (eqb (number x) 1) (places m.moment s) [] ≡ places m.moment (at_root x s)
    order_came [] s = refl
    order_came (b ∷ x) s = rw (ne_eqb (number (b ∷ x)) 1 (λ q. omega (arith, number_pos x))) refl

    root_kept : (x : Node) (a : Spot) → a.reached ≡ (at G x).reached → (put Node-discrete G.spot x a []).reached ≡ (at G []).reached ++ []
    root_kept x a e = put_all Node-discrete (λ y b. b.reached ≡ (at G y).reached) G.spot x a e (λ y n. refl) [] ∙ sym (append-nil (at G []).reached)

    -- nothing changes but the worker, and perhaps its task
    stays : (i : ℕ) (W : Worker) → Tasked (m.tasks i) W → Advanced i m m G (G, W)
    stays i W t = record { remembers = r; tasked = t; same_id = refl; others = λ j n. refl; moment = refl; starts = refl; lives = refl; who = []; root = sym (append-nil _); order = sym (append-nil _) }

    reads : (i : ℕ) (t : Task) (W : Worker) → t.id ≡ (m.tasks i).id → Tasked t W → Advanced i m (read i t m) G (G, W)
    reads i t W e k =
        record {
          remembers = record { reached = r.reached; waiting = r.waiting };
          tasked = subst (λ z. Tasked z W) (sym (put_same ℕ_discrete m.tasks i t)) k;
          same_id = ap (λ z. z.id) (put_same ℕ_discrete m.tasks i t) ∙ e;
          others = λ j n. put_other ℕ_discrete m.tasks i t j n;
          moment = refl;
          starts = refl;
          lives = refl;
          who = [];
          root = sym (append-nil _);
          order = sym (append-nil _);
        }

    module _ (i : ℕ) (o : Op) (e : (m.tasks i).id ≡ o.id) where
      at_leaf_lem : length (cell h o) ≤ h
      at_leaf_lem = omega (arith, length_leaf h (cell_of o.update))

      leaf_read_lem : (b : Bool) → Advanced i m (reads_leaf b (number (cell h o)) o m) G (leaf_read h b G o)
      leaf_read_lem true =
          record {
            remembers = record {
              reached = changed (λ a. a.reached) m.reached (λ y. length y ≤ h) r.reached (cell h o) _ _ (ap (λ z. z ++ (entry o false ∷ [])) (r.reached (cell h o) at_leaf_lem));
              waiting = unchanged (λ a. a.waiting) m.waiting (λ y. length y ≡ h) r.waiting (cell h o) _ refl;
            };
            tasked = tasked_up (m.tasks i) o false 0 (cell h o) e;
            same_id = refl;
            others = λ j n. refl;
            moment = refl;
            starts = refl;
            lives = refl;
            who = at_root (cell h o) (entry o false ∷ []);
            root = root_came (cell h o) _ (entry o false ∷ []) refl;
            order = ap (λ z. m.order ++ z) (order_came (cell h o) (entry o false ∷ []));
          }
      leaf_read_lem false =
          record {
            remembers = record {
              reached = unchanged (λ a. a.reached) m.reached (λ y. length y ≤ h) r.reached (cell h o) _ refl;
              waiting = changed (λ a. a.waiting) m.waiting (λ y. length y ≡ h) r.waiting (cell h o) _ _ (ap (λ z. z ++ (o ∷ [])) (r.waiting (cell h o) (length_leaf h (cell_of o.update))));
            };
            tasked = e;
            same_id = refl;
            others = λ j n. refl;
            moment = refl;
            starts = refl;
            lives = refl;
            who = [];
            root = root_kept (cell h o) _ refl;
            order = sym (append-nil _);
          }

      leaf_swap_lem : (v : ℕ) (b : Bool) (d : Dec ((at G (cell h o)).current ≡ v)) → eqb (at G (cell h o)).current v ≡ b → Advanced i m (swaps_leaf b (number (cell h o)) o m) G (leaf_try h energy_of d G o)
      leaf_swap_lem v true (no n) q = absurd (n (eqb-true _ _ q))
      leaf_swap_lem v false (yes p) q = absurd (eqb-false _ _ q p)
      leaf_swap_lem v false (no n) q = stays i (go_up o false 0 (cell h o)) (tasked_up (m.tasks i) o false 0 (cell h o) e)
      leaf_swap_lem v true (yes p) q =
          record {
            remembers = record {
              reached = changed (λ a. a.reached) m.reached (λ y. length y ≤ h) r.reached (cell h o) _ _ (ap₂ (λ y z. y ++ swap_brings o z) (r.reached (cell h o) at_leaf_lem) came);
              waiting = changed (λ a. a.waiting) m.waiting (λ y. length y ≡ h) r.waiting (cell h o) _ [] refl;
            };
            tasked = tasked_up (m.tasks i) o true 1 (cell h o) e;
            same_id = refl;
            others = λ j n. refl;
            moment = refl;
            starts = refl;
            lives = refl;
            who = at_root (cell h o) (swap_brings o (at G (cell h o)).waiting);
            root = root_came (cell h o) _ (swap_brings o (at G (cell h o)).waiting) refl;
            order = ap (λ z. m.order ++ z) (order_came (cell h o) (swap_brings o (m.waiting (number (cell h o)))) ∙ ap (λ z. places m.moment (at_root (cell h o) (swap_brings o z))) came);
          }
        where
          came : m.waiting (number (cell h o)) ≡ (at G (cell h o)).waiting
          came = r.waiting (cell h o) (length_leaf h (cell_of o.update))

    module _ (i : ℕ) (c : Climb) (inside : length c.node < h) (e : (m.tasks i).id ≡ c.op.id) where
      node_swap_lem : (v l : ℕ) (s : List Entry) (k : ℕ) (t : List Entry) → Heard (m.tasks i) (at_both v l s k t) → (b : Bool) (d : Dec ((at G c.node).current ≡ v))
          → eqb (at G c.node).current v ≡ b → Advanced i m (swaps_node b (number c.node) (m.tasks i) m) G (node_try d G c l s k t)
      node_swap_lem v l s k t q true (no n) f = absurd (n (eqb-true _ _ f))
      node_swap_lem v l s k t q false (yes p) f = absurd (eqb-false _ _ f p)
      node_swap_lem v l s k t q false (no n) f = stays i (missed c.again c) (tasked_missed c.again)
        where
          tasked_missed : (a : Bool) → Tasked (m.tasks i) (missed a c)
          tasked_missed false = (e, tt)
          tasked_missed true = tasked_up (m.tasks i) c.op c.res c.made c.node e
      node_swap_lem v l s k t q true (yes p) f =
          record {
            remembers = record {
              reached = changed (λ a. a.reached) m.reached (λ y. length y ≤ h) r.reached c.node _ _ (ap₂ ◌++◌ (r.reached c.node (omega arith)) came);
              waiting = put_all Node-discrete (λ y a. length y ≡ h → m.waiting (number y) ≡ a.waiting) G.spot c.node _ (λ l. absurd (omega arith)) (λ y n. r.waiting y);
            };
            tasked = tasked_up (m.tasks i) c.op c.res (suc c.made) c.node e;
            same_id = refl;
            others = λ j n. refl;
            moment = refl;
            starts = refl;
            lives = refl;
            who = at_root c.node (refresh_brings (at G c.node).reached s t);
            root = root_came c.node _ (refresh_brings (at G c.node).reached s t) refl;
            order = ap (λ z. m.order ++ z) (order_came c.node (refresh_brings (m.reached (number c.node)) (m.tasks i).left (m.tasks i).right) ∙ ap (λ z. places m.moment (at_root c.node z)) came);
          }
        where
          came : refresh_brings (m.reached (number c.node)) (m.tasks i).left (m.tasks i).right ≡ refresh_brings (at G c.node).reached s t
          came = ap (λ z. refresh_brings z (m.tasks i).left (m.tasks i).right) (r.reached c.node (omega arith)) ∙ ap₂ (λ y z. refresh_brings (at G c.node).reached y z) q.0 q.1

  -- the step of an update, as the tables show it, adds to the order what it adds to the machine
  module _ (n : ℕ) (size : n ≡ 2 ^ h) (G : Shared) (s : State) (m : Memory) (v : View h G s.nodes s.versions) (r : Remembers m G) (i : ℕ) where
    leaf_is : (o : Op) → Known h G o → n + cell_of o.update ≡ number (cell h o)
    leaf_is o k = ap (λ z. z + cell_of o.update) size ∙ sym (number_leaf h (cell_of o.update) (fit_below o.update k.fit))

    op_is : (o : Op) → (m.tasks i).id ≡ o.id → op_of i m o.update ≡ o
    op_is o e = ap (λ z. record { id = z; update = o.update }) e

    leaf_now : (o : Op) → Known h G o → get_or s.nodes (n + cell_of o.update) 0 ≡ (at G (cell h o)).current
    leaf_now o k = ap (λ z. get_or s.nodes z 0) (leaf_is o k) ∙ v.current (cell h o) (omega (arith, length_leaf h (cell_of o.update)))

    read_advanced : (o : Op) → Known h G o → (m.tasks i).id ≡ o.id → Advanced i m (advance n i (Phase.Read o.update) s m) G (step_w h energy_of G (reading o))
    read_advanced o k e = subst (λ b. Advanced i m (reads_leaf b (n + cell_of o.update) (op_of i m o.update) m) G (leaf_read h wanted G o)) (sym test)
        (subst (λ x. Advanced i m (reads_leaf wanted x (op_of i m o.update) m) G (leaf_read h wanted G o)) (sym (leaf_is o k))
        (subst (λ q. Advanced i m (reads_leaf wanted (number (cell h o)) q m) G (leaf_read h wanted G o)) (sym (op_is o e)) (leaf_read_lem G m r i o e wanted)))
      where
        wanted : Bool
        wanted = fits o.update (mark (G.ver (at G (cell h o)).current))

        test : as_wanted o.update (version_at s.versions (current_of s.nodes (n + cell_of o.update))) ≡ wanted
        test = as_wanted_lem o.update _ ∙ ap (λ z. fits o.update (mark z)) (ap (λ (z : ℕ). version_at s.versions (record { 0 = z })) (leaf_now o k) ∙ v.ver (at G (cell h o)).current)

    swap_advanced : (o : Op) (w : ℕ) → Known h G o → (m.tasks i).id ≡ o.id → Advanced i m (advance n i (Phase.Swap o.update (record { 0 = w })) s m) G (step_w h energy_of G (swapping o w))
    swap_advanced o w k e = subst (λ b. Advanced i m (swaps_leaf b (n + cell_of o.update) (op_of i m o.update) m) G (step_w h energy_of G (swapping o w))) (sym (ap (λ z. eqb z w) (leaf_now o k)))
        (subst (λ x. Advanced i m (swaps_leaf still x (op_of i m o.update) m) G (step_w h energy_of G (swapping o w))) (sym (leaf_is o k))
        (subst (λ q. Advanced i m (swaps_leaf still (number (cell h o)) q m) G (step_w h energy_of G (swapping o w))) (sym (op_is o e)) (leaf_swap_lem G m r i o e w still (ℕ_discrete (at G (cell h o)).current w) refl)))
      where
        still : Bool
        still = eqb (at G (cell h o)).current w

    climb_advanced : (c : Climb) (st : Stage) → length c.node < h → Tasked (m.tasks i) (climbing c st) → Advanced i m (advance n i (Phase.Refresh (climb_of c) (held_of st)) s m) G (step_w h energy_of G (climbing c st))
    climb_advanced c nothing l t = stays G m r i (climbing c (at_node (at G c.node).current)) (t.0, tt)
    climb_advanced c (at_node w) l t = reads G m r i _ _ refl (t.0, ap m.reached (omega arith) ∙ r.reached (lo ∷ c.node) (omega arith))
    climb_advanced c (at_left w a q) l t = reads G m r i _ _ refl (t.0, (t.1, r.reached (hi ∷ c.node) (omega arith)))
    climb_advanced c (at_both w a q b z) l t = subst (λ test. Advanced i m (swaps_node test (number c.node) (m.tasks i) m) G (step_w h energy_of G (climbing c (at_both w a q b z))))
        (sym (ap (λ y. eqb y w) (v.current c.node (omega arith)))) (node_swap_lem G m r i c l t.0 w a q b z t.1 _ (ℕ_discrete (at G c.node).current w) refl)

    pub advanced : (p : Phase) (W : Worker) → Working W → Shown W p → WorkerOk h energy_of G W → OnOp (Known h G) W → Tasked (m.tasks i) W → Advanced i m (advance n i p s m) G (step_w h energy_of G W)
    advanced p (reading o) at_read e ok k t = subst (λ q. Advanced i m (advance n i q s m) G (step_w h energy_of G (reading o))) (sym e) (read_advanced o k t)
    advanced p (swapping o w) at_swap e ok k t = subst (λ q. Advanced i m (advance n i q s m) G (step_w h energy_of G (swapping o w))) (sym e) (swap_advanced o w k t)
    advanced p (climbing c st) at_climb e ok k t = subst (λ q. Advanced i m (advance n i q s m) G (step_w h energy_of G (climbing c st))) (sym e)
        (climb_advanced c st (omega (arith, below_length ok.below, length_leaf h (cell_of c.op.update))) t)
    advanced p idle active e ok k t = elim active [ ]
    advanced p (answered _ _) active e ok k t = elim active [ ]
