-- The two steps at a leaf. The read, which finds the cell as wanted or waits for the swap, keeps the facts; and of the swap,
-- which brings with it those that wait: what it brings are updates of the cell, each answered as the book says.
-- LeafSwap goes on from there. Assumes nothing.
use Rattle.std.specs.Prelude.{◌≡◌, refl, Bool, true, false, not, List, [], ◌∷◌, ◌++◌, ℕ, ◌≤◌, ◌<◌, ltb, length}
use Rattle.std.proofs.Common.{sym, ap, ◌∙◌, subst, arith, ltb-true}
use mathlib.Core.List.Memᴰ
use Rattle.std.proofs.Math.Option.{Option, none}
use Rattle.trie.proofs.SizeLaws.{and_first}
use Rattle.trie.specs.declared.Update.{Update}
use Rattle.trie.specs.Record.{cell_of, update_fits}
use Rattle.history.specs.Lists.{◌∈◌, All, all_nil, all_cons}
use Rattle.history.proofs.ListLaws.{prefix_refl, prefix_append, prefix_trans, all_map, all_append, all_zip}
use Rattle.history.proofs.Nodes.{Node, Node-discrete, Below, below_length, below_self, below_same}
use Rattle.history.proofs.Numbers.{place, length_leaf, place_leaf}
use Rattle.history.specs.Book.{fits, want, mark}
use Rattle.history.specs.Arrivals.{Op, Entry, entry, refused, others, swap_brings}
use Rattle.history.proofs.PutLaws.{put_all, put_same}
use Rattle.history.proofs.Machine.{Shared, Climb, swapping, reading, at, cell, note, wait, leaf_read}
use Rattle.history.proofs.Replay.{after_fits, after_want, fits_flip, run, Ok, run_append, ok_append, run_refused, ok_refused, all_refused, all_others, only, view, only_append, only_all, NoneOf, Distinct, dist_nil, dist_cons, distinct_append, DistinctOps, ops_snoc}
use Rattle.history.proofs.Invariant.{Closed, Depicts, Absent, Known, SpotOk, LeafOk}
use Rattle.history.proofs.Depicting.{mark_leaf_version, depicts_cong}
use Rattle.history.proofs.Growth.{kept, Grow, Step, spot_grow}
use Rattle.history.proofs.Building.{NotMe, NoK, no_k, onclimb_all, grow_spot, make, up}

-- an update that fits the tree is of one of its cells
pub fit_below : {n : ℕ} (u : Update) → update_fits n u ≡ true → cell_of u < n
fit_below {n} (Update.Insert k l) e = ltb-true k n (and_first (ltb k n) _ e)
fit_below {n} (Update.Delete k) e = ltb-true k n e

module _ (h : ℕ) (weight : ℕ → ℕ) where
  module _ (G : Shared) (cl : Closed G.ver G.used) (sp : (y : Node) → SpotOk h weight G y (at G y)) where
    -- the entries of a leaf are of its cell
    pub places : (k : Node) (s : List Entry) → All (λ e. Known h G e.op) s → All (λ e. cell h e.op ≡ k) s → All (λ e. cell_of e.op.update ≡ place k) s
    places k s kn a = all_zip (λ e q p. sym (place_leaf h (cell_of e.op.update) (fit_below e.op.update q.fit)) ∙ ap place p) kn a

    pub view_leaf : (k : Node) (s : List Entry) → All (λ e. cell_of e.op.update ≡ place k) s → view ((at G k).reached ++ s) (place k) ≡ run (view (at G k).reached (place k)) s
    view_leaf k s a = ap (run none) (only_append (place k) (at G k).reached s) ∙ run_append none (only (place k) (at G k).reached) (only (place k) s) ∙ ap (run (view (at G k).reached (place k))) (only_all (place k) a)

    mark_leaf : (k : Node) → length k ≡ h → mark (G.ver (at G k).current) ≡ view (at G k).reached (place k)
    mark_leaf k l = ap mark ((sp k).depicts.leaves [] l) ∙ mark_leaf_version weight (view (at G k).reached (place k))

    pub leaf_spot : {J : Op → Type 0} {K : Climb → Type 0} {G' : Shared} → Grow h weight J K G G' → (k : Node) (s : List Entry) (n : ℕ) (ps : List Op) → length k ≡ h → All (λ e. cell h e.op ≡ k) s
        → Ok (view (at G k).reached (place k)) s → n ≤ G'.used → Depicts h weight G'.ver k n ((at G k).reached ++ s)
        → All (λ o. (cell h o ≡ k) × (fits o.update (mark (G'.ver n)) ≡ false) × Known h G' o × NoneOf o.id ((at G k).reached ++ s)) ps
        → All (λ e. Known h G e.op) s → Distinct s → All (λ e. NoneOf e.op.id (at G k).reached) s → DistinctOps ps
        → SpotOk h weight G' k (record { current = n; reached = (at G k).reached ++ s; taken = (at G k).taken; waiting = ps })
    leaf_spot {J} {K} {G'} g k s n ps len a ok nle d wt kn di nn dp =
        record {
          current_le = nle;
          depicts = d;
          taken_pre = λ b. prefix_trans ((sp k).taken_pre b) (g.grows (b ∷ k));
          taken_eq = λ b k' q l. absurd (omega (arith, below_length q));
          inside = all_map (λ e q. (q.0, g.knew e.op q.1)) (all_append (sp k).inside (all_zip (λ e q r. (subst (λ y. Below k y) (sym q) (below_self k), r)) a kn));
          truth = λ l. rw (only_append (place k) (at G k).reached s, only_all (place k) (places k s kn a)) (ok_append none (only (place k) (at G k).reached) s ((sp k).truth len) ok);
          able = wt;
          once = λ l. distinct_append ((sp k).once l) di nn;
          once_waiting = dp;
        }

    grow_note : (o : Op) → Grow h weight (NotMe o) NoK G (note h G o)
    grow_note o = grow_spot h weight G (NotMe o) NoK (cell h o) _ (prefix_append (at G (cell h o)).reached (entry o false ∷ [])) (kept refl (λ b. refl) (λ o m. m))
        (λ q l j z. record { reached = all_append z.reached (all_cons (λ e. j (sym e)) all_nil); waiting = z.waiting })

    spot_note : (o : Op) → Known h G o → Absent o.id (at G (cell h o)) → fits o.update (mark (G.ver (at G (cell h o)).current)) ≡ true → (y : Node) → SpotOk h weight (note h G o) y (at (note h G o) y)
    spot_note o kn ab f = put_all Node-discrete (λ y a. SpotOk h weight (note h G o) y a) G.spot (cell h o) _
        (leaf_spot (grow_note o) (cell h o) s (at G (cell h o)).current (at G (cell h o)).waiting d a (sym (ap not fit), tt) (sp (cell h o)).current_le
        (depicts_cong h weight (λ k b l. same_view k (below_same b (l ∙ sym d))) (sp (cell h o)).depicts) waits'
        (all_cons kn all_nil) (dist_cons all_nil dist_nil) (all_cons ab.reached all_nil) (sp (cell h o)).once_waiting)
        (λ y n. spot_grow h weight (grow_note o) y (at G y) (sp y))
      where
        d : length (cell h o) ≡ h
        d = length_leaf h (cell_of o.update)

        s : List Entry
        s = entry o false ∷ []

        a : All (λ e. cell h e.op ≡ cell h o) s
        a = all_cons refl all_nil

        waits' : All (λ q. (cell h q ≡ cell h o) × (fits q.update (mark (G.ver (at G (cell h o)).current)) ≡ false) × Known h (note h G o) q × NoneOf q.id ((at G (cell h o)).reached ++ s)) (at G (cell h o)).waiting
        waits' = all_zip (λ q p n. (p.0, p.1, (grow_note o).knew q p.2, all_append p.3 (all_cons (λ e. n (sym e)) all_nil))) (sp (cell h o)).able ab.waiting

        fit : fits o.update (view (at G (cell h o)).reached (place (cell h o))) ≡ true
        fit = ap (fits o.update) (sym (mark_leaf (cell h o) d)) ∙ f

        same_view : (k : Node) → k ≡ cell h o → view (at G (cell h o)).reached (place k) ≡ view ((at G (cell h o)).reached ++ s) (place k)
        same_view k e = subst (λ n. view (at G (cell h o)).reached (place n) ≡ view ((at G (cell h o)).reached ++ s) (place n)) (sym e)
            (sym (view_leaf (cell h o) s (places (cell h o) s (all_cons kn all_nil) a) ∙ after_fits o.update (view (at G (cell h o)).reached (place (cell h o))) fit))

    grow_wait : (o : Op) → Grow h weight (NotMe o) NoK G (wait h G o)
    grow_wait o = grow_spot h weight G (NotMe o) NoK (cell h o) _ (prefix_refl (at G (cell h o)).reached) (kept refl (λ b. refl) (λ q m. Memᴰ.append_left (o ∷ []) m))
        (λ q l j z. record { reached = z.reached; waiting = all_append z.waiting (all_cons (λ e. j (sym e)) all_nil) })

    spot_wait : (o : Op) → Known h G o → Absent o.id (at G (cell h o)) → fits o.update (mark (G.ver (at G (cell h o)).current)) ≡ false → (y : Node) → SpotOk h weight (wait h G o) y (at (wait h G o) y)
    spot_wait o kn ab f = put_all Node-discrete (λ y a. SpotOk h weight (wait h G o) y a) G.spot (cell h o) _ here (λ y n. spot_grow h weight (grow_wait o) y (at G y) (sp y))
      where
        old : SpotOk h weight (wait h G o) (cell h o) (at G (cell h o))
        old = spot_grow h weight (grow_wait o) (cell h o) (at G (cell h o)) (sp (cell h o))

        here : SpotOk h weight (wait h G o) (cell h o) (record { current = (at G (cell h o)).current; reached = (at G (cell h o)).reached; taken = (at G (cell h o)).taken; waiting = (at G (cell h o)).waiting ++ (o ∷ []) })
        here =
            record {
              current_le = old.current_le;
              depicts = old.depicts;
              taken_pre = old.taken_pre;
              taken_eq = old.taken_eq;
              inside = old.inside;
              truth = old.truth;
              able = all_append old.able (all_cons (refl, f, (grow_wait o).knew o kn, ab.reached) all_nil);
              once = old.once;
              once_waiting = ops_snoc o old.once_waiting ab.waiting;
            }

    pub read_step : (o : Op) → Absent o.id (at G (cell h o)) → Known h G o → (b : Bool) → fits o.update (mark (G.ver (at G (cell h o)).current)) ≡ b → Step h weight G (reading o) (leaf_read h b G o)
    read_step o ok old true f =
        up h weight G (NotMe o) NoK (reading o) (note h G o) o false 0 (cell h o) (λ P p. p) old cl (spot_note o old ok f) (grow_note o) (λ X a. a) (λ X p. no_k X) (omega (arith, length_leaf h (cell_of o.update))) (below_self (cell h o))
        (subst (λ a. entry o false ∈ a.reached) (sym (put_same Node-discrete G.spot (cell h o) _)) (Memᴰ.append_right (at G (cell h o)).reached (Memᴰ.head refl)))
    read_step o ok old false f =
        make h weight G (NotMe o) NoK (reading o) (wait h G o) (swapping o (at G (cell h o)).current) (λ P p. p) old cl (spot_wait o old ok f) (grow_wait o) (λ X a. a) (λ X p. no_k X)
        (record {
          was = record { le = (sp (cell h o)).current_le; list = (at G (cell h o)).reached; pre = (grow_wait o).grows (cell h o); depicts = (sp (cell h o)).depicts };
          able = f;
          waits = λ e. subst (λ a. o ∈ a.waiting) (sym (put_same Node-discrete G.spot (cell h o) _)) (Memᴰ.append_right (at G (cell h o)).waiting (Memᴰ.head refl));
          done = λ n. absurd (n (ap (λ a. a.current) (put_same Node-discrete G.spot (cell h o) _)));
        })
        (λ X q p. onclimb_all (λ c st. Unit {0}) (λ c st. tt) X) (λ X q p. tt) tt

    module _ (o : Op) (v : ℕ) (ok : LeafOk h weight G o v) (kn : Known h G o) (e : (at G (cell h o)).current ≡ v) where
      abbrev swapped : List Entry
      swapped = swap_brings o (at G (cell h o)).waiting

      abbrev was : Option ℕ
      was = view (at G (cell h o)).reached (place (cell h o))

      mark_was : mark (G.ver (at G (cell h o)).current) ≡ was
      mark_was = mark_leaf (cell h o) (length_leaf h (cell_of o.update))

      able_was : fits o.update was ≡ false
      able_was = ap (fits o.update) (sym mark_was ∙ ap (λ n. mark (G.ver n)) e) ∙ ok.able

      pend_cells : All (λ q. (cell h q ≡ cell h o) × (fits q.update (want o.update) ≡ true)) (others o.id (at G (cell h o)).waiting)
      pend_cells = all_others o.id (all_map (λ q p. (p.0, fits_flip o.update q.update was able_was (ap (fits q.update) (sym mark_was) ∙ p.1))) (sp (cell h o)).able)

      pub swapped_cells : All (λ x. cell h x.op ≡ cell h o) swapped
      swapped_cells = all_cons refl (all_refused (all_map (λ q p. p.0) pend_cells))

      pub swapped_known : All (λ x. Known h G x.op) swapped
      swapped_known = all_cons kn (all_refused (all_others o.id (all_map (λ q p. p.2) (sp (cell h o)).able)))

      pub swapped_ok : Ok was swapped
      swapped_ok = (sym (ap not able_was), subst (λ m. Ok m (refused (others o.id (at G (cell h o)).waiting))) (sym (after_want o.update was able_was)) (ok_refused _ _ (all_map (λ q p. p.1) pend_cells)))

      pub swapped_run : run was swapped ≡ want o.update
      swapped_run = ap (λ m. run m (refused (others o.id (at G (cell h o)).waiting))) (after_want o.update was able_was) ∙ run_refused _ _ (all_map (λ q p. p.1) pend_cells)
