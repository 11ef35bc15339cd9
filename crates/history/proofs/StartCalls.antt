-- A start call at a moment that belongs to a machine: it is refused, with another number than 9; or accepted, and the
-- moment after it belongs to a machine again. Assumes nothing.
use Rattle.std.specs.Prelude.{◌≡◌, refl, ◌≢◌, true, ℕ, ◌^◌, ◌≤◌, ◌<◌, length, get_or, set}
use Rattle.std.proofs.Common.{sym, ap, ◌∙◌, subst, le_refl, arith, get_or-set_same, get_or-set_other}
use Rattle.std.proofs.Math.Option.{some, none}
use Rattle.std.proofs.Math.Decide.{ℕ_discrete, dec_lt}
use Rattle.decibel.specs.Energy.{energy_of}
use Rattle.decibel.specs.Told.{refused, gives}
use Rattle.trie.specs.declared.Operation.{Operation}
use Rattle.trie.specs.declared.Phase.{Phase}
use Rattle.trie.specs.declared.Worker.{Worker as Record}
use Rattle.trie.specs.Size.{height_of}
use Rattle.trie.proofs.SizeLaws.{sized}
use Rattle.trie.specs.Tables.{used_of, room_of}
use Rattle.trie.specs.Sound.{bounds_of}
use Rattle.trie.specs.Record.{idle, promised_of, update_fits, operation_fits, busy_phase}
use Rattle.trie.specs.Values.{Ok, ok}
use Rattle.trie.specs.Starting.{Started, begun, start_record_of}
use Rattle.trie.specs.Calls.{State, After, start_at, start_of}
use Rattle.trie.proofs.CallLaws.{Ready, lent_ready, start_lent, start_of_record, start_no_worker, manned_long}
use Rattle.history.proofs.ListLaws.{all_map}
use Rattle.history.specs.Arrivals.{Op}
use Rattle.history.proofs.PutLaws.{put_all, put_same, put_other}
use Rattle.history.specs.Order.{Memory, begin}
use Rattle.history.specs.Histories.{phase_of}
use Rattle.history.proofs.Machine.{Shared, Worker, idle as rested, reading, settled, begins}
use Rattle.history.proofs.Machine.{State as Machine}
use Rattle.history.proofs.Invariant.{Inv}
use Rattle.history.proofs.View.{View, Shown, asks}
use Rattle.history.proofs.Viewed.{view_begins}
use Rattle.history.proofs.Kept.{Later, later_refl, start_keeps, start_later, rest_keeps}
use Rattle.history.proofs.Promise.{Promise}
use Rattle.history.proofs.Starts.{Begins, turned_away, accepted as granted, begins as starts, begins_promise}
use Rattle.history.proofs.UnderWay.{Entered, Querying, asking}
use Rattle.history.proofs.Tied.{Tied}
use Rattle.history.proofs.TiedCalls.{Call, start_tied}
use Rattle.history.proofs.StepCalls.{Belongs}

module _ (n w : ℕ) where
  pub data StartTold (i : ℕ) (o : Operation) (s : State) (m : Memory) : Type 0 where
    turned_away_lem : (k : ℕ) → (start_of n w i o s).told ≡ refused k → k ≢ 9 → StartTold i o s m
    accepted : (start_of n w i o s).told ≡ gives ok → Belongs n w (start_of n w i o s).state (begin i o m) → StartTold i o s m

  module _ (σ : Machine) (s : State) (m : Memory) (i : ℕ) (o : Operation) (T : Tied n w σ s m) (inside : i < w) where
    abbrev height : ℕ
    height = height_of n

    abbrev G : Shared
    G = σ.shared

    abbrev r : Started
    r = start_record_of n o (promised_of (bounds_of n s.nodes s.versions).share w s.board) (get_or s.board i idle) s.nodes s.versions

    abbrev s' : State
    s' = (start_at i s r).state

    is_record_lem : start_of n w i o s ≡ start_at i s r
    is_record_lem = start_of_record n w i o s T.ready inside

    long : w ≤ length s.board
    long = manned_long w s.board T.ready.manned

    mine_phase : phase_of i s' ≡ r.worker.phase
    mine_phase = ap (λ (x : Record). x.phase) (get_or-set_same s.board i r.worker idle (omega (arith, long)))

    -- what was there before the start is there after it
    old : (j : ℕ) → j < m.starts → (begin i o m).lives j ≡ m.lives j
    old j l = put_other ℕ_discrete m.lives m.starts _ j (λ e. omega arith)

    new_operation : ((begin i o m).lives m.starts).operation ≡ o
    new_operation = ap (λ l. l.operation) (put_same ℕ_discrete m.lives m.starts _)

    new_answer : ((begin i o m).lives m.starts).answer ≡ none
    new_answer = ap (λ l. l.answer) (put_same ℕ_discrete m.lives m.starts _)

    new_steps : ((begin i o m).lives m.starts).steps ≡ 0
    new_steps = ap (λ l. l.steps) (put_same ℕ_discrete m.lives m.starts _)

    entered : (q : Op) → G.ops q.id ≡ some q → Entered (begin i o m) q
    entered q e = let k = T.ledger q e in (omega (arith, k.0), ap (λ l. l.operation) (old q.id k.0) ∙ k.1)

    fits_size : {c : ℕ} → c ≡ n → operation_fits n o ≡ true → operation_fits c o ≡ true
    fits_size e f = subst (λ x. operation_fits x o ≡ true) (sym e) f

    -- the worker's record, and nothing else, is new
    module _ (p : Promise n w s.nodes s.versions (set s.board i r.worker)) (G' : Shared) (W' : Worker) where
      call : Inv height energy_of (settled σ i (G', W')) → Later height energy_of G G' → View height G' s.nodes s.versions → Shown W' (phase_of i s') → Call n w σ s s' m i inside T G' W'
      call inv later view shown =
          record {
            ready = subst (λ a. Ready n w a.state) is_record_lem (lent_ready (start_lent n w i o s) T.ready);
            promise = p;
            inv = inv;
            later = later;
            view = view;
            others = λ j d. ap (λ (x : Record). x.phase) (get_or-set_other s.board i j r.worker idle d);
            shown = shown;
          }

    belongs : r.told ≡ gives ok → r.worker ≡ begun o → phase_of i s ≡ Phase.Idle → operation_fits n o ≡ true → Promise n w s.nodes s.versions (set s.board i r.worker) → StartTold i o s m
    belongs told is free fit p = accepted (ap (λ (a : After Ok). a.told) is_record_lem ∙ told) (subst (λ a. Belongs n w a.state (begin i o m)) (sym is_record_lem) (by o refl))
      where
        size : 2 ^ height ≡ n
        size = sym (sized n T.ready.sized).power

        by : (x : Operation) → o ≡ x → Belongs n w s' (begin i o m)
        by (Operation.Update u) e =
            record {
              machine = settled σ i (begins G op, reading op);
              tied = start_tied n w σ s s' m i inside T (begins G op) (reading op) o
                  (record {
                    call = call p (begins G op) (reading op) (start_keeps height energy_of σ i op T.next fit' T.inv) (start_later height energy_of σ op T.next fit' T.inv) (view_begins T.view op)
                        (mine_phase ∙ ap (λ (x : Record). x.phase) (is ∙ ap begun e));
                    free = ap busy_phase free;
                    busy = ap busy_phase (mine_phase ∙ ap (λ (x : Record). x.phase) (is ∙ ap begun e));
                    same_spots = refl;
                    next = le_refl _;
                    ledger = λ q. put_all ℕ_discrete (λ j x. j ≡ q.id → x ≡ some q → Entered (begin i o m) q) G.ops m.starts (some op) (λ j x. mine q x) (λ j d f x. entered q (ap G.ops (sym f) ∙ x)) q.id refl;
                    tasked = refl;
                    under = record { opened = record { known = le_refl _; operation = new_operation ∙ e; unanswered = new_answer }; time = omega (arith, new_steps) };
                  });
            }
          where
            op : Op
            op = record { id = m.starts; update = u }

            fit' : update_fits (2 ^ height) u ≡ true
            fit' = subst (λ x. operation_fits (2 ^ height) x ≡ true) e (fits_size size fit)

            mine : (q : Op) → some op ≡ some q → Entered (begin i o m) q
            mine q f = let g : op ≡ q = cc in subst (λ x. Entered (begin i o m) x) g (le_refl _, new_operation ∙ e)
        by (Operation.Query q) e =
            record {
              machine = settled σ i (G, rested);
              tied = start_tied n w σ s s' m i inside T G rested o
                  (record {
                    call = call p G rested (rest_keeps height energy_of σ i T.inv) (later_refl height energy_of G) T.view (subst (λ x. Shown rested x) (sym (mine_phase ∙ ap (λ (x : Record). x.phase) (is ∙ ap begun e))) asks);
                    free = ap busy_phase free;
                    busy = ap busy_phase (mine_phase ∙ ap (λ (x : Record). x.phase) (is ∙ ap begun e));
                    same_spots = refl;
                    next = omega (arith, T.next);
                    ledger = entered;
                    tasked = tt;
                    under = subst (λ x. Querying height (begin i o m) G m.starts x) (sym (mine_phase ∙ ap (λ (x : Record). x.phase) (is ∙ ap begun e)))
                        (asking (record { known = le_refl _; operation = new_operation ∙ e; unanswered = new_answer }) new_steps (subst (λ x. operation_fits (2 ^ height) x ≡ true) e (fits_size size fit))
                        (all_map (λ x k f. omega (arith, k.0)) T.chronicle.started));
                  });
            }

    start_by : (x : Started) → r ≡ x → Begins n height (used_of s.nodes) T.promise.promised (room_of s.versions) o (get_or s.board i idle) x → StartTold i o s m
    start_by x e (turned_away {k = k} d) = turned_away_lem k (ap (λ (a : After Ok). a.told) is_record_lem ∙ ap (λ (y : Started). y.told) e) d
    start_by x e (granted a b c) = belongs (ap (λ (y : Started). y.told) e) (ap (λ (y : Started). y.worker) e) a b
        (subst (λ (y : Started). Promise n w s.nodes s.versions (set s.board i y.worker)) (sym e) (begins_promise n w i inside long T.promise o (granted a b c)))

  pub start_told : (i : ℕ) (o : Operation) (s : State) (m : Memory) → Belongs n w s m → StartTold i o s m
  start_told i o s m b = by (dec_lt i w)
    where
      by : Dec (i < w) → StartTold i o s m
      by (yes l) = start_by b.machine s m i o b.tied l _ refl (starts n w i l (manned_long w s.board b.tied.ready.manned) b.tied.promise o b.tied.ready.sized b.tied.ready.roomy)
      by (no d) = turned_away_lem 4 (ap (λ (a : After Ok). a.told) (start_no_worker n w i o s b.tied.ready (omega arith))) (λ q. omega arith)
