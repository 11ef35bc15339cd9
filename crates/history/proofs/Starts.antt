-- A start, while the promise holds: it is never refused with 9, and an accepted one keeps the promise.
-- Assumes nothing.
use Rattle.std.specs.Prelude.{◌≡◌, ◌≢◌, Bool, true, false, not, List, ℕ, ◌+◌, ◌≤◌, ◌<◌, leb, length, get_or, set}
use Rattle.std.proofs.Math.Path.{refl, ap}
use Rattle.std.proofs.Common.{sym, ◌∙◌, subst, le_refl, arith, leb-true}
use Rattle.std.proofs.lemmas.List.{set-get_or}
use Rattle.decibel.specs.Told.{refused, gives}
use Rattle.trie.specs.declared.Bounds.{Bounds}
use Rattle.trie.specs.declared.Operation.{Operation}
use Rattle.trie.specs.declared.Phase.{Phase}
use Rattle.trie.specs.declared.Worker.{Worker}
use Rattle.trie.specs.Size.{allowed, height_of}
use Rattle.trie.proofs.SizeLaws.{sized}
use Rattle.trie.specs.Tables.{room_of, used_of, roomy}
use Rattle.trie.specs.Sound.{bounds_of}
use Rattle.trie.specs.Record.{idle, busy, busy_phase, operation_fits, owed_phase, promised_of}
use Rattle.trie.specs.Values.{ok}
use Rattle.trie.specs.Starting.{Started, check, begun, records, shared, start_record_of}
use Rattle.history.proofs.Judged.{Gauge, gauge, used_sound_lem}
use Rattle.history.proofs.Promise.{Promise, change_promise}

-- what an accepted start has been shown to have room for
abbrev pub Affords : ℕ → ℕ → ℕ → ℕ → Operation → Type 0
Affords h used promised most (Operation.Update u) = used + promised + (h + 1) ≤ most
Affords h used promised most (Operation.Query q) = Unit {0}

-- a start is refused with another number than 9, or accepted: then the worker was idle, the operation fits, and there is room for it
pub data Begins (n h used promised most : ℕ) (o : Operation) (w : Worker) : Started → Type 0 where
  turned_away : {k : ℕ} → k ≢ 9 → Begins n h used promised most o w (record { told = refused k; worker = w })
  accepted : w.phase ≡ Phase.Idle → operation_fits n o ≡ true → Affords h used promised most o → Begins n h used promised most o w (record { told = gives ok; worker = begun o })

idle_phase_lem : (p : Phase) → busy_phase p ≡ false → p ≡ Phase.Idle
idle_phase_lem Phase.Idle e = refl
idle_phase_lem (Phase.Read u) e = absurd (let z : ◌≡◌ {A = ℕ} 0 1 = cc in omega arith)
idle_phase_lem (Phase.Swap u v) e = absurd (let z : ◌≡◌ {A = ℕ} 0 1 = cc in omega arith)
idle_phase_lem (Phase.Refresh c s) e = absurd (let z : ◌≡◌ {A = ℕ} 0 1 = cc in omega arith)
idle_phase_lem (Phase.Ask q) e = absurd (let z : ◌≡◌ {A = ℕ} 0 1 = cc in omega arith)
idle_phase_lem (Phase.Find k s) e = absurd (let z : ◌≡◌ {A = ℕ} 0 1 = cc in omega arith)
idle_phase_lem (Phase.Rank k s c d) e = absurd (let z : ◌≡◌ {A = ℕ} 0 1 = cc in omega arith)
idle_phase_lem (Phase.Select j s x c) e = absurd (let z : ◌≡◌ {A = ℕ} 0 1 = cc in omega arith)

module _ (n h used promised most : ℕ) (w : Worker) {b : Bounds} (g : Gauge h used most b) where
  shared_begins : (o : Operation) → busy w ≡ false → operation_fits n o ≡ true → Begins n h used promised most o w (shared b o promised w)
  shared_begins (Operation.Update u) e f = by (leb (b.used + promised + b.share) b.room) refl
    where
      by : (t : Bool) → leb (b.used + promised + b.share) b.room ≡ t → Begins n h used promised most (Operation.Update u) w (check t 8 w (records (Operation.Update u)))
      by true t = accepted (idle_phase_lem w.phase e) f (omega (arith, leb-true (b.used + promised + b.share) b.room t, g.used, g.share, g.room))
      by false t = turned_away {k = 8} (omega arith)
  shared_begins (Operation.Query q) e f = accepted (idle_phase_lem w.phase e) f tt

  start_begins : (o : Operation) (p q : Bool) → busy w ≡ p → operation_fits n o ≡ q → Begins n h used promised most o w (check (not p) 5 w (check q 7 w (shared b o promised w)))
  start_begins o true q e f = turned_away {k = 5} (omega arith)
  start_begins o false true e f = shared_begins o e f
  start_begins o false false e f = turned_away {k = 7} (omega arith)

share_is : (n : ℕ) (nodes versions : List ℕ) → (bounds_of n nodes versions).share ≡ height_of n + 1
unfolding bounds_of
share_is n nodes versions = refl

module _ (n w : ℕ) {nodes versions : List ℕ} {board : List Worker} (i : ℕ) (inside : i < w) (long : w ≤ length board) (p : Promise n w nodes versions board) where
  pub begins : (o : Operation) → allowed n ≡ true → roomy n nodes versions ≡ true
      → Begins n (height_of n) (used_of nodes) p.promised (room_of versions) o (get_or board i idle)
      (start_record_of n o (promised_of (bounds_of n nodes versions).share w board) (get_or board i idle) nodes versions)
  unfolding start_record_of
  begins o size room =
      let g = gauge n nodes versions size in
      rw (size, room, ap (λ (m : ℕ). promised_of m w board) (share_is n nodes versions) ∙ p.is, used_sound_lem g (omega (arith, p.low, (sized n size).power)) (omega (arith, p.room)))
      (start_begins n (height_of n) (used_of nodes) p.promised (room_of versions) (get_or board i idle) g o (busy (get_or board i idle)) (operation_fits n o) refl refl)

  begun_promise : (o : Operation) → (get_or board i idle).phase ≡ Phase.Idle → Affords (height_of n) (used_of nodes) p.promised (room_of versions) o → Promise n w nodes versions (set board i (begun o))
  begun_promise (Operation.Update u) e f =
      change_promise n w i inside long p (begun (Operation.Update u)) 0 (height_of n + 1) (ap (owed_phase (height_of n + 1)) e) refl (omega arith) (le_refl (used_of nodes)) refl
  begun_promise (Operation.Query q) e f =
      change_promise n w i inside long p (begun (Operation.Query q)) 0 0 (ap (owed_phase (height_of n + 1)) e) refl (omega (arith, p.room)) (le_refl (used_of nodes)) refl

  -- whatever a start does to the record, the promise is kept
  pub begins_promise : (o : Operation) {r : Started} → Begins n (height_of n) (used_of nodes) p.promised (room_of versions) o (get_or board i idle) r → Promise n w nodes versions (set board i r.worker)
  begins_promise o (turned_away k) = subst (λ (l : List Worker). Promise n w nodes versions l) (sym (set-get_or board i idle)) p
  begins_promise o (accepted e f a) = begun_promise o e a
