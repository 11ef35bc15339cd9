-- What a step of one record changes and what it leaves; and a refused one leaves everything.
-- Assumes nothing.
use Rattle.std.specs.Prelude.{◌≡◌, refl, ◌≢◌, Bool, true, false, List, [], ◌∷◌, ℕ, ◌+◌, ◌<◌, ◌≤◌, ltb, length, get_or, set, Result}
use Rattle.std.proofs.Common.{ap, ◌∙◌, subst, arith, ltb-true, length-set, get_or-set_same, get_or-set_other, lt-length-set}
use Rattle.decibel.specs.Told.{Told, refused, gives}
use Rattle.trie.specs.declared.VersionNumber.{VersionNumber}
use Rattle.trie.specs.declared.NodeNumber.{NodeNumber}
use Rattle.trie.specs.declared.Version.{Version}
use Rattle.trie.specs.declared.Bounds.{Bounds}
use Rattle.trie.specs.declared.Query.{Query}
use Rattle.trie.specs.declared.Climb.{Climb}
use Rattle.trie.specs.declared.Held.{Held}
use Rattle.trie.specs.declared.Phase.{Phase}
use Rattle.trie.specs.declared.Worker.{Worker}
use Rattle.trie.specs.declared.Next.{Next}
use Rattle.trie.specs.declared.Plan.{Plan}
use Rattle.trie.specs.declared.Fork.{Fork}
use Rattle.trie.specs.declared.Damage.{Damage}
use Rattle.trie.specs.Choice.{pick}
use Rattle.trie.specs.Size.{allowed}
use Rattle.trie.specs.Tables.{used_of, version_at, version_put, roomy}
use Rattle.trie.specs.Sound.{bounds_of}
use Rattle.trie.specs.Record.{leaf_of, busy}
use Rattle.trie.specs.Leaf.{sure, swapped, read_of, swap_of}
use Rattle.trie.specs.Refreshing.{join_of, refresh_held, refresh_of}
use Rattle.trie.specs.Asking.{first_of, ask_of, find_seen, find_of, rank_seen, rank_of, select_seen, select_of}
use Rattle.trie.specs.Stepping.{Stepped, refuses, check, plan_phase, plan_of, after_next, carry_of, step_record_of}
use Rattle.trie.proofs.TableLaws.{put_length, put_other}

-- ---- what a plan may put

-- the node at which a step of this phase may swap: the leaf, or the climb's node; a query swaps nowhere
abbrev pub swaps_at : Bounds → Phase → ℕ
swaps_at b Phase.Idle = 0
swaps_at b (Phase.Read u) = 0
swaps_at b (Phase.Swap u v) = leaf_of b u
swaps_at b (Phase.Refresh c s) = c.node.0
swaps_at b (Phase.Ask q) = 0
swaps_at b (Phase.Find k s) = 0
swaps_at b (Phase.Rank k s c e) = 0
swaps_at b (Phase.Select j s x c) = 0

-- the version that is put has the next number, there is room for it, and it is put at node x
pub data Puts (b : Bounds) (x : ℕ) : Result Plan Damage → Type 0 where
  damaged : {d : Damage} → Puts b x (Result.Err d)
  keeps : {next : Next} → Puts b x (Result.Ok (Plan.Keep next))
  puts : {v : VersionNumber} {y : NodeNumber} {r : Version} {next : Next} → v.0 ≡ b.used + 1 → y.0 ≡ x → b.used < b.room → Puts b x (Result.Ok (Plan.Put next v y r))

module _ (b : Bounds) (x : ℕ) where
  sure_puts : (t : Bool) (p : Result Plan Damage) → Puts b x p → Puts b x (sure t p)
  sure_puts true p h = h
  sure_puts false p h = damaged

  pick_puts : (t : Bool) (p q : Result Plan Damage) → Puts b x p → Puts b x q → Puts b x (pick t p q)
  pick_puts true p q h k = h
  pick_puts false p q h k = k

  swapped_puts : (r : Version) (next : Next) → Puts b x (swapped b x r next)
  swapped_puts r next = by (ltb b.used b.room) refl
    where
      by : (t : Bool) → ltb b.used b.room ≡ t → Puts b x (sure t (Result.Ok (Plan.Put next (record { 0 = b.used + 1 }) (record { 0 = x }) r)))
      by true e = puts refl refl (ltb-true b.used b.room e)
      by false e = damaged

  find_puts : (k : ℕ) (right : Bool) (s : Result Fork Damage) → Puts b x (find_seen k right s)
  find_puts k right (Result.Err e) = damaged
  find_puts k right (Result.Ok f) = search (pick_puts, keeps)

  rank_puts : (k : ℕ) (right : Bool) (count energy : ℕ) (s : Result Fork Damage) → Puts b x (rank_seen b k right count energy s)
  rank_puts k right count energy (Result.Err e) = damaged
  rank_puts k right count energy (Result.Ok f) = search (sure_puts, pick_puts, keeps)

  select_puts : (j y passed : ℕ) (s : Result Fork Damage) → Puts b x (select_seen b j y passed s)
  select_puts j y passed (Result.Err e) = damaged
  select_puts j y passed (Result.Ok f) = search (sure_puts, pick_puts, keeps)

  first_puts : (q : Query) (v : VersionNumber) (r : Version) → Puts b x (first_of q v r)
  first_puts (Query.Find k) v r = keeps
  first_puts (Query.Select j) v r = search (pick_puts, keeps)
  first_puts (Query.Rank k) v r = keeps
  first_puts Query.Total v r = keeps

held_puts : (b : Bounds) (c : Climb) (s : Held) (nodes versions : List ℕ) → Puts b c.node.0 (refresh_held b c s nodes versions)
unfolding join_of
held_puts b c Held.Nothing nodes versions = search (sure_puts, keeps)
held_puts b c (Held.Node v) nodes versions = search (sure_puts, keeps)
held_puts b c (Held.Left v l) nodes versions = search (sure_puts, keeps)
held_puts b c (Held.Both v l r) nodes versions = search (sure_puts, pick_puts, swapped_puts, keeps)

phase_puts : (b : Bounds) (p : Phase) (nodes versions : List ℕ) → Puts b (swaps_at b p) (plan_phase b p nodes versions)
unfolding read_of swap_of refresh_of ask_of find_of rank_of select_of
phase_puts b Phase.Idle nodes versions = damaged
phase_puts b (Phase.Read u) nodes versions = search (sure_puts, keeps)
phase_puts b (Phase.Swap u v) nodes versions = search (sure_puts, pick_puts, swapped_puts, keeps)
phase_puts b (Phase.Refresh c s) nodes versions = search (sure_puts, held_puts)
phase_puts b (Phase.Ask q) nodes versions = search (sure_puts, first_puts)
phase_puts b (Phase.Find k s) nodes versions = search (sure_puts, find_puts)
phase_puts b (Phase.Rank k s c e) nodes versions = search (sure_puts, rank_puts)
phase_puts b (Phase.Select j s x c) nodes versions = search (sure_puts, select_puts)

pub plan_puts : (b : Bounds) (p : Phase) (nodes versions : List ℕ) → Puts b (swaps_at b p) (plan_of b p nodes versions)
unfolding plan_of
plan_puts b p nodes versions = search (sure_puts, phase_puts)

-- ---- what a step leaves

-- each version up to used has the words that it had; each node but x, its version; no table changes its length; at most one version more is used
pub record Leaves (nodes versions : List ℕ) (x : ℕ) (nodes' versions' : List ℕ) : Type 0 where
  pub nodes_length : length nodes' ≡ length nodes
  pub versions_length : length versions' ≡ length versions
  pub version : (v : VersionNumber) → v.0 ≤ used_of nodes → version_at versions' v ≡ version_at versions v
  pub node : (y : ℕ) → y ≢ 0 → y ≢ x → get_or nodes' y 0 ≡ get_or nodes y 0
  pub grows : used_of nodes ≤ used_of nodes'
  pub by_one : used_of nodes' ≤ used_of nodes + 1

pub leaves_all : (nodes versions : List ℕ) (x : ℕ) → Leaves nodes versions x nodes versions
leaves_all nodes versions x =
    record { nodes_length = refl; versions_length = refl; version = λ v h. refl; node = λ y h k. refl; grows = omega arith; by_one = omega arith }

used_set : (nodes : List ℕ) (x v : ℕ) → used_of nodes ≤ v → v ≤ used_of nodes + 1
    → (used_of nodes ≤ used_of (set (set nodes x v) 0 v)) × (used_of (set (set nodes x v) 0 v) ≤ used_of nodes + 1)
used_set [] x v h k = omega arith
used_set (a ∷ l) x v h k = omega (arith, get_or-set_same (set (a ∷ l) x v) 0 v 0 (lt-length-set (a ∷ l) x v (omega arith)))

put_leaves : (nodes versions : List ℕ) (x : ℕ) (v : VersionNumber) (r : Version) → v.0 ≡ used_of nodes + 1
    → Leaves nodes versions x (set (set nodes x v.0) 0 v.0) (version_put versions v r)
put_leaves nodes versions x v r e =
    record {
      nodes_length = length-set (set nodes x v.0) 0 v.0 ∙ length-set nodes x v.0;
      versions_length = put_length versions v r;
      version = λ u h. put_other versions v u r (omega arith);
      node = λ y h k. get_or-set_other (set nodes x v.0) 0 y v.0 0 h ∙ get_or-set_other nodes x y v.0 0 k;
      grows = (used_set nodes x v.0 (omega arith) (omega arith)).0;
      by_one = (used_set nodes x v.0 (omega arith) (omega arith)).1;
    }

next_leaves : (next : Next) (nodes versions : List ℕ) (x : ℕ) (nodes' versions' : List ℕ) → Leaves nodes versions x nodes' versions'
    → Leaves nodes versions x (after_next next nodes' versions').nodes (after_next next nodes' versions').versions
next_leaves (Next.On w) nodes versions x nodes' versions' h = h
next_leaves (Next.Done a) nodes versions x nodes' versions' h = h

pub carry_leaves : (b : Bounds) (x : ℕ) (p : Result Plan Damage) (w : Worker) (nodes versions : List ℕ) → b.used ≡ used_of nodes → Puts b x p
    → Leaves nodes versions x (carry_of p w nodes versions).nodes (carry_of p w nodes versions).versions
unfolding carry_of
carry_leaves b x p w nodes versions e damaged = leaves_all nodes versions x
carry_leaves b x p w nodes versions e (keeps {next = next}) = next_leaves next nodes versions x nodes versions (leaves_all nodes versions x)
carry_leaves b x p w nodes versions e (puts {v = v} {y = y} {r = r} {next = next} h k l) =
    next_leaves next nodes versions x _ _
    (subst (λ (z : ℕ). Leaves nodes versions z (set (set nodes y.0 v.0) 0 v.0) (version_put versions v r)) k
    (put_leaves nodes versions y.0 v r (h ∙ ap (λ (m : ℕ). m + 1) e)))

check_leaves : (t : Bool) (number : ℕ) (w : Worker) (nodes versions : List ℕ) (x : ℕ) (s : Stepped) → Leaves nodes versions x s.nodes s.versions
    → Leaves nodes versions x (check t number w nodes versions s).nodes (check t number w nodes versions s).versions
check_leaves true number w nodes versions x s h = h
check_leaves false number w nodes versions x s h = leaves_all nodes versions x

bounds_used : (n : ℕ) (nodes versions : List ℕ) → (bounds_of n nodes versions).used ≡ used_of nodes
unfolding bounds_of
bounds_used n nodes versions = refl

pub step_leaves : (n : ℕ) (w : Worker) (nodes versions : List ℕ)
    → Leaves nodes versions (swaps_at (bounds_of n nodes versions) w.phase) (step_record_of n w nodes versions).nodes (step_record_of n w nodes versions).versions
unfolding step_record_of
step_leaves n w nodes versions =
    check_leaves (allowed n) 1 w nodes versions _ _
    (check_leaves (roomy n nodes versions) 3 w nodes versions _ _
    (check_leaves (busy w) 6 w nodes versions _ _
    (carry_leaves (bounds_of n nodes versions) _ _ w nodes versions (bounds_used n nodes versions) (plan_puts _ w.phase nodes versions))))

-- ---- a refused step

pub gives_not : {A : Type 0} {a : A} {k : ℕ} {X : Type 0} → ◌≡◌ {A = Told A} (gives a) (refused k) → X
gives_not e = absurd (let z : ◌≡◌ {A = ℕ} 0 1 = cc in omega arith)

check_refused : (t : Bool) (number : ℕ) (w : Worker) (nodes versions : List ℕ) (s : Stepped) (k : ℕ)
    → (s.told ≡ refused k → s ≡ refuses k w nodes versions) → (check t number w nodes versions s).told ≡ refused k → check t number w nodes versions s ≡ refuses k w nodes versions
check_refused true number w nodes versions s k h e = h e
check_refused false number w nodes versions s k h e = ap (λ (m : ℕ). refuses m w nodes versions) (cc)

carry_refused : (p : Result Plan Damage) (w : Worker) (nodes versions : List ℕ) (k : ℕ) → (carry_of p w nodes versions).told ≡ refused k → carry_of p w nodes versions ≡ refuses k w nodes versions
unfolding carry_of
carry_refused (Result.Err d) w nodes versions k e = ap (λ (m : ℕ). refuses m w nodes versions) (cc)
carry_refused (Result.Ok (Plan.Keep (Next.On w'))) w nodes versions k e = gives_not e
carry_refused (Result.Ok (Plan.Keep (Next.Done a))) w nodes versions k e = gives_not e
carry_refused (Result.Ok (Plan.Put (Next.On w') v x r)) w nodes versions k e = gives_not e
carry_refused (Result.Ok (Plan.Put (Next.Done a) v x r)) w nodes versions k e = gives_not e

pub step_refused : (n : ℕ) (w : Worker) (nodes versions : List ℕ) (k : ℕ) → (step_record_of n w nodes versions).told ≡ refused k
    → step_record_of n w nodes versions ≡ refuses k w nodes versions
unfolding step_record_of
step_refused n w nodes versions k =
    check_refused (allowed n) 1 w nodes versions _ k
    (check_refused (roomy n nodes versions) 3 w nodes versions _ k
    (check_refused (busy w) 6 w nodes versions _ k
    (carry_refused (plan_of (bounds_of n nodes versions) w.phase nodes versions) w nodes versions k)))
