-- What one step does to one record and the tables: a plan by phase, and the plan carried out.
-- Document 01, "Steps" and "Refusal numbers", in the order 1, 3, 6, 9. Assumes nothing.
use Rattle.std.specs.Prelude.{Bool, true, false, List, ℕ, set, Result}
use Rattle.decibel.specs.Told.{Told, refused, gives}
use Rattle.trie.specs.declared.Phase.{Phase}
use Rattle.trie.specs.declared.Worker.{Worker}
use Rattle.trie.specs.declared.Next.{Next}
use Rattle.trie.specs.declared.Refusal.{Refusal}
use Rattle.trie.specs.declared.Damage.{Damage}
use Rattle.trie.specs.declared.Progress.{Progress}
use Rattle.trie.specs.declared.Plan.{Plan}
use Rattle.trie.specs.declared.Bounds.{Bounds}
use Rattle.trie.specs.Size.{allowed}
use Rattle.trie.specs.Tables.{version_put, roomy}
use Rattle.trie.specs.Sound.{bounds_of, used_sound}
use Rattle.trie.specs.Record.{idle, busy}
use Rattle.trie.specs.Refusing.{damaged}
use Rattle.trie.specs.Values.{Course, on, done, value_of, progress_of}
use Rattle.trie.specs.Leaf.{sure, read_of, swap_of}
use Rattle.trie.specs.Refreshing.{refresh_of}
use Rattle.trie.specs.Asking.{ask_of, find_of, rank_of, select_of}

-- what a step tells, and the record and the tables after it
pub record Stepped : Type 0 where
  pub told : Told Course
  pub worker : Worker
  pub nodes : List ℕ
  pub versions : List ℕ

abbrev pub refuses : ℕ → Worker → List ℕ → List ℕ → Stepped
refuses number w nodes versions = record { told = refused number; worker = w; nodes = nodes; versions = versions }

abbrev pub check : Bool → ℕ → Worker → List ℕ → List ℕ → Stepped → Stepped
check true number w nodes versions s = s
check false number w nodes versions s = refuses number w nodes versions

abbrev pub plan_phase : Bounds → Phase → List ℕ → List ℕ → Result Plan Damage
plan_phase b Phase.Idle nodes versions = damaged
plan_phase b (Phase.Read u) nodes versions = read_of b u nodes versions
plan_phase b (Phase.Swap u v) nodes versions = swap_of b u v nodes versions
plan_phase b (Phase.Refresh c s) nodes versions = refresh_of b c s nodes versions
plan_phase b (Phase.Ask q) nodes versions = ask_of b q nodes versions
plan_phase b (Phase.Find k s) nodes versions = find_of b k s versions
plan_phase b (Phase.Rank k s c e) nodes versions = rank_of b k s c e versions
plan_phase b (Phase.Select j s x c) nodes versions = select_of b j s x c versions

unfoldable pub plan_of : Bounds → Phase → List ℕ → List ℕ → Result Plan Damage
plan_of b p nodes versions = sure (used_sound b) (plan_phase b p nodes versions)

-- an answer leaves the record as open does
abbrev pub after_next : Next → List ℕ → List ℕ → Stepped
after_next (Next.On w) nodes versions = record { told = gives on; worker = w; nodes = nodes; versions = versions }
after_next (Next.Done a) nodes versions = record { told = gives (done (value_of a)); worker = idle; nodes = nodes; versions = versions }

-- what a step tells of the record that it moved, and the record after it
abbrev pub progress_after : Next → Progress
progress_after (Next.On w) = Progress.On
progress_after (Next.Done a) = Progress.Done a

abbrev pub worker_after : Next → Worker
worker_after (Next.On w) = w
worker_after (Next.Done a) = idle

abbrev pub progress_by : Result Next Refusal → Result Progress Refusal
progress_by (Result.Err refusal) = Result.Err refusal
progress_by (Result.Ok next) = Result.Ok (progress_after next)

abbrev pub worker_by : Result Next Refusal → Worker → Worker
worker_by (Result.Err refusal) w = w
worker_by (Result.Ok next) w = worker_after next

abbrev pub stepped_by : Result Next Refusal → Worker → List ℕ → List ℕ → Stepped
stepped_by m w nodes versions = record { told = progress_of (progress_by m); worker = worker_by m w; nodes = nodes; versions = versions }

-- a swap that succeeds: one version more, which is the node's; word 0 counts it
unfoldable pub carry_of : Result Plan Damage → Worker → List ℕ → List ℕ → Stepped
carry_of (Result.Err d) w nodes versions = refuses 9 w nodes versions
carry_of (Result.Ok (Plan.Keep next)) w nodes versions = after_next next nodes versions
carry_of (Result.Ok (Plan.Put next v x r)) w nodes versions = after_next next (set (set nodes x.0 v.0) 0 v.0) (version_put versions v r)

unfoldable pub step_record_of : ℕ → Worker → List ℕ → List ℕ → Stepped
step_record_of n w nodes versions =
    check (allowed n) 1 w nodes versions
    (check (roomy n nodes versions) 3 w nodes versions
    (check (busy w) 6 w nodes versions
    (carry_of (plan_of (bounds_of n nodes versions) w.phase nodes versions) w nodes versions)))
