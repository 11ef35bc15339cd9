-- What start does to one record, given what is promised: it only records the operation.
-- Document 01, "Steps" and "Refusal numbers", in the order 1, 3, 5, 7, 9, 8. Assumes nothing.
use Rattle.std.specs.Prelude.{Bool, true, false, not, List, ℕ, ◌+◌, leb, Result}
use Rattle.decibel.specs.Told.{Told, refused, gives}
use Rattle.trie.specs.declared.Operation.{Operation}
use Rattle.trie.specs.declared.Phase.{Phase}
use Rattle.trie.specs.declared.Worker.{Worker}
use Rattle.trie.specs.declared.Damage.{Damage}
use Rattle.trie.specs.declared.Refusal.{Refusal}
use Rattle.trie.specs.declared.Bounds.{Bounds}
use Rattle.trie.specs.Size.{allowed}
use Rattle.trie.specs.Tables.{roomy}
use Rattle.trie.specs.Sound.{bounds_of, used_sound}
use Rattle.trie.specs.Record.{worker, busy, operation_fits}
use Rattle.trie.specs.Refusing.{number_of}
use Rattle.trie.specs.Values.{Ok, ok}

-- what start tells, and the record after it
pub record Started : Type 0 where
  pub told : Told Ok
  pub worker : Worker

-- what a start of the record w tells, and the record after it: as it was where the start is refused
abbrev pub started_by : Result Worker Refusal → Worker → Started
started_by (Result.Err refusal) w = record { told = refused (number_of refusal); worker = w }
started_by (Result.Ok next) w = record { told = gives ok; worker = next }

-- goes on where the test holds; else refuses, and leaves the record
abbrev pub check : Bool → ℕ → Worker → Started → Started
check true number w s = s
check false number w s = record { told = refused number; worker = w }

abbrev pub begun : Operation → Worker
begun (Operation.Update u) = worker (Phase.Read u)
begun (Operation.Query q) = worker (Phase.Ask q)

abbrev pub records : Operation → Started
records o = record { told = gives ok; worker = begun o }

-- an update is accepted only where all that is promised, with its own share, still has room
abbrev pub shared : Bounds → Operation → ℕ → Worker → Started
shared b (Operation.Update u) promised w = check (leb (b.used + promised + b.share) b.room) 8 w (records (Operation.Update u))
shared b (Operation.Query q) promised w = records (Operation.Query q)

abbrev pub granted : Bounds → Operation → Result ℕ Damage → Worker → Started
granted b o (Result.Err d) w = check false 9 w (records o)
granted b o (Result.Ok promised) w = check (used_sound b) 9 w (shared b o promised w)

unfoldable pub start_record_of : ℕ → Operation → Result ℕ Damage → Worker → List ℕ → List ℕ → Started
start_record_of n o promised w nodes versions =
    check (allowed n) 1 w
    (check (roomy n nodes versions) 3 w
    (check (not (busy w)) 5 w
    (check (operation_fits n o) 7 w
    (granted (bounds_of n nodes versions) o promised w))))
