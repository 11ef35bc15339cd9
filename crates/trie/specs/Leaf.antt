-- An update at its leaf: the read, and the swap where the cell is not yet as wanted.
-- Document 01, "Steps": Insert and Delete. Assumes nothing.
use Rattle.std.specs.Prelude.{Bool, true, false, not, List, ℕ, ◌+◌, ◌/◌, eqb, ltb, get_or, Result}
use Rattle.decibel.specs.Energy.{energy_of}
use Rattle.trie.specs.declared.VersionNumber.{VersionNumber}
use Rattle.trie.specs.declared.Version.{Version}
use Rattle.trie.specs.declared.Update.{Update}
use Rattle.trie.specs.declared.Held.{Held}
use Rattle.trie.specs.declared.Phase.{Phase}
use Rattle.trie.specs.declared.Next.{Next}
use Rattle.trie.specs.declared.Plan.{Plan}
use Rattle.trie.specs.declared.Damage.{Damage}
use Rattle.trie.specs.declared.Bounds.{Bounds}
use Rattle.trie.specs.Choice.{pick}
use Rattle.trie.specs.Refusing.{damaged}
use Rattle.trie.specs.Tables.{current_of, version, version_at}
use Rattle.trie.specs.Sound.{sound_in}
use Rattle.trie.specs.Record.{worker, update_fits, leaf_of}

-- the plan, or 9 where a test fails
abbrev pub sure : Bool → Result Plan Damage → Result Plan Damage
sure true p = p
sure false p = damaged

-- a plan that writes nothing
abbrev pub keep : Next → Result Plan Damage
keep next = Result.Ok (Plan.Keep next)

abbrev pub goes_on : Phase → Next
goes_on p = Next.On (worker p)

-- marked is count 1
abbrev pub marked : Version → Bool
marked r = eqb r.count 1

-- the cell is as the update wants it: marked at any level for Insert, unmarked for Delete
abbrev pub as_wanted : Update → Version → Bool
as_wanted (Update.Insert k l) r = marked r
as_wanted (Update.Delete k) r = not (marked r)

-- the version that the update swaps in
abbrev pub wanted : Update → Version
wanted (Update.Insert k l) = version 0 0 1 (energy_of l.0) l.0
wanted (Update.Delete k) = version 0 0 0 0 0

-- a climb goes on at the parent of a node that it is done with, and has read nothing there yet
abbrev pub climbs_from : ℕ → Update → Bool → ℕ → Next
climbs_from x u result made =
    goes_on (Phase.Refresh (record { update = u; yes = result; node = record { 0 = x / 2 }; second = false; made = made }) Held.Nothing)

-- after the leaf the climb begins, whether yes or no
abbrev pub climbs : Bounds → Update → Bool → ℕ → Next
climbs b u result made = climbs_from (leaf_of b u) u result made

-- a swap that would succeed finds room for one version more
abbrev pub swapped : Bounds → ℕ → Version → Next → Result Plan Damage
swapped b x r next = sure (ltb b.used b.room) (Result.Ok (Plan.Put next (record { 0 = b.used + 1 }) (record { 0 = x }) r))

unfoldable pub read_of : Bounds → Update → List ℕ → List ℕ → Result Plan Damage
read_of b u nodes versions =
    sure (update_fits b.cells u)
    (sure (sound_in b true versions (current_of nodes (leaf_of b u)))
    (keep
    (pick (as_wanted u (version_at versions (current_of nodes (leaf_of b u))))
    (climbs b u false 0)
    (goes_on (Phase.Swap u (current_of nodes (leaf_of b u)))))))

unfoldable pub swap_of : Bounds → Update → VersionNumber → List ℕ → List ℕ → Result Plan Damage
swap_of b u v nodes versions =
    sure (update_fits b.cells u)
    (sure (sound_in b true versions v)
    (pick (eqb (get_or nodes (leaf_of b u) 0) v.0)
    (swapped b (leaf_of b u) (wanted u) (climbs b u true 1))
    (keep (climbs b u false 0))))
