-- A refresh of an inner node: three reads and a swap, and a second refresh where that swap fails, and no third.
-- Document 01, "Steps": Climb. Assumes nothing.
use Rattle.std.specs.Prelude.{Bool, true, false, ◌&&◌, List, ℕ, ◌+◌, ◌*◌, eqb, ltb, leb, get_or, Result}
use Rattle.trie.specs.declared.VersionNumber.{VersionNumber}
use Rattle.trie.specs.declared.Version.{Version}
use Rattle.trie.specs.declared.Climb.{Climb}
use Rattle.trie.specs.declared.Held.{Held}
use Rattle.trie.specs.declared.Phase.{Phase}
use Rattle.trie.specs.declared.Answer.{Answer}
use Rattle.trie.specs.declared.Next.{Next}
use Rattle.trie.specs.declared.Plan.{Plan}
use Rattle.trie.specs.declared.Damage.{Damage}
use Rattle.trie.specs.declared.Bounds.{Bounds}
use Rattle.trie.specs.Choice.{pick}
use Rattle.trie.specs.Tables.{current_of, version, version_at}
use Rattle.trie.specs.Sound.{sound_in}
use Rattle.trie.specs.Record.{climb_fits}
use Rattle.trie.specs.Leaf.{sure, keep, goes_on, climbs_from, swapped}

-- the node's child on the left, and whether the children are leaves
abbrev pub left_of : Climb → ℕ
left_of c = 2 * c.node.0

abbrev pub over_leaves : Bounds → Climb → Bool
over_leaves b c = leb b.cells (left_of c)

-- the next phase of the same refresh
abbrev pub holds : Climb → Held → Result Plan Damage
holds c s = keep (goes_on (Phase.Refresh c s))

-- done with this node: at the root the update answers, else it goes on at the parent
abbrev pub rises : Climb → ℕ → Next
rises c made =
    pick (eqb c.node.0 1)
    (Next.Done (pick c.yes Answer.Yes Answer.No))
    (climbs_from c.node.0 c.update c.yes made)

-- after a swap that failed: one second refresh, and no third
abbrev pub missed : Climb → Next
missed c =
    pick c.second
    (rises c c.made)
    (goes_on (Phase.Refresh (record { update = c.update; yes = c.yes; node = c.node; second = true; made = c.made }) Held.Nothing))

-- the version with these children and the sums of their counts and energies
abbrev pub sum_of : VersionNumber → VersionNumber → Version → Version → Version
sum_of l r a b = version l.0 r.0 (a.count + b.count) (a.energy.0 + b.energy.0) 0

-- the swap, at a node that now has this version; room and the update's share are judged only where it would succeed
abbrev pub place_sum : Bounds → Climb → ℕ → VersionNumber → Version → Result Plan Damage
place_sum b c now v sum =
    pick (eqb now v.0) (sure (ltb c.made b.share) (swapped b c.node.0 sum (rises c (c.made + 1)))) (keep (missed c))

-- the sums are judged also where the swap will fail
unfoldable pub join_of : Bounds → Climb → VersionNumber → VersionNumber → VersionNumber → List ℕ → List ℕ → Result Plan Damage
join_of b c v l r nodes versions =
    sure (leb ((version_at versions l).count + (version_at versions r).count) b.cells
    && leb ((version_at versions l).energy.0 + (version_at versions r).energy.0) b.energy)
    (place_sum b c (get_or nodes c.node.0 0) v (sum_of l r (version_at versions l) (version_at versions r)))

abbrev pub refresh_held : Bounds → Climb → Held → List ℕ → List ℕ → Result Plan Damage
refresh_held b c Held.Nothing nodes versions =
    sure (sound_in b false versions (current_of nodes c.node.0)) (holds c (Held.Node (current_of nodes c.node.0)))
refresh_held b c (Held.Node v) nodes versions =
    sure (sound_in b false versions v)
    (sure (sound_in b (over_leaves b c) versions (current_of nodes (left_of c))) (holds c (Held.Left v (current_of nodes (left_of c)))))
refresh_held b c (Held.Left v l) nodes versions =
    sure (sound_in b false versions v && sound_in b (over_leaves b c) versions l)
    (sure (sound_in b (over_leaves b c) versions (current_of nodes (left_of c + 1))) (holds c (Held.Both v l (current_of nodes (left_of c + 1)))))
refresh_held b c (Held.Both v l r) nodes versions =
    sure ((sound_in b false versions v && sound_in b (over_leaves b c) versions l) && sound_in b (over_leaves b c) versions r)
    (join_of b c v l r nodes versions)

unfoldable pub refresh_of : Bounds → Climb → Held → List ℕ → List ℕ → Result Plan Damage
refresh_of b c s nodes versions = sure (climb_fits b c) (refresh_held b c s nodes versions)
