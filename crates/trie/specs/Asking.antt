-- A query: its reading of the root, and its way down the versions, never through the node table.
-- Document 01, "Steps": Queries. Assumes nothing.
use Rattle.std.specs.Prelude.{Bool, true, false, ◌&&◌, List, ℕ, ◌+◌, ◌*◌, ◌-◌, ◌/◌, ◌%◌, ◌^◌, eqb, ltb, leb, Result}
use Rattle.decibel.specs.declared.Energy.{Energy}
use Rattle.trie.specs.declared.NodeNumber.{NodeNumber}
use Rattle.trie.specs.declared.VersionNumber.{VersionNumber}
use Rattle.trie.specs.declared.Version.{Version}
use Rattle.trie.specs.declared.Query.{Query}
use Rattle.trie.specs.declared.Standing.{Standing}
use Rattle.trie.specs.declared.Phase.{Phase}
use Rattle.trie.specs.declared.Answer.{Answer}
use Rattle.trie.specs.declared.Next.{Next}
use Rattle.trie.specs.declared.Plan.{Plan}
use Rattle.trie.specs.declared.Damage.{Damage}
use Rattle.trie.specs.declared.Bounds.{Bounds}
use Rattle.trie.specs.declared.Child.{Child}
use Rattle.trie.specs.declared.Fork.{Fork}
use Rattle.trie.specs.Choice.{pick}
use Rattle.trie.specs.Refusing.{damaged}
use Rattle.trie.specs.Tables.{current_of, version_at}
use Rattle.trie.specs.Sound.{sound_in}
use Rattle.trie.specs.Record.{query_fits}
use Rattle.trie.specs.Leaf.{sure, keep, goes_on, marked}

abbrev pub standing : ℕ → VersionNumber → Standing
standing depth v = record { depth = depth; version = v }

abbrev pub answers : Answer → Result Plan Damage
answers a = keep (Next.Done a)

abbrev pub sums_of : ℕ → ℕ → Answer
sums_of count energy = Answer.Sums count (record { 0 = energy })

-- step 1, with the root's version in hand
abbrev pub first_of : Query → VersionNumber → Version → Result Plan Damage
first_of (Query.Find k) v r = keep (goes_on (Phase.Find k (standing 0 v)))
first_of (Query.Select j) v r = pick (ltb r.count j) (answers Answer.None) (keep (goes_on (Phase.Select j (standing 0 v) (record { 0 = 1 }) 0)))
first_of (Query.Rank k) v r = keep (goes_on (Phase.Rank k (standing 0 v) 0 (record { 0 = 0 })))
first_of Query.Total v r = answers (sums_of r.count r.energy.0)

unfoldable pub ask_of : Bounds → Query → List ℕ → List ℕ → Result Plan Damage
ask_of b q nodes versions =
    sure (query_fits b.cells q)
    (sure (sound_in b false versions (current_of nodes 1)) (first_of q (current_of nodes 1) (version_at versions (current_of nodes 1))))

-- the children of a version that stands d levels below the root are leaves
abbrev pub last_at : Bounds → ℕ → Bool
last_at b d = eqb (d + 1) b.height

abbrev pub child_of : ℕ → List ℕ → VersionNumber → Child
child_of d versions v = record { standing = standing d v; version = version_at versions v }

-- the children stand one level deeper
abbrev pub fork_of : Bounds → Standing → List ℕ → Version → Fork
fork_of b s versions r =
    record {
      left = child_of (s.depth + 1) versions r.left;
      right = child_of (s.depth + 1) versions r.right;
      last = last_at b s.depth;
    }

abbrev pub seen : Bool → Fork → Result Fork Damage
seen true f = Result.Ok f
seen false f = damaged

-- a further step reads the version where the query stands and both its children, and judges all three
unfoldable pub look_of : Bounds → Standing → List ℕ → Result Fork Damage
look_of b s versions =
    seen
    (ltb s.depth b.height
    && (sound_in b false versions s.version
    && (sound_in b (last_at b s.depth) versions (version_at versions s.version).left
    && sound_in b (last_at b s.depth) versions (version_at versions s.version).right)))
    (fork_of b s versions (version_at versions s.version))

-- the way to cell k turns right at this depth
abbrev pub turns_right : Bounds → ℕ → ℕ → Bool
turns_right b k d = eqb (k / 2 ^ (b.height - (d + 1)) % 2) 1

abbrev pub towards : Bool → Fork → Child
towards right f = pick right f.right f.left

-- Find: the level of the leaf that is reached, or none
abbrev pub level_of : Version → Answer
level_of r = pick (marked r) (Answer.Level r.level) Answer.None

abbrev pub find_seen : ℕ → Bool → Result Fork Damage → Result Plan Damage
find_seen k right (Result.Err e) = damaged
find_seen k right (Result.Ok f) =
    pick f.last (answers (level_of (towards right f).version)) (keep (goes_on (Phase.Find k (towards right f).standing)))

unfoldable pub find_of : Bounds → ℕ → Standing → List ℕ → Result Plan Damage
find_of b k s versions = sure (ltb k b.cells) (find_seen k (turns_right b k s.depth) (look_of b s versions))

-- Rank: what is passed on the left is added, and at the last step the leaf that is reached
abbrev pub passed_of : Bool → ℕ → ℕ → ℕ
passed_of right left running = pick right (running + left) running

abbrev pub reached_of : Bool → ℕ → ℕ → ℕ
reached_of last leaf passed = pick last (passed + leaf) passed

abbrev pub within : Bounds → ℕ → ℕ → Bool
within b count energy = leb count b.cells && leb energy b.energy

abbrev pub rank_next : ℕ → Standing → Bool → ℕ → ℕ → Result Plan Damage
rank_next k next last count energy =
    pick last (answers (sums_of count energy)) (keep (goes_on (Phase.Rank k next count (record { 0 = energy }))))

abbrev pub rank_seen : Bounds → ℕ → Bool → ℕ → ℕ → Result Fork Damage → Result Plan Damage
rank_seen b k right count energy (Result.Err e) = damaged
rank_seen b k right count energy (Result.Ok f) =
    sure (within b
    (reached_of f.last (towards right f).version.count (passed_of right f.left.version.count count))
    (reached_of f.last (towards right f).version.energy.0 (passed_of right f.left.version.energy.0 energy)))
    (rank_next k (towards right f).standing f.last
    (reached_of f.last (towards right f).version.count (passed_of right f.left.version.count count))
    (reached_of f.last (towards right f).version.energy.0 (passed_of right f.left.version.energy.0 energy)))

unfoldable pub rank_of : Bounds → ℕ → Standing → ℕ → Energy → List ℕ → Result Plan Damage
rank_of b k s count energy versions =
    sure (ltb k b.cells && within b count energy.0)
    (rank_seen b k (turns_right b k s.depth) count energy.0 (look_of b s versions))

-- Select: left where the left count is at least what is still to be passed; else right, and the left count is passed
abbrev pub select_next : Bounds → ℕ → Standing → ℕ → ℕ → Bool → Result Plan Damage
select_next b j next x passed last =
    pick last (answers (Answer.Cell (x - b.cells))) (keep (goes_on (Phase.Select j next (record { 0 = x }) passed)))

-- the sum is judged also at the last step, where it is neither stored nor answered
abbrev pub select_right : Bounds → ℕ → ℕ → ℕ → Fork → Result Plan Damage
select_right b j x passed f =
    sure (leb (passed + f.left.version.count) b.cells)
    (select_next b j f.right.standing x (passed + f.left.version.count) f.last)

abbrev pub select_seen : Bounds → ℕ → ℕ → ℕ → Result Fork Damage → Result Plan Damage
select_seen b j x passed (Result.Err e) = damaged
select_seen b j x passed (Result.Ok f) =
    pick (leb (j - passed) f.left.version.count)
    (select_next b j f.left.standing (2 * x) passed f.last)
    (select_right b j (2 * x + 1) passed f)

-- the node stands at the query's depth: from there the root is so many parents up
abbrev pub at_depth : ℕ → ℕ → Bool
at_depth d x = eqb (x / 2 ^ d) 1

unfoldable pub select_of : Bounds → ℕ → Standing → NodeNumber → ℕ → List ℕ → Result Plan Damage
select_of b j s x passed versions =
    sure ((ltb passed j && leb passed b.cells) && at_depth s.depth x.0)
    (select_seen b j x.0 passed (look_of b s versions))
