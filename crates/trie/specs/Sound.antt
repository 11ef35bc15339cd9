-- The numbers that a call is judged by, and when a version is sound at a leaf or at an inner place.
-- Document 01, "Refusal numbers". Assumes nothing.
use Rattle.std.specs.Prelude.{Bool, ◌&&◌, ◌||◌, List, ℕ, ◌+◌, ◌*◌, ◌-◌, eqb, leb, Result}
use Rattle.trie.specs.declared.VersionNumber.{VersionNumber}
use Rattle.trie.specs.declared.Version.{Version}
use Rattle.trie.specs.declared.Bounds.{Bounds}
use Rattle.trie.specs.declared.Damage.{Damage}
use Rattle.decibel.specs.Conversion.{loudest}
use Rattle.trie.specs.Choice.{pick}
use Rattle.trie.specs.Refusing.{damaged}
use Rattle.trie.specs.Size.{height_of}
use Rattle.trie.specs.Tables.{room_of, used_of, version_at}

-- the most energy of one cell
abbrev pub cell_energy : ℕ
cell_energy = 1000000000

unfoldable pub bounds_of : ℕ → List ℕ → List ℕ → Bounds
bounds_of n nodes versions =
    record {
      cells = n;
      height = height_of n;
      energy = n * cell_energy;
      share = height_of n + 1;
      used = used_of nodes;
      room = room_of versions;
    }

-- used is from 2N - 1 to V
unfoldable pub used_sound : Bounds → Bool
used_sound b = leb (2 * b.cells - 1) b.used && leb b.used b.room

-- a sum that stays within a bound; one past it is damage
abbrev pub sum_in : ℕ → ℕ → ℕ → Result ℕ Damage
sum_in a b most = pick (leb (a + b) most) (Result.Ok (a + b)) damaged

abbrev pub numbered : Bounds → VersionNumber → Bool
numbered b v = leb 1 v.0 && leb v.0 b.used

-- left and right are 0, and either all words are 0, or the count is 1 and energy and level are in their range
abbrev pub leaf_sound : Version → Bool
leaf_sound r =
    (eqb r.left.0 0 && eqb r.right.0 0)
    && (((eqb r.count 0 && eqb r.energy.0 0) && eqb r.level.0 0)
    || ((eqb r.count 1 && leb r.energy.0 cell_energy) && leb r.level.0 loudest))

abbrev pub inner_sound : Bounds → Version → Bool
inner_sound b r =
    (numbered b r.left && numbered b r.right)
    && ((leb r.count b.cells && leb r.energy.0 b.energy) && eqb r.level.0 0)

unfoldable pub sound_at : Bounds → Bool → VersionNumber → Version → Bool
sound_at b leaf v r = numbered b v && pick leaf (leaf_sound r) (inner_sound b r)

-- the version of number v, as the table has it, is sound at a leaf or at an inner place
unfoldable pub sound_in : Bounds → Bool → List ℕ → VersionNumber → Bool
sound_in b leaf versions v = sound_at b leaf v (version_at versions v)
