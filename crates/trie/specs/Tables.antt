-- How versions and nodes stand in the lent tables.
-- Document 01, "Tables" and the row "versions V". Assumes nothing.
use Rattle.std.specs.Prelude.{Bool, ◌&&◌, List, ℕ, ◌+◌, ◌*◌, ◌-◌, ◌/◌, leb, min, length, get_or, set, ⊤, Result}
use Rattle.trie.specs.declared.VersionNumber.{VersionNumber}
use Rattle.trie.specs.declared.Version.{Version}
use Rattle.trie.specs.declared.Refusal.{Refusal}
use Rattle.trie.specs.Choice.{pick}
use Rattle.trie.specs.Size.{allowed}

-- the words of a version
abbrev pub width : ℕ
width = 5

-- V: as many whole versions as a table of so many words holds, but no more than a million
abbrev pub most_versions : ℕ
most_versions = 1000000

abbrev pub room_by : ℕ → ℕ
room_by words = min (words / width) most_versions

unfoldable pub room_of : List ℕ → ℕ
room_of versions = room_by (length versions)

-- the count of versions used, and the current version of node x
abbrev pub used_of : List ℕ → ℕ
used_of nodes = get_or nodes 0 0

abbrev pub current_of : List ℕ → ℕ → VersionNumber
current_of nodes x = record { 0 = get_or nodes x 0 }

abbrev pub version : ℕ → ℕ → ℕ → ℕ → ℕ → Version
version left right count energy level =
    record { left = record { 0 = left }; right = record { 0 = right }; count = count; energy = record { 0 = energy }; level = record { 0 = level } }

-- the five words from a place on
abbrev pub words_at : List ℕ → ℕ → Version
words_at versions i =
    version (get_or versions i 0) (get_or versions (i + 1) 0) (get_or versions (i + 2) 0) (get_or versions (i + 3) 0) (get_or versions (i + 4) 0)

abbrev pub words_put : List ℕ → ℕ → Version → List ℕ
words_put versions i r =
    set (set (set (set (set versions i r.left.0) (i + 1) r.right.0) (i + 2) r.count) (i + 3) r.energy.0) (i + 4) r.level.0

-- whether the table has a version of this number; numbers begin at 1
abbrev pub stored : List ℕ → VersionNumber → Bool
stored versions v = leb 1 v.0 && leb v.0 (length versions / width)

-- the version of a number; a number that the table does not have reads as five zeros, and no such version is ever sound
unfoldable pub version_at : List ℕ → VersionNumber → Version
version_at versions v = pick (stored versions v) (words_at versions (width * (v.0 - 1))) (version 0 0 0 0 0)

unfoldable pub version_put : List ℕ → VersionNumber → Version → List ℕ
version_put versions v r = pick (stored versions v) (words_put versions (width * (v.0 - 1)) r) versions

-- tables of so many words are large enough for n cells: refusal 3 where not
abbrev pub roomy_by : ℕ → ℕ → ℕ → Bool
roomy_by n nodes versions = leb (2 * n) nodes && leb (2 * n - 1) (room_by versions)

unfoldable pub roomy : ℕ → List ℕ → List ℕ → Bool
roomy n nodes versions = roomy_by n (length nodes) (length versions)

-- what is told of tables lent for n cells, before anything is read in them: 1 goes before 3
abbrev pub tables_judged : ℕ → List ℕ → List ℕ → Result ⊤ Refusal
tables_judged n nodes versions =
    pick (allowed n) (pick (roomy n nodes versions) (Result.Ok tt) (Result.Err Refusal.Tables)) (Result.Err Refusal.Cells)
