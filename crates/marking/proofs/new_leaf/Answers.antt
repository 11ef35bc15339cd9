-- `marking::new_leaf` meets its contract: the level fits, so that the conversion does not refuse it.
-- Assumes nothing.
use Rattle.std.specs.Prelude.{◌≡◌}
use Rattle.std.proofs.Common.{rules}
use Rattle.decibel.specs.Energy.{energy_of}
use Rattle.trie.specs.Tables.{version}
use Rattle.marking.proofs.Converting.{converted}
use Rattle.marking.proofs.new_leaf.Goals as goal

pub unwrap-requires : goal.unwrap-requires
unwrap-requires c = rw (converted _ _ _ _ _ c.requires c.in-Insert.is c.convert.ensures) (search rules)

pub returns-in-Insert : goal.returns-in-Insert
returns-in-Insert c =
    let e = converted _ _ _ _ _ c.requires c.in-Insert.is c.convert.ensures in
    let same : c.unwrap.result.0 ≡ energy_of c.in-Insert.level.0 = cc in
    let bare = c.default.ensures in
    rw c.in-Insert.is (λ i. version (bare.0 i) (bare.1.0 i) 1 (same i) c.in-Insert.level.0)
