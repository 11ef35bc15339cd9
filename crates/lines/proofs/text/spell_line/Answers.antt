-- The newline stands behind the number.
-- Assumes nothing.
use Rattle.std.proofs.Common.{arith}
use Rattle.lines.proofs.Puts.{put_then}
use Rattle.lines.proofs.text.spell_line.Goals as goal

pub returns-clause-put : goal.returns-clause-put
returns-clause-put c =
    let spelled = c.spell-a.ensures in
    put_then _ _ _ _ _ _ _ (omega (arith, c.requires, spelled.put.ends, spelled.upper_bound)) spelled.put c.put.ensures
