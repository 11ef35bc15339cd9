-- The energy stands behind the count.
-- Assumes nothing.
use Rattle.std.proofs.Common.{◌∷◌, ◌++◌, sym, ◌∙◌, append_assoc, arith}
use Rattle.grammar.specs.Text.{done_word, decimal, newline}
use Rattle.grammar.proofs.Texts.{put_as, sums_text}
use Rattle.lines.proofs.Puts.{put_then}
use Rattle.lines.proofs.text.put_sums.Goals as goal

pub returns : goal.returns
returns c =
    let first = c.spell-a.ensures in
    let second = c.spell_line.ensures in
    record {
      put = put_as _ _ _ _ _ _ (sym (append_assoc (done_word ++ decimal c.args.count) (32 ∷ decimal c.args.energy) newline) ∙ sums_text c.args.count c.args.energy) (put_then _ _ _ _ _ _ _ (omega (arith, c.requires, first.put.ends, first.upper_bound)) first.put second.put);
      most = omega (arith, first.upper_bound, second.upper_bound);
    }
