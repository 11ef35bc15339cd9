-- The number's digits stand behind the word.
-- Assumes nothing.
use Rattle.std.proofs.Common.{◌++◌, ap, ◌∙◌, arith, take}
use Rattle.grammar.proofs.Texts.{decimal_is, put_as}
use Rattle.lines.proofs.Puts.{put_then}
use Rattle.lines.proofs.text.spell.Goals as goal

pub returns-clause-put : goal.returns-clause-put
returns-clause-put c =
    let digits = take c.decimal-k.result c.decimal-k.new.out in
    let e = c.decimal-k.ensures.digits ∙ decimal_is _ _ c.ranges.v.fits c.decimal-k.ensures.len in
    put_as _ _ _ _ _ _ (ap (λ x. c.args.word.now ++ x) e) (put_then c.args.word.now digits _ _ _ _ _ (omega (arith, c.requires)) c.put-a.ensures c.put.ensures)
