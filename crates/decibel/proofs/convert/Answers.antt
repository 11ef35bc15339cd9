-- The table passes the tenth-power test, entry by entry, so each entry keeps the rule.
-- Assumes nothing.
use Rattle.std.proofs.Common.{sym, ap, ◌∙◌, arith, ℕ, List, [], ◌∷◌}
use Rattle.decibel.specs.Told.{gives}
use Rattle.decibel.proofs.Laws.{converts, refuses}
use Rattle.decibel.proofs.Table.{at}
use Rattle.decibel.proofs.Entries.{right, rule_at}
use Rattle.decibel.proofs.convert.Goals as goal

unfoldable entries : List ℕ
entries =
    1000 ∷ 1258 ∷ 1584 ∷ 1995 ∷ 2511 ∷ 3162 ∷ 3981 ∷ 5011 ∷ 6309 ∷ 7943 ∷ 10000 ∷ 12589 ∷ 15848 ∷ 19952 ∷ 25118 ∷ 31622 ∷ 39810 ∷ 50118 ∷ 63095
    ∷ 79432 ∷ 100000 ∷ 125892 ∷ 158489 ∷ 199526 ∷ 251188 ∷ 316227 ∷ 398107 ∷ 501187 ∷ 630957 ∷ 794328 ∷ 1000000 ∷ 1258925 ∷ 1584893 ∷ 1995262
    ∷ 2511886 ∷ 3162277 ∷ 3981071 ∷ 5011872 ∷ 6309573 ∷ 7943282 ∷ 10000000 ∷ 12589254 ∷ 15848931 ∷ 19952623 ∷ 25118864 ∷ 31622776 ∷ 39810717
    ∷ 50118723 ∷ 63095734 ∷ 79432823 ∷ 100000000 ∷ 125892541 ∷ 158489319 ∷ 199526231 ∷ 251188643 ∷ 316227766 ∷ 398107170 ∷ 501187233 ∷ 630957344
    ∷ 794328234 ∷ 1000000000 ∷ []

pub returns-then-decibels-gt-LOUDEST : goal.returns-then-decibels-gt-LOUDEST
returns-then-decibels-gt-LOUDEST c = sym (refuses _ c.if-decibels-gt-LOUDEST.true)

pub returns : goal.returns
unfolding entries right
returns c =
    let level = c.args.level.0 in
    ap (λ (t : ℕ). gives t) (rule_at level _ c.if-decibels-gt-LOUDEST.false (at right entries tt level (omega arith)))
    ∙ sym (converts level c.if-decibels-gt-LOUDEST.false)
