-- The word stands at the line's start; behind it one digit and a newline, or two.
-- Assumes nothing.
use Rattle.std.proofs.Common.{◌≤◌, [], ◌∷◌, sym, ap, ◌∙◌, arith, length}
use Rattle.std.proofs.lemmas.Slice.Eq.{starts_is}
use Rattle.std.proofs.lemmas.Bool.Decides.{Decides-eqb}
use Rattle.lines.proofs.Shorts.{found_one, found_two}
use Rattle.lines.proofs.short.short_step.Goals as goal
use Rattle.lines.proofs.short.short_step.Goals.{in-Some, in-None}

pub returns : goal.returns
returns c =
    let line = c.args.line.now in
    let long : 8 ≤ length line = omega arith in
    let named = (starts_is Decides-eqb line (115 ∷ 116 ∷ 101 ∷ 112 ∷ 32 ∷ []) c.starts_with.result c.starts_with.ensures.value).0 c.if-not-starts_with.false in
    let tens = sym c.digit.ensures ∙ c.in_ok-tens.was in
    elim c.match-digit.branch [
      | in-Some w ↦ found_two line long named c.in_ok-tens.tens w.in-Some.ones _ _ tens (sym c.digit-2.ensures ∙ w.in-Some.is) (ap (λ x. x.0) w.worker-is) (ap (λ x. x.1) w.worker-is) c.if-line-end-ne10.false
      | in-None w ↦ found_one line long named c.in_ok-tens.tens _ _ tens (ap (λ x. x.0) w.worker-is) (ap (λ x. x.1) w.worker-is) c.if-line-end-ne10.false
    ]
