-- Where no byte is held there is no line to end, and else it ends as by a newline.
-- Assumes nothing.
use Rattle.std.proofs.Common.{◌∙◌}
use Rattle.lines.proofs.Outcomes.{finish_none, finish_line}
use Rattle.lines.proofs.Kept.finish.Goals as goal

pub returns-then-self-eq0 : goal.returns-then-self-eq0
returns-then-self-eq0 c = finish_none c.args.self.now.begun _ _ c.if-self-eq0.true

pub returns : goal.returns
returns c = c.serve_bytes.ensures ∙ finish_line c.args.self.now.begun _ _ c.if-self-eq0.false
