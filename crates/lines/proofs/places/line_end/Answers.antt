-- The line ends at the first newline, or with the bytes where there is none.
-- Assumes nothing.
use Rattle.std.proofs.Common.{sym, subst, ap, ◌∙◌, length}
use Rattle.std.specs.Option.{unwrap_or}
use Rattle.lines.specs.Feeding.{Ends}
use Rattle.lines.proofs.Feeds.{ends_line}
use Rattle.lines.proofs.places.line_end.Goals as goal

pub returns : goal.returns
returns c =
    let bytes = c.args.bytes.now in
    subst (Ends bytes 0) (sym (c.unwrap_or.ensures ∙ ap (λ o. unwrap_or o (length bytes)) c.first_newline.ensures)) (ends_line bytes)
