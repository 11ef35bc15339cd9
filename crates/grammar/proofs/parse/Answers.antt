-- `grammar::parse` meets its contract: a line that is too long is none, and another is the command that is read.
-- Assumes nothing.
use mathlib.Core.Path.{◌∙◌}
use borrow.Author.Tests.{lt-ltb, le-ltb}
use Rattle.std.proofs.Common.{arith, length}
use Rattle.grammar.specs.Grammar.{longest, line_of}
use Rattle.grammar.proofs.parse.Goals as goal

pub returns-then-s-gt-LONGEST_LINE : goal.returns-then-s-gt-LONGEST_LINE
unfolding line_of
returns-then-s-gt-LONGEST_LINE c = simp (lt-ltb longest (length c.args.s.now) (omega arith))

pub returns : goal.returns
unfolding line_of
returns c = c.read_command.ensures ∙ simp (le-ltb longest (length c.args.s.now) (omega arith))
