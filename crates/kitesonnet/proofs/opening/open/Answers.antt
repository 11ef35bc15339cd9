-- An open of lent words is refused by its numbers or its tables; else the tables are opened, and then the workers rest.
-- Assumes nothing.
use Rattle.std.proofs.Common.{◌∙◌, List, ℕ, sym, ap}
use Rattle.kitesonnet.proofs.GoesOut.{goes_out}
use Rattle.kitesonnet.specs.Calls.{lent, back}
use Rattle.kitesonnet.proofs.CallLaws.{open_sized, open_manned, open_short, open_fresh}
use Rattle.kitesonnet.proofs.opening.open.Goals as goal

pub returns-then-not-is_allowed : goal.returns-then-not-is_allowed
returns-then-not-is_allowed c = open_sized _ _ _ _ _ (sym c.is_allowed.ensures ∙ c.if-not-is_allowed.true)

pub returns-then-not-is_manned : goal.returns-then-not-is_manned
returns-then-not-is_manned c = open_manned _ _ _ _ _ (sym c.is_allowed.ensures ∙ c.if-not-is_allowed.false) (sym c.is_manned.ensures ∙ c.if-not-is_manned.true)

pub returns-in_err-open_tables : goal.returns-in_err-open_tables
returns-in_err-open_tables c =
    simp (goes_out _ _ c.from_residual.ensures.1)
    (open_short _ _ _ _ _ _ _ _ (sym c.is_allowed.ensures ∙ c.if-not-is_allowed.false) (sym c.is_manned.ensures ∙ c.if-not-is_manned.false) c.in_err-open_tables.ensures).1

pub returns : goal.returns
returns c =
    ap (λ (b : List ℕ). back 0 (lent c.open_tables.new.nodes c.open_tables.new.versions b)) c.rest.ensures
    ∙ open_fresh _ _ _ _ _ _ _ (sym c.is_allowed.ensures ∙ c.if-not-is_allowed.false) (sym c.is_manned.ensures ∙ c.if-not-is_manned.false) c.in_ok-open_tables.ensures
