-- The laws by which the check proves each call: what judging a call says of it, and the laws of its part here.
-- Assumes nothing.
use Rattle.judging.proofs.JudgingLaws.{manned_by_lem, seated, start_seated, start_refused, step_seated, step_refused}
use Rattle.board.proofs.PromisingLaws.{share_small, first_row, tally_updates, tally_made, tally_within, tally_due, promised_by_tally, promised_first}
use Rattle.board.proofs.OpeningLaws.{seats_enough, rests}

pub ruleset of_open = (manned_by_lem, seats_enough, first_row, rests)

pub ruleset of_promised = (first_row, tally_updates, tally_made, tally_within, tally_due, promised_by_tally, promised_first)

pub ruleset of_start = (seated, start_seated, start_refused, share_small)

pub ruleset of_step = (seated, step_seated, step_refused)
