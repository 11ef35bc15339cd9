-- The function does nothing, and its contract is the theorem: the proof of it is the answer.
-- Assumes nothing.
use Rattle.history.proofs.EveryHistory.{every_history_is_a_book}
use Rattle.history.proofs.every_history_is_a_book.Goals as goal

pub returns : goal.returns
returns c = every_history_is_a_book
