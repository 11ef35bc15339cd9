-- The laws about the calls in words, from a record's words to any list of calls,
-- which no one has to read to believe.
pub mod RecordLaws
pub mod StrictLaws
pub mod PromisingLaws
pub mod SeatLaws
pub mod GoesOut
pub mod CallLaws
pub mod SaidLaws
pub mod Runs
pub mod Decided
