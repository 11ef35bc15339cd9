-- The calls of the library in words: an operation, a record and an answer in words, the board's words, and the four calls;
-- and then what the contracts of the calls' parts speak of. The laws about them stand in proofs/.
pub mod Operations
pub mod Writing
pub mod Reading
pub mod Seats
pub mod Answers
pub mod Calls
pub mod Promising
pub mod OneRecord
