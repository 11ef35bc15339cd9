-- A listing, in the order in which it is to be read: how an answer is put, what is kept from line to line, what one line does, and what the bytes of a chunk do.
-- Behind them stand the places of a chunk, and last the whole input. That its contract leaves one answer is shown in proofs/.
pub mod Replies
pub mod Watch
pub mod Turns
pub mod Calling
pub mod Chunks
pub mod Feeding
pub mod Places
pub mod Whole
