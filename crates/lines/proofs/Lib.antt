-- That the contract of a chunk leaves one answer, and then what the proofs of several functions share: the laws of one line, of lines one after the other, and of chunks.
-- Last stand the laws of the whole program, which no function cites: how the input is cut, what is written, and that an accepted open begins a history.
pub mod Decided
mod Taken
pub mod Feeds
mod Puts
mod Shorts
mod RunLaws
mod Outcomes
pub mod Cuts
pub mod Whole
pub mod Opened
