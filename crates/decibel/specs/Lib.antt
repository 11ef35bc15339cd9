-- The conversion of a level, in the order in which it is to be read: what a call tells, the energy of a level, what is told of each level, and the page's numbers for it.
-- The laws that other crates may use stand in proofs/.
pub mod Told
pub mod Energy
pub mod Conversion
pub mod Answer
