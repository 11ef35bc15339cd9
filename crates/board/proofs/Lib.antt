-- Laws about the parts of the calls: what is promised, open, and those by which each call is proved;
-- and that each contract leaves one answer.
pub mod PromisingLaws
pub mod OpeningLaws
pub mod CallLaws
pub mod Decided
pub mod OpenParts
