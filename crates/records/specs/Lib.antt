-- Whether a record is at an update.
-- What the tests of a record say of it stands in proofs/.
pub mod Phases
