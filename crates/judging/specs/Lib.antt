-- The refusals that are told before anything is planned.
-- The laws that say what each leaves of the three calls stand in proofs/.
pub mod Judging
