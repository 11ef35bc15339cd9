-- What each refusal that is told before anything is planned leaves of the three calls.
-- The calls on words cite these laws too.
pub mod JudgingLaws
