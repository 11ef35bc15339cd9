-- The laws about the definitions of the tree, from sizes and tables to the three calls;
-- and last the soundings, which compute the definitions.
pub mod SizeLaws
pub mod TableLaws
pub mod OpenLaws
pub mod StepLaws
pub mod CallLaws
pub mod Decided
pub mod PromiseLaws
pub mod Soundings
pub mod Refusals
pub mod Damaged
