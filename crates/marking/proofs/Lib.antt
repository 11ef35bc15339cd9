-- The law by which the new version of a leaf is proved:
-- its energy is the conversion's, for the level fits.
pub mod Converting
