-- What Select needs of its depth.
-- It speaks of numbers alone, not of tables or versions.
pub mod Depths
