-- What the tests of a record say of it, and then the laws by which they are proved:
-- the path above a leaf, by the zeros in front of its numbers, and an update's level.
pub mod Tests
pub mod Zeros
pub mod Paths
pub mod Levels
