-- What a test of this crate's says in the words of the definitions.
-- The crates above cite it.
pub mod Tests
