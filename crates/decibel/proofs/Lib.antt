-- The laws that other crates may use, and then how a table of many entries is proved at once:
-- a test of every entry, computed, and the test that this crate's table passes.
pub mod Laws
pub mod Table
pub mod Entries
