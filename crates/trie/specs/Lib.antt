-- The definitions of the tree, in the order in which they are to be read: from sizes and tables to the three calls.
-- Last come lists of calls, as the soundings run them; laws and soundings stand in proofs/.
pub mod Choice
pub mod Size
pub mod Tables
pub mod Refusing
pub mod Sound
pub mod Record
pub mod Values
pub mod Opening
pub mod Starting
pub mod Leaf
pub mod Refreshing
pub mod Asking
pub mod Stepping
pub mod Calls
pub mod Runs
