-- The third demand, in the order in which it is to be read: the statement.
-- Its proof stands in proofs/.
pub mod Lists
pub mod Book
pub mod Arrivals
pub mod Put
pub mod Order
pub mod Histories
pub mod Theorem
