-- Laws by which the calls that begin are proved: whose bounds they are judged by, how open fills the tables,
-- and how what is promised adds up.
pub mod Grants
pub mod Fills
pub mod Together
