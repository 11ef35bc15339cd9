-- The law of a climb's node:
-- it is small enough for the numbers of its children.
pub mod Nodes
