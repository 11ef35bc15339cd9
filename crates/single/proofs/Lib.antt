-- The law by which the proof of one record's step ends:
-- its bounds are within those of the greatest tree.
pub mod Heights
