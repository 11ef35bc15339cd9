-- The parts of the calls that only this crate defines: what is promised, and open, cut where the board comes in.
-- Laws about them stand in proofs/, and there too that each contract leaves one answer.
pub mod Promising
pub mod Opening
