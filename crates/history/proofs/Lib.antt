-- The proof of the third demand, from the machine to the calls.
-- First stands that the statement says what the page says, and last that it is not about nothing.
-- that it says what the page says
pub mod PageWords
-- the machine, and the facts that every step keeps
pub mod ListLaws
pub mod Nodes
pub mod PutLaws
pub mod Numbers
pub mod Machine
pub mod Replay
pub mod Invariant
pub mod Depicting
pub mod Growth
pub mod Building
pub mod AtLeaf
pub mod LeafSwap
pub mod Once
pub mod Refreshes
pub mod RefreshSwap
pub mod Kept
pub mod Counted
-- the tables show the machine, and a query answers from the book
pub mod View
pub mod Viewed
pub mod Whole
pub mod Shows
pub mod Judged
pub mod Drawn
pub mod Passes
pub mod Simulation
pub mod Turned
pub mod Walks
pub mod Walking
pub mod Asked
pub mod Beneath
pub mod Opens
pub mod Promise
pub mod Starts
-- a moment of a history and the machine belong together
pub mod Chronicle
pub mod Placing
pub mod Following
pub mod UnderWay
pub mod Tied
pub mod TiedCalls
pub mod UpdateSteps
pub mod QuerySteps
pub mod StepCalls
pub mod StartCalls
pub mod OrderGrows
pub mod OwnSteps
pub mod EveryHistory
-- that it is not empty
pub mod Soundings
pub mod Starred
