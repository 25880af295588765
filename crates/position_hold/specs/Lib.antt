-- Position hold: a fix and its judgement, a look at the position, its refusals and what it draws, what transfers last sent, the skipper's theorems, and
-- demand 3 with looks among the calls.
pub mod Fix
pub mod Look
pub mod Sent
pub mod Refusals
pub mod Drawing
pub mod Theorems
pub mod Demand3
pub mod Rows
pub mod LookRows
