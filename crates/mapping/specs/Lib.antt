-- The mapping list: one mapping, lookup and the place of a new one, the rules of the list, how the list changes, what one look at it tells, the facts
-- that the laws state, what the order means, lent records, and batches.
pub mod Entry
pub mod Lookup
pub mod Rules
pub mod Change
pub mod Look
pub mod Facts
pub mod Theorems
pub mod Lent
pub mod Batch
