-- The manager's laws and theorems.
pub mod Laws
pub mod BatchLaws
pub mod LentItems
pub mod Singly
pub mod Parts
pub mod CauseLaws
pub mod PlanLaws
pub mod RecordLaws
pub mod AcceptedLaws
pub mod KeepsRules
pub mod Passing
pub mod FirstRefusal
pub mod RefusalOrder
pub mod ProtectionBuffer
pub mod Theorems
