-- The machine's laws.
pub mod StoreLaws
pub mod MergeLaws
pub mod PlanLaws
pub mod StepLaws
pub mod Opened
pub mod CallLaws
pub mod ItemLaws
pub mod Parts
pub mod Theorems
