-- The laws of a step, and of the kinds of steps.
pub mod Making
pub mod StepKinds
