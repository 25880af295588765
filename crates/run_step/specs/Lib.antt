-- What the code holds after a step.
pub mod Did
