-- What the steps on document 01's board ask for.
pub mod Document01
