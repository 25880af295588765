-- What is demanded of every call of the machine, and of every list of calls; the manager's calls beside them.
pub mod Demands
pub mod Manager
pub mod Protected
pub mod Lines
