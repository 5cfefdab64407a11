-- What private functions cite alone: a program has no public call.
pub mod Own
