pub mod Taken
pub mod Answering
pub mod Blaming
pub mod Serving
pub mod Storing
pub mod Planning
pub mod Stocks
pub mod Rests
pub mod Samples
pub mod Lengths
pub mod Outcomes
pub mod Headlines
pub mod Named
pub mod Triangles
pub mod Fixtures
pub mod OneAnswers
mod SampleParts
