pub mod Boxes
pub mod Frames
pub mod Sizes
pub mod Sorted
pub mod Ahead
pub mod Grids
pub mod Walks
pub mod inner
