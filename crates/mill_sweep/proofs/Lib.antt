mod LeafCerts
mod OuterCerts
mod Spans
mod Outer
pub mod Lifting
mod Depths
pub mod Halves
mod Narrow
pub mod Lower
mod Computed
mod Rows
pub mod Far
mod ApartCerts
mod Boxes
pub mod ByKind
pub mod OutOfReach
mod Sides
mod Rest
mod Roots
mod Besides
mod Placing
mod Firsts
mod Segments
mod Blocking
pub mod Passing
mod UnscaledCerts
mod Unscaled
pub mod Vertical
pub mod Solids
