pub mod NearTops
