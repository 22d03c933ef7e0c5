pub mod OnLines
pub mod Moments
mod Untrue
mod Struck
mod More
