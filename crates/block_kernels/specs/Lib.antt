pub mod Kernels
pub mod Lanes
pub mod Laws
