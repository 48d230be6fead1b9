pub mod StatusSpans
pub mod MarkedRows
pub mod Laws
pub mod Received
