pub mod Acts
pub mod Queued
