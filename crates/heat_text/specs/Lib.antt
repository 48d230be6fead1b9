pub mod Heat
