pub mod Givings
