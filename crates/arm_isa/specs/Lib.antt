pub mod Classes
pub mod Conditions
pub mod Decoding
pub mod Fields
pub mod Guarantees
pub mod Opcodes
pub mod Ranges
pub mod Writes
