pub mod Products
pub mod Registers
pub mod Shifts
pub mod Sums
