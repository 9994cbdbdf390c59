-- A clock in decimal: what it is, and that it is the nearest.
pub mod Decimal
pub mod Rounding
pub mod Laws
pub mod Examples
