pub mod Time
pub mod Order
pub mod Rounded
pub mod Apart
pub mod Answers
pub mod Examples
