-- The laws of the loops over messages and over components.
mod Delivering
mod Unparking
