-- What the proofs of several functions use: messages parked, put out, and both.
mod Parking
mod Putting
mod Hands
