-- The laws of sending: a message's words, a loop that sends, and the two such loops.
pub mod Writing
pub mod Sending
pub mod Along
pub mod Outgoing
