-- What the contracts of `simulation` cite, and the laws of it.
pub mod Answers
pub mod Values
pub mod CallLaws
pub mod ValueLaws
