-- What the contracts of `parked_rows` cite.
pub mod Parking
