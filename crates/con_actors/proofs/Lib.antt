-- A client's handlers, and a desk as a door.
pub mod ChainLaws
pub mod HandsLaws
pub mod Doors
