-- How the code mends, and what it answers and leaves, computed.
pub mod Laying
pub mod Passing
pub mod Rooms
pub mod Cases
