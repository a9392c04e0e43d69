pub mod MovingSum
pub mod MovingSumSound
pub mod Stops
pub mod Layered
pub mod Refused
