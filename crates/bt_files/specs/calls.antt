pub mod Ending
pub mod Logged
pub mod Message
pub mod Opened
pub mod RealFiles
pub mod StandIns
