pub mod Ports
pub mod Taken
pub mod HonestPorts
pub mod Sending
pub mod Reading
pub mod OuterPorts
pub mod MemPorts
