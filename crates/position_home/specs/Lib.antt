pub mod Homed
