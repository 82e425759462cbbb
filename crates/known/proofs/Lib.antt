pub mod KnownBits
