pub mod RelocationOut
