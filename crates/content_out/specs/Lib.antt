pub mod ContentOut
