pub mod KeptSizes
