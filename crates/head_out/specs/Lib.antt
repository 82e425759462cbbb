pub mod HeadOut
