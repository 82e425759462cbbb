pub mod Count
pub mod Image
