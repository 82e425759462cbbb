pub mod CountLaws
pub mod ImageLaws
pub mod PlainLaws
pub mod Use
