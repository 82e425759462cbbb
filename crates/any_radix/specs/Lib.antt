pub mod ReadAny
pub mod PairsAny
pub mod Examples
