pub mod PairsOut
