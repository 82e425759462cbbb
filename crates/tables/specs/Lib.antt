pub mod GroupOne
