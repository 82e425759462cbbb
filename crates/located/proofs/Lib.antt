pub mod SiteLaws
pub mod Sites
