pub mod Parameters
pub mod SiteLaws
pub mod Laws
