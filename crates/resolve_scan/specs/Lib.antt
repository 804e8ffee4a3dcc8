-- What the scan that resolves statements promises.
pub mod Post
