pub mod NewMounts
pub mod NewStores
