pub mod BoundMaps
pub mod Lists
pub mod Sets
