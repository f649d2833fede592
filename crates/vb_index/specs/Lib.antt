pub mod Changes
pub mod Contents
pub mod Heights
pub mod Indexes
pub mod Listings
pub mod Moves
pub mod Nodes
pub mod Tables
