pub mod Apart
pub mod Behind
pub mod Cuts
pub mod Due
pub mod Lasts
pub mod Positions
pub mod Standing
pub mod Within
