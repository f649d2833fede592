pub mod Machine
pub mod Pages
pub mod Published
pub mod Rising
pub mod Stored
pub mod Valid
