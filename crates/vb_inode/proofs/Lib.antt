pub mod Zeros
pub mod RefBytes
pub mod FieldBytes
pub mod Checked
pub mod Decoded
pub mod Written
pub mod PagesRead
pub mod Spelled
