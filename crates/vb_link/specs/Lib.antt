pub mod Views
pub mod Links
pub mod Memory
pub mod Props
pub mod Valid
