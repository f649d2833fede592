pub mod Numbers
pub mod Rule
pub mod Steps
pub mod Seating
pub mod Rows
pub mod Turns
pub mod Books
