pub mod Totals
mod Views
mod Keeping
mod Making
mod Sat
mod Books
