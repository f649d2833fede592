pub mod FolderLends
pub mod Folders
pub mod Greetings
pub mod Names
pub mod Opened
