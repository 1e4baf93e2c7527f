pub mod Files
pub mod Folder
pub mod Troubles
pub mod ProjectFiles
