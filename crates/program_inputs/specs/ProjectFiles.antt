pub mod ProjectFiles
