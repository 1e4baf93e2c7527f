pub mod CommandBytes
pub mod CommandReading
pub mod CommandValues
pub mod WritableCommands
