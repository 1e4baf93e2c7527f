pub mod RosterFiles
