mod BuildHeld
mod BuildLaws
mod BuildNamed
mod BuildOrder
mod BuildRows
mod BuildTables
pub mod CountMarks
mod FaultAnswers
mod FaultFirst
mod FaultFirsts
mod FaultKnown
mod FaultLines
pub mod FaultLists
mod FaultMacros
pub mod FaultNames
mod FaultParts
mod FaultTold
mod FaultTwice
pub mod FileLines
pub mod FileMacros
pub mod FileParts
pub mod FilePieces
pub mod FileShown
mod SoundAgain
mod SoundChoices
mod SoundCounts
mod SoundFaults
mod SoundFiles
mod SoundFirsts
mod SoundHeld
mod SoundHoldings
mod SoundLaw
mod SoundLines
mod SoundLists
mod SoundMacros
mod SoundMarks
mod SoundNames
mod SoundNumbered
mod SoundOthersClean
mod SoundPlaces
mod SoundRead
mod SoundRelationsAgain
mod SoundRoles
mod SoundRoundTrip
mod SoundRows
mod SoundSizes
mod SoundSpoken
mod SoundSteps
mod SoundTexts
mod SoundTrees
mod SoundTypesAgain
mod SoundTypesClean
mod SoundUntold
mod SoundWords
mod WordLemmas
pub mod Written
pub mod WrittenBreaks
pub mod WrittenChoices
pub mod WrittenLines
pub mod WrittenLists
pub mod WrittenNames
pub mod WrittenPieces
pub mod WrittenReads
pub mod WrittenSections
pub mod WrittenSound
pub mod WrittenTails
pub mod WrittenTexts
