pub mod EntryLaws
pub mod Exact
pub mod FieldLaws
pub mod PeopleLoop
pub mod SlugLemmas
pub mod Utf8Lemmas
