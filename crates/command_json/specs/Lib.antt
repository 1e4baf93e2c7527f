pub mod Bodies
pub mod BodyFields
pub mod BodyForms
pub mod Spellings
