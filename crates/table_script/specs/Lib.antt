pub mod Tables
pub mod TableDrafts
pub mod TableRules
pub mod TableTexts
pub mod TableSteps
