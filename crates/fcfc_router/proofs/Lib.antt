pub mod BitLemmas
pub mod CountLaws
pub mod OrderLaws
pub mod TreeLemmas
pub mod ShownLemmas
pub mod OneGrant
pub mod AskedLaws
