pub mod RoomLemmas
pub mod OwnLemmas
pub mod CompleteLemmas
