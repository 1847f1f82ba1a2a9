pub mod PlaceLemmas
pub mod RoomLemmas
pub mod RowChanges
