pub mod DrawingChanges
pub mod EdgeChanges
pub mod Elements
pub mod FeatureChanges
pub mod Followed
pub mod KnownRows
pub mod LayerChanges
pub mod ReferencesStaying
