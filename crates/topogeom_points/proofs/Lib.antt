pub mod Levels
pub mod Found
pub mod Elements
pub mod FeatureComes
pub mod FeatureGoes
