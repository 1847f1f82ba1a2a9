pub mod Renamed
pub mod Joined
pub mod HealWrites
pub mod NewHeal
pub mod Healing
pub mod HealLaw
