pub mod PointsStay
pub mod FirstAlone
