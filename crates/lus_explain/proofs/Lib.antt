pub mod Left
pub mod EndLaws
pub mod NodePlaces
pub mod Statuses
