pub mod Views
pub mod Equalities
pub mod Remainders
pub mod Alike
pub mod Texts
pub mod Places
pub mod Lists
