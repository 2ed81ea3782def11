pub mod Lists
pub mod Expressions
pub mod Declarations
pub mod Reading
pub mod ReadingDeclarations
