pub mod Sound
pub mod Complete
pub mod Repeats
pub mod SoundDeclarations
pub mod CompleteDeclarations
pub mod Examples
