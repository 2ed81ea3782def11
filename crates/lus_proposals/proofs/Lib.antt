mod Same
mod Steps
mod Examples
mod Readings
