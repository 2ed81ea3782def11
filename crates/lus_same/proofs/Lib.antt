mod Counting
mod Examples
mod Numbering
