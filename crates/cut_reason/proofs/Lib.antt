pub mod Shorter
pub mod Words
pub mod Numbers
pub mod Fragments
pub mod CutLine
pub mod CutPlace
pub mod CutText
