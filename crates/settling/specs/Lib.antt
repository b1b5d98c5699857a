pub mod Plans
pub mod Watching
pub mod Folded
pub mod Asleep
pub mod Settles
