pub mod Plates
pub mod Form
pub mod Work
pub mod Worked
