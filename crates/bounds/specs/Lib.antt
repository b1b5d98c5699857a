pub mod Boards
pub mod Cells
pub mod Laws
pub mod Exact
pub mod Scoped
pub mod Listed
pub mod Beside
pub mod Theorems
