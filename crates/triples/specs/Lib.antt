pub mod Triples
pub mod Worked
