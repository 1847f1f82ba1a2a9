pub mod Subdivided
