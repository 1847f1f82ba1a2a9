pub mod Referenced
