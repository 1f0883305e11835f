pub mod Tables
mod Adding
