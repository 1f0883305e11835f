pub mod Plan
pub mod Staff
pub mod Agenda
pub mod Simulation
