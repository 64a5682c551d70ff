pub mod Tables
pub mod CellsStand
pub mod Laying
pub mod Steps
pub mod Planned
pub mod Standing
