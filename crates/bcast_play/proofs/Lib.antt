mod Batches
mod Lines
