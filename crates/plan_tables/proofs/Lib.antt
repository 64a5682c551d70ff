mod Keyed
mod MemorySizes
mod Spans
mod Taken
