pub mod Faults
pub mod FileShelf
pub mod MemoryShelf
pub mod MemorySink
pub mod OutSink
pub mod Shelf
pub mod Sink
pub mod Streams
