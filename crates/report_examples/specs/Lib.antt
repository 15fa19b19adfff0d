pub mod Samples
pub mod Spoilt
pub mod ScanSamples
pub mod Bytes
