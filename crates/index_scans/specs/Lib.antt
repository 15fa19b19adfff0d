pub mod FirstLeaves
pub mod ScanSteps
pub mod Scans
