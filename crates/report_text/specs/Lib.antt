pub mod Line
pub mod Words
pub mod Printed
pub mod Texts
pub mod Scans
