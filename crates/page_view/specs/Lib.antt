pub mod Finding
pub mod Taking
