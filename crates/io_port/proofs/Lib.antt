pub mod Calls
mod Files
mod ReadLemmas
mod RealFiles
