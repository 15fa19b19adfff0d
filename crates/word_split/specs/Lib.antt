pub mod CallWords
pub mod ProgramCommand
