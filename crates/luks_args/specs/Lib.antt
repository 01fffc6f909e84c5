pub mod Command
pub mod Grammar
