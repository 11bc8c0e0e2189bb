pub mod Answer
pub mod Document
pub mod Output
pub mod Run
pub mod RunFault
