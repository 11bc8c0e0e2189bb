pub mod EndOnce
