pub mod ChunksChanged
pub mod Kept
pub mod OutsideBoxes
pub mod ResizeLaws
