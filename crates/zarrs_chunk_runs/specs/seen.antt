pub mod Comparisons
pub mod Place
pub mod RunEdges
pub mod RunningSums
