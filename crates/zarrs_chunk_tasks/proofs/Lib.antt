mod Buffers
mod CheapestChoices
mod ChosenStages
mod ChosenTasks
mod CountsOfEach
mod GroupBoxes
mod GroupCounts
mod GroupSizes
mod EqualSteps
mod ExactStages
mod FewPieces
mod Grouped
mod LargestChunk
mod LeastCost
mod LeastReads
mod LeastStage
mod OneGrid
mod RegularSums
mod Sharing
mod SideCounts
pub mod PlannedTasks
mod SomeTasks
mod SumsAlong
mod TaskCounts
mod TaskLaws
pub mod TasksBegun
mod TaskParts
pub mod TaskPlans
mod ThinnedRows
mod TriedEdges
mod TriedSizes
mod TwoStages
pub mod WalkedTasks
mod WholeChunks
