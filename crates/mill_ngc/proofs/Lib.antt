mod Feeds
mod LineLemmas
mod Ways
mod Goings
mod MachineWays
pub mod Follows
mod ProgramLemmas
mod PieceLemmas
mod ShownLemmas
pub mod JoinLemmas
pub mod WholeText
pub mod MoveLines
mod Heads
mod MachineMoves
mod TextLemmas
mod Cutting
mod Numerals
mod Moves
mod LineEnds
mod Ends
mod WalkLemmas
pub mod TextProgram
pub mod RealProgram
