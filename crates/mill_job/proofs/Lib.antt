mod AllKeys
mod Falling
pub mod Faults
mod Holding
mod InOrder
mod Meaning
pub mod NoSlack
mod NoUnit
mod Numbers
pub mod OneAnswer
pub mod Room
pub mod SolidFacts
pub mod WithCutter
mod Stored
mod UnknownKeys
mod Blanks
mod Under
pub mod Boxes
mod StepFaults
mod InTurn
mod ListMeaning
pub mod OneList
