mod Telling
mod Apart
mod Lines
mod LinesRead
mod JournalsRead
mod JudgedLegal
mod Exists
mod Entries
mod OneComparison
mod OneAnswer
mod DocumentLimits
mod SomeVerdict
mod SomeRows
mod SomeExplanation
mod SomeComparison
mod SomeAnswer
pub mod CleanRuns
pub mod Rows
pub mod Checked
