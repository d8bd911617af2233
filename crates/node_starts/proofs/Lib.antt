pub mod RuleHolds
pub mod OnlyTable
