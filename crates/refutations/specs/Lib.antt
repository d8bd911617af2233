pub mod NotStable
pub mod NotKept
pub mod NotLinearizable
pub mod NotJudged
pub mod NotForeseen
