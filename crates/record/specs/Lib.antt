pub mod StepRecords
pub mod AnswerRecords
pub mod ReadAnswers
pub mod OrderRecords
pub mod ReadOrders
pub mod All
