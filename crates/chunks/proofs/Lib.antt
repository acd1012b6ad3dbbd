pub mod Carrying
pub mod Loading
pub mod ReadAnswers
pub mod RangeAnswers
pub mod WriteAnswers
pub mod Replaying
