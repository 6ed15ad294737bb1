pub mod Actors
pub mod AnswersFacts
