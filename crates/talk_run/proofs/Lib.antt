pub mod SpokenLemmas
pub mod ObeyedLemmas
pub mod AnswerLemmas
pub mod StopLemmas
pub mod TalkingLemmas
pub mod EchoLemmas
