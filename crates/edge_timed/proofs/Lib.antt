pub mod TimedLaws
