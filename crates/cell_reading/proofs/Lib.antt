pub mod ReadingCalls
