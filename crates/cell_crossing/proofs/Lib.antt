pub mod CrossingCalls
