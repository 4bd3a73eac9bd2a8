pub mod RecordingCases
pub mod RecordingLoop
pub mod CrossingPass
