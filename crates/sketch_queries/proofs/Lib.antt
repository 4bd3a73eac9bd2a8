pub mod AuditCases
pub mod BucketLaws
pub mod HighestLaws
