pub mod JudgeWork
