pub mod Names
pub mod Judged
pub mod JudgedNoted
