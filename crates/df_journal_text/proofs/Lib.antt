mod Names
pub mod Stopped
pub mod Appends
pub mod Orders
pub mod Loops
pub mod Words
pub mod Units
pub mod WordBacks
pub mod NameBacks
pub mod CallBacks
pub mod Founds
pub mod Between
pub mod KnownLabels
pub mod CallFounds
pub mod ValueTells
pub mod CallTells
pub mod Frames
pub mod Wholes
pub mod LineTells
pub mod ReplyBacks
pub mod ReplyFounds
pub mod StartBacks
pub mod EntryBacks
pub mod JournalBacks
mod Quiet
