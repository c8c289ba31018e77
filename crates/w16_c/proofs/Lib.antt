pub mod Common
pub mod Words
pub mod ReplyKinds
pub mod Loans
mod Roomless
