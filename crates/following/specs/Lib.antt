pub mod RecordNumbers
pub mod Following
pub mod FollowProgram
pub mod Steps
