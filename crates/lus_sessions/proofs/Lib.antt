pub mod DriveLaws
pub mod JoinLaws
pub mod RecoveryLaws
