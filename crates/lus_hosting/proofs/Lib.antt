pub mod HostLaws
pub mod TurnLaws
pub mod AnswerLaws
pub mod WordLaws
pub mod AuditLaws
pub mod FindingLaws
pub mod FoundLaws
pub mod ObservedLaws
pub mod CallLaws
pub mod JoinLaws
pub mod RecoveryLaws
pub use Rattle.lus_live_instance.proofs as LiveProofs
pub use Rattle.lus_lawful.proofs as LawfulProofs
