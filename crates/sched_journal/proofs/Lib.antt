pub mod TallyLemmas
pub mod JournalLemmas
pub mod LedgerLemmas
pub mod StoreLemmas
