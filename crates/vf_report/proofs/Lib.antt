mod WordLemmas
mod LineLemmas
mod DifferenceLemmas
mod SummaryLemmas
mod JournalLemmas
mod FarmLemmas
