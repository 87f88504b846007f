mod ReportLemmas
mod SetLemmas
mod SameLemmas
mod LidLemmas
mod JudgedLemmas
