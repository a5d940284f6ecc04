mod NameLemmas
