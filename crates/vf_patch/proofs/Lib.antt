mod SortedLemmas
mod FrontLemmas
mod PatchLemmas
mod ChangeLemmas
mod FilterLemmas
