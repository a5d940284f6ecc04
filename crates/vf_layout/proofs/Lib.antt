mod PutLemmas
mod ValueLemmas
mod Parts
mod Holding
mod Blocks
mod Image
mod ValueImage
mod StandingLemmas
mod ChangeLemmas
mod Chained
mod Linked
mod Counts
mod Lists
mod Queueing
mod FutureLemmas
mod FewLemmas
mod SoundLemmas
pub mod CallerLemmas
