pub mod RunLemmas
pub mod StepLemmas
pub mod ImageLemmas
pub mod ForkLemmas
pub mod BaseLemmas
pub mod CountLemmas
pub mod OwnLemmas
pub mod CallerLemmas
