mod Examples
mod NumberLemmas
mod FrontLemmas
mod PieceLemmas
mod WordLemmas
mod ShortLemmas
