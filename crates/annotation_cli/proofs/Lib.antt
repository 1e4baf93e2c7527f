mod FreeLemmas
mod StatusLemmas
