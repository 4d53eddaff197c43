pub mod Header
pub mod Trie
pub mod Visits
