pub mod JoinLemmas
pub mod KeptLemmas
pub mod RunLemmas
pub mod PutLemmas
pub mod MapLemmas
