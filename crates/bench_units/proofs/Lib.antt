mod Following
mod UnitLemmas
