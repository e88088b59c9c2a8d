pub mod PairLaws
pub mod KindLaws
pub mod StoredLaws
pub mod GrownLaws
