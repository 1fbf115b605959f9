mod BackLemmas
mod HighLemmas
mod HoldLemmas
mod MovedLemmas
mod PairLemmas
mod PosedLemmas
mod RaiseLemmas
mod StartLemmas
