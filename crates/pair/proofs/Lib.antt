pub mod PairCalls
