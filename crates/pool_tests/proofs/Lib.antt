pub mod HiredLemmas
