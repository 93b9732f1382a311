pub mod InSets
