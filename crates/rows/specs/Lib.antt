pub mod Row
pub mod WeightFits
