pub mod ConditionLines
