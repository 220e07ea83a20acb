pub mod ConditionForms
