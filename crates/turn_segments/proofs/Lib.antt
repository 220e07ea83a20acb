pub mod OneKind
