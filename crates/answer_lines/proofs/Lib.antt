pub mod AnswerForms
