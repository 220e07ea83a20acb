mod ComingForms
mod ComingValues
