pub mod CalendarFields
