pub mod CalendarReads
