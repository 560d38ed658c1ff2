-- A text of comma-separated values is a list of records, and each record a list of fields.
pub mod Records
