mod Columns
mod Compared
