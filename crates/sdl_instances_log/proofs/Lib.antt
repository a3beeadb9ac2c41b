mod Counting
mod Rows
