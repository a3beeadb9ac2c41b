mod Packing
mod Rows
