mod Listing
mod Rows
