mod Entries
mod Groups
mod Headers
mod Numbers
mod Once
