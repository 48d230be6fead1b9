mod Noting
mod Undone
