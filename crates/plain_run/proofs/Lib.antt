mod Others
mod Lines
mod Before
mod Picks
mod Polls
