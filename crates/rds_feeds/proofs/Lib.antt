mod DotRows
mod Lists
mod MetInTurn
mod Pieces
mod Runs
mod TableKeys
mod Times
