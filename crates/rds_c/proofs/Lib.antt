mod AsBox
mod Done
