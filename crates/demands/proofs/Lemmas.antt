-- Laws of the model's parts that the theorems stand on.
pub mod Streams
pub mod Traces
pub mod Frames
pub mod Stops
pub mod Ways
pub mod Moves
pub mod Writes
pub mod Printing
pub mod Making
pub mod Adding
pub mod Later
pub mod Keeping
pub mod Told
pub mod Blocks
