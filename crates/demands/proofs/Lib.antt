-- The demands, each in a file of its own; their statements are in specs/.
pub mod Lemmas
-- the twelve bench cases marked P, a slip that tempts, and blocks in which later names start afresh (C-11)
pub mod Bench
-- demand 1: a refused call alters nothing, but for a whole block's steps and what 18 keeps (Replays)
pub mod Untouched
-- each refusal exactly where the words apply
pub mod Refusals
-- "done" and 10
pub mod Done
-- a read that keeps a name adds that name and alters nothing else
pub mod Adds
-- C-11: a name that starts afresh has no earlier name
pub mod Afresh
-- demand 3: any sequence of calls from a fresh start, and that what it keeps is what the words say
pub mod Demand3
-- demand 1 for writing
pub mod Unwritten
-- one outcome only, and the demands of programs that meet the contracts
pub mod Contracts
-- C-22: what a replay comes to, and the table it leaves, at the C boundary too
pub mod Replays
-- demands 1 and 3 and C-11 at the C boundary, and what a number tells there
pub mod Boundary
