-- what room decides, over two memories
pub mod Fates
-- one read over two memories
pub mod OneRead
-- C-18 over the definitions
pub mod MoreRoom
-- C-18 at the C boundary
pub mod Boundary
-- the request's example, computed
pub mod Cases
