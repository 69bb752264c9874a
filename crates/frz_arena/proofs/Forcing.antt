-- What a win says of chess.
pub mod WinsForced
pub mod OneForces
pub mod TrueWins
pub mod HoldsSafe
pub mod LawfulGame
pub mod NeverByPositions
pub mod ByPlies
