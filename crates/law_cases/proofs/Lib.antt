pub mod Decide
pub mod Forms
pub mod Clauses
pub mod ReadClauses
pub mod Verdicts
pub mod ToldAt
pub mod Consequences
