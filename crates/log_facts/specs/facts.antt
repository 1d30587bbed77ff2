-- What the states of nodes say of each other, by whom it speaks of.
pub mod OfViews
pub mod OfHistory
pub mod OfLine
pub mod OfSeqs
pub mod OfShards
pub mod OfData
pub mod OfClients
pub mod OfReads
