-- What a caller of `insert` and `remove` learns of an accepted answer: what a line of the counter has room for, and what stands in the lent buffer.
pub use Rattle.layout.proofs.Inserted.{insert-says}
pub use Rattle.layout.proofs.Gone.{TakenOut, remove-says}
