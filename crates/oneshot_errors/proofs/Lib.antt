-- The proof of the law of `src/laws.rt`.
-- `Equality` proves that the first and the second variant of an enum write different numbers into a hasher.
-- The file `Answers` of the law goes through the pairs of values of each error, and cites it.
mod Equality
