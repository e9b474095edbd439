-- Proofs of the goals that `what_a_receiver_leaves_is_there` leaves.
use Rattle.oneshot_values.proofs.FirstFound.{sends_by_first_word}
use Rattle.oneshot_values.proofs.LeftReceivers.{leaving_words_are_there, lost_receivers_were_dropped}
use Rattle.oneshot_values.proofs.both_ends.what_a_receiver_leaves_is_there.Goals as goal

pub returns-clause-word : goal.returns-clause-word
returns-clause-word g c = leaving_words_are_there g.P.Promise.keeps

pub returns-clause-replies : goal.returns-clause-replies
returns-clause-replies g c = sends_by_first_word

pub returns-clause-dropped : goal.returns-clause-dropped
returns-clause-dropped g c = lost_receivers_were_dropped g.P.Promise.keeps
