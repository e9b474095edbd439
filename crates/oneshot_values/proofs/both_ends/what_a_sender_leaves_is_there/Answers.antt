-- Proofs of the goals that `what_a_sender_leaves_is_there` leaves.
use Rattle.oneshot_values.proofs.EndedSenders.{open_receivers_seek, last_words_are_there, sent_messages_are_there}
use Rattle.oneshot_values.proofs.FirstFound.{receives_by_first_word}
use Rattle.oneshot_values.proofs.ToldEnds.{found_messages_were_sent, lost_senders_were_dropped}
use Rattle.oneshot_values.proofs.both_ends.what_a_sender_leaves_is_there.Goals as goal

pub returns-clause-word : goal.returns-clause-word
returns-clause-word g c = last_words_are_there g.P.Promise.keeps

pub returns-clause-message : goal.returns-clause-message
returns-clause-message g c = sent_messages_are_there g.P.Promise.keeps

pub returns-clause-open : goal.returns-clause-open
returns-clause-open g c = open_receivers_seek

pub returns-clause-replies : goal.returns-clause-replies
returns-clause-replies g c = receives_by_first_word

pub returns-clause-sent : goal.returns-clause-sent
returns-clause-sent g c = found_messages_were_sent g.P.Promise.keeps

pub returns-clause-dropped : goal.returns-clause-dropped
returns-clause-dropped g c = lost_senders_were_dropped g.P.Promise.keeps
