-- Proofs of the goals that `a_token_is_given_once_and_then_taken` leaves.
use Rattle.oneshot_ends.proofs.NoLostWakeup.{stays_there}
use Rattle.oneshot_ends.proofs.TokenLives.{lives_lead_to_states, tokens_are_given_once}
use Rattle.oneshot_ends.proofs.Tokens.{has_one_waking_half}
use Rattle.oneshot_ends.proofs.laws.a_token_is_given_once_and_then_taken.Goals as goal

pub returns : goal.returns
returns c =
    record {
      states = lives_lead_to_states;
      once = tokens_are_given_once;
      stays = stays_there;
      one_half = has_one_waking_half;
    }
