-- When an end has ended: the call that ends it has replied.
use Rattle.std.specs.Prelude.{Bool, ◌&&◌, List}
use Rattle.std.specs.List.{list_any}
use Rattle.oneshot_machine.specs.declared.machine.Reply.TheVariants as R
use Rattle.oneshot_world.specs.Calls.{Call}
use Rattle.oneshot_laws.specs.Entries.{only_if, is_reply}
use Rattle.oneshot_laws.specs.Actions.{is_end_of_sender, is_end_of_receiver, is_end_of_error}
use Rattle.oneshot_laws.specs.Marks.{Mark, ends}

abbrev pub has_answered : (Call → Bool) → List Mark → Bool
has_answered test ms = list_any (λ m. ends m && test m.call) ms

abbrev pub is_refused : List Mark → Bool
is_refused ms = list_any (λ m. is_reply R.Refused m.entry.reply) ms

-- both ends have ended, and the error too if there is one
abbrev pub all_ended : List Mark → Bool
all_ended ms =
    has_answered is_end_of_sender ms
    && has_answered is_end_of_receiver ms
    && only_if (is_refused ms) (has_answered is_end_of_error ms)
