-- One reply fixes later ones: gone after the message or after closed, refused once the receiver is gone.
use Rattle.oneshot_laws.proofs.Names.{Bool, ◌&&◌, Some, refl, Reply, Call, only_if, is_reply, is_receive, is_send, is_sender_look, is_closed_look, agrees, is_gone_after_got, is_gone_after_closed}
use Rattle.oneshot_laws.proofs.Names.{is_refused_after_closed}
use Rattle.oneshot_machine.specs.declared.machine.Reply.TheVariants as R
use Rattle.oneshot_laws.proofs.PastLaws.{Law, Nameless, nameless_of, Passed}
use Rattle.oneshot_laws.proofs.PastViews.{PastView}
use Rattle.oneshot_laws.proofs.MarksAfterEach.{ever_law, ever_after}
use Rattle.oneshot_laws.proofs.ProductRuns.{EachRun}

-- a call with this reply, and a call that has this reply if it replies
abbrev pub replied : (Call → Bool) → Reply → PastView → Bool
replied test reply g = test g.call && is_reply reply g.entry.reply

abbrev pub replies_only : (Call → Bool) → Reply → PastView → Bool
replies_only test reply g = only_if (test g.call) (agrees g.entry.reply (Some reply))

-- gone once the message was received
abbrev has_got : PastView → Bool
has_got = replied is_receive R.Message

abbrev gone : PastView → Bool
gone = replies_only is_receive R.Disconnected

abbrev pub got_law : Law Bool
got_law = ever_law has_got gone

got_nameless : Nameless got_law
got_nameless = nameless_of got_law refl (λ k n g. (refl, refl)) (λ n g a b. (refl, refl))

pub gone_after_got : {T : Type 0} → Passed got_law T → EachRun T is_gone_after_got
gone_after_got = ever_after has_got gone got_nameless

-- gone, and closed, once closed
abbrev has_closed : PastView → Bool
has_closed = replied is_closed_look R.Yes

abbrev stays_closed : PastView → Bool
stays_closed g = gone g && replies_only is_closed_look R.Yes g

abbrev pub closed_law : Law Bool
closed_law = ever_law has_closed stays_closed

closed_nameless : Nameless closed_law
closed_nameless = nameless_of closed_law refl (λ k n g. (refl, refl)) (λ n g a b. (refl, refl))

pub gone_after_closed : {T : Type 0} → Passed closed_law T → EachRun T is_gone_after_closed
gone_after_closed = ever_after has_closed stays_closed closed_nameless

-- refused once the receiver was gone
abbrev receiver_gone : PastView → Bool
receiver_gone = replied is_sender_look R.Yes

abbrev is_refused_after : PastView → Bool
is_refused_after = replies_only is_send R.Refused

abbrev pub refused_law : Law Bool
refused_law = ever_law receiver_gone is_refused_after

refused_nameless : Nameless refused_law
refused_nameless = nameless_of refused_law refl (λ k n g. (refl, refl)) (λ n g a b. (refl, refl))

pub refused_after_closed : {T : Type 0} → Passed refused_law T → EachRun T is_refused_after_closed
refused_after_closed = ever_after receiver_gone is_refused_after refused_nameless
