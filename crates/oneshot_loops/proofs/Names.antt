-- A table finds each loop and each channel by its own name, and by no other.
use Rattle.std.proofs.Common.{◌≡◌, ℕ, List, [], ◌∷◌, Option, Some, Bool, true, false, cond, refl, sym, ap, ◌∙◌}
use Rattle.std.specs.Cmp.Lexicographic.{same_text}
use Rattle.std.specs.List.{find}
use Rattle.std.specs.Str.{bytes_eq}
use Rattle.oneshot_loops.specs.declared.channels.Channel.{Channel}
use Rattle.oneshot_loops.specs.declared.channels.Channel.TheVariants.{Oneshot, Futures, Crossbeam}
use Rattle.oneshot_loops.specs.declared.channels.TheConstants.{CHANNELS}
use Rattle.oneshot_loops.specs.declared.loops.Awaited.TheVariants.{MakeSendBlockOn, MakeSendAwait, PollPending, RoundTripAwait}
use Rattle.oneshot_loops.specs.declared.loops.Loop.{Loop}
use Rattle.oneshot_loops.specs.declared.loops.Loop.TheVariants.{MakeSendReceiveDrop, MakeDrop, MakeSendRecv, MakePollSendPoll, MakeSendReceiveDropLarge}
use Rattle.oneshot_loops.specs.declared.loops.Loop.TheVariants.{RoundTrip, Awaited}
use Rattle.oneshot_loops.specs.declared.loops.TheConstants.{LOOPS}
use Rattle.oneshot_loops.specs.Channel.{channel_name}
use Rattle.oneshot_loops.specs.Loop.{name_of}

abbrev pub loop_named : List ℕ → Option Loop
loop_named name = find (λ kind. bytes_eq (name_of kind) name) LOOPS

loop_named-name : (kind : Loop) → loop_named (name_of kind) ≡ Some kind
loop_named-name MakeSendReceiveDrop = refl
loop_named-name MakeDrop = refl
loop_named-name MakeSendRecv = refl
loop_named-name MakePollSendPoll = refl
loop_named-name MakeSendReceiveDropLarge = refl
loop_named-name RoundTrip = refl
loop_named-name (Awaited MakeSendBlockOn) = refl
loop_named-name (Awaited MakeSendAwait) = refl
loop_named-name (Awaited PollPending) = refl
loop_named-name (Awaited RoundTripAwait) = refl

abbrev pub channel_named : List ℕ → Option Channel
channel_named name = find (λ channel. bytes_eq (channel_name channel) name) CHANNELS

channel_named-name : (channel : Channel) → channel_named (channel_name channel) ≡ Some channel
channel_named-name Oneshot = refl
channel_named-name Futures = refl
channel_named-name Crossbeam = refl

-- the step of `find-passes`, by the test of the first element
first_found : {X : Type 0} (test : X → Bool) (first : X) (rest : Option X) (b : Bool) (x : X)
    → test first ≡ b → cond b (Some first) rest ≡ Some x → (rest ≡ Some x → test x ≡ true) → test x ≡ true
first_found test first rest true x passes is later = let same : first ≡ x = cc in ap test (sym same) ∙ passes
first_found test first rest false x fails is later = later is

-- what `find` returns passes the test
find-passes : {X : Type 0} (test : X → Bool) (xs : List X) (x : X) → find test xs ≡ Some x → test x ≡ true
find-passes test [] x is = absurd cc
find-passes test (first ∷ rest) x is =
    first_found test first (find test rest) (test first) x refl is (find-passes test rest x)

pub loop_named-finds : (kind : Loop) (name : List ℕ) → name_of kind ≡ name → loop_named name ≡ Some kind
loop_named-finds kind name is = rw (← is) (loop_named-name kind)

pub loop_named-found : (kind : Loop) (name : List ℕ) → loop_named name ≡ Some kind → name_of kind ≡ name
loop_named-found kind name is =
    same_text (name_of kind) name (sym (find-passes (λ kind. bytes_eq (name_of kind) name) LOOPS kind is))

pub channel_named-finds : (channel : Channel) (name : List ℕ) → channel_name channel ≡ name
    → channel_named name ≡ Some channel
channel_named-finds channel name is = rw (← is) (channel_named-name channel)

pub channel_named-found : (channel : Channel) (name : List ℕ) → channel_named name ≡ Some channel
    → channel_name channel ≡ name
channel_named-found channel name is =
    same_text (channel_name channel) name
    (sym (find-passes (λ channel. bytes_eq (channel_name channel) name) CHANNELS channel is))
