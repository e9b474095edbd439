-- The sequential channel as an object: its state, what its steps do, and their answers, without words or positions.
use Rattle.std.specs.Prelude.{ℕ, Bool, true, false, not, ◌&&◌, ◌==◌, if◌then◌else◌}

-- Nothing sent yet, the message, or closed for good. The only message is that of the sender's script, so
-- `Full` does not name it.
pub data Content : Type 0 where
  Open : Content
  Full : Content
  Closed : Content

pub record Object : Type 0 where
  pub content : Content
  pub sender_here : Bool
  pub receiver_here : Bool

abbrev pub new_object : Object
new_object = record { content = Open; sender_here = true; receiver_here = true }

abbrev pub is_open_content : Content → Bool
is_open_content Open = true
is_open_content _ = false

abbrev pub is_full_content : Content → Bool
is_full_content Full = true
is_full_content _ = false

abbrev pub is_closed_content : Content → Bool
is_closed_content Closed = true
is_closed_content _ = false

-- the object's steps
pub data Action : Type 0 where
  Send : Action
  Sender_gone : Action
  Take : Action
  -- the receiver's last step: it takes, and is gone
  Take_and_go : Action
  Look_full : Action
  Look_closed : Action
  Look_receiver_gone : Action
  Receiver_gone : Action

-- the content once its message is taken or dropped, and once the sender is gone
abbrev pub without_message : Content → Content
without_message Open = Open
without_message Full = Closed
without_message Closed = Closed

abbrev pub without_sender : Content → Content
without_sender Open = Closed
without_sender Full = Full
without_sender Closed = Closed

-- a send that is refused leaves the content as it is
abbrev pub object_after : Action → Object → Object
object_after Send o = record o { content = if o.receiver_here then Full else o.content; sender_here = false }
object_after Sender_gone o = record o { content = without_sender o.content; sender_here = false }
object_after Take o = record o { content = without_message o.content }
object_after Take_and_go o = record o { content = without_message o.content; receiver_here = false }
object_after Look_full o = o
object_after Look_closed o = o
object_after Look_receiver_gone o = o
object_after Receiver_gone o = record o { content = without_message o.content; receiver_here = false }

pub data Answer : Type 0 where
  Accepted : Answer
  Returned : Answer
  Message : Answer
  Gone : Answer
  Nothing_yet : Answer
  Yes : Answer
  No : Answer
  Finished : Answer

abbrev pub taken_from : Content → Answer
taken_from Open = Nothing_yet
taken_from Full = Message
taken_from Closed = Gone

abbrev pub yes_if : Bool → Answer
yes_if true = Yes
yes_if false = No

abbrev pub answer_of : Action → Object → Answer
answer_of Send o = if o.receiver_here then Accepted else Returned
answer_of Sender_gone o = Finished
answer_of Take o = taken_from o.content
answer_of Take_and_go o = taken_from o.content
answer_of Look_full o = yes_if (is_full_content o.content)
answer_of Look_closed o = yes_if (is_closed_content o.content)
answer_of Look_receiver_gone o = yes_if (not o.receiver_here)
answer_of Receiver_gone o = Finished

-- two objects are the same if their contents and both flags are
abbrev pub content_code : Content → ℕ
content_code Open = 0
content_code Full = 1
content_code Closed = 2

abbrev pub is_same_flag : Bool → Bool → Bool
is_same_flag true b = b
is_same_flag false b = not b

abbrev pub is_same_object : Object → Object → Bool
is_same_object o p =
    content_code o.content == content_code p.content
    && (is_same_flag o.sender_here p.sender_here && is_same_flag o.receiver_here p.receiver_here)
