-- What an iterator over the whole messages of a frame has left.
use Rattle.std.specs.Prelude.{◌≡◌, ℕ, ◌+◌, ◌≤◌, List, length, drop, Option, None, IfSome}
use Rattle.std.specs.Iterator.{YieldsFirstBy}
use Rattle.ecpri_frames.specs.declared.whole.Messages.{Messages}
use Rattle.ecpri_frames.specs.declared.whole.WholeMessage.{WholeMessage}
use Rattle.ecpri_frames.specs.Messages.{Message}
use Rattle.ecpri_frames.specs.Gathering.{gathered}
use Rattle.ecpri_frames.specs.States.{tells}

-- the message as what is read of a frame shows it
abbrev pub message_of : WholeMessage → Message
message_of m = record { place = m.place; head = m.head; payload = m.payload.now }

-- the frame that it goes over
abbrev pub frame_of : Messages → List ℕ
frame_of it = it.frame.now

-- the whole messages that the rest of the frame completes
abbrev pub left_of : Messages → List Message
left_of it = gathered None (tells it.pdu (drop it.at it.frame.now)).items

-- its header and its payload lie in a frame of this length
abbrev pub LiesIn : ℕ → WholeMessage → Type 0
LiesIn len m = m.place + (4 + length m.payload.now) ≤ len

-- a call from s gave the first whole message that was left, if there was one, and led to t, which goes over the same frame
abbrev pub GivesMessage : Messages → Option WholeMessage → Messages → Type 0
GivesMessage s r t = YieldsFirstBy message_of left_of s r t × (frame_of t ≡ frame_of s) × IfSome r (LiesIn (length (frame_of s)))
