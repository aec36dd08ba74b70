-- The messages of a frame whose payload is complete, and how they are put together from the answers of a decoder.
use Rattle.std.specs.Prelude.{ℕ, ◌-◌, ◌==◌, if◌then◌else◌, List, [], ◌∷◌, ◌++◌, length, take, drop, filter, Bool, Option, Some, None}
use Rattle.ecpri_frames.specs.declared.heads.Head.{Head}
use Rattle.ecpri_frames.specs.declared.steps.Feed.{Feed}
use Rattle.ecpri_frames.specs.declared.steps.Feed.TheVariants as feed
use Rattle.ecpri_frames.specs.Messages.{Message, pdu}
use Rattle.ecpri_frames.specs.Phases.{Item, Start, Byte, Close}

abbrev pub is_whole : Message → Bool
is_whole m = length m.payload == m.head.size

-- the whole messages of a frame, in their order
abbrev pub whole_messages : List ℕ → List Message
whole_messages bytes = filter is_whole (pdu bytes).messages

-- a message of which the header alone was received
abbrev pub opened : ℕ → Head → Message
opened place head = record { place = place; head = head; payload = [] }

-- the message with these further bytes of its payload
abbrev pub longer : Message → List ℕ → Message
longer m bytes = record { place = m.place; head = m.head; payload = m.payload ++ bytes }

-- the whole messages that these items complete, where the payload of `held` goes on
abbrev pub gathered : Option Message → List Item → List Message
gathered held [] = []
gathered held (Start place head ∷ items) =
    if head.size == 0 then opened place head ∷ gathered None items else gathered (Some (opened place head)) items
gathered (Some m) (Byte b ∷ items) = gathered (Some (longer m (b ∷ []))) items
gathered None (Byte b ∷ items) = gathered None items
gathered (Some m) (Close ∷ items) = m ∷ gathered None items
gathered None (Close ∷ items) = gathered None items

-- the payload bytes of an answer
abbrev pub body_of : ℕ → ℕ → List ℕ → List ℕ
body_of from to piece = take (to - from) (drop from piece)

-- the messages that an answer completes, after which `at` bytes are used
abbrev pub completed : ℕ → Feed → List ℕ → Option Message → List Message
completed at (feed.Message head) piece held = if head.size == 0 then opened (at - 4) head ∷ [] else []
completed at (feed.Body from to last) piece (Some m) = if last then longer m (body_of from to piece) ∷ [] else []
completed at what piece held = []

-- the message whose payload goes on after it
abbrev pub held_after : ℕ → Feed → List ℕ → Option Message → Option Message
held_after at (feed.Message head) piece held = if head.size == 0 then None else Some (opened (at - 4) head)
held_after at (feed.Body from to last) piece (Some m) = if last then None else Some (longer m (body_of from to piece))
held_after at what piece held = held
