-- What a decoder that is in the middle of a frame makes of the bytes that follow.
use Rattle.std.specs.Prelude.{ℕ, ◌+◌, ◌-◌, ◌==◌, ◌&&◌, if◌then◌else◌, List, [], ◌∷◌, ◌++◌, length, take, drop, nat_lt, map, Option}
use Rattle.ecpri_frames.specs.declared.heads.Head.{Head}
use Rattle.ecpri_frames.specs.declared.phases.Phase.{Phase}
use Rattle.ecpri_frames.specs.declared.phases.Phase.TheVariants.{First, Second, Third, Fourth, Body, Padding, Over, Faulty}
use Rattle.ecpri_frames.specs.declared.refusals.PduRefusal.{PduRefusal}
use Rattle.ecpri_frames.specs.declared.refusals.PduWhy.TheVariants.{Revision, Truncated, NoPadding}
use Rattle.ecpri_frames.specs.declared.steps.Feed.{Feed}
use Rattle.ecpri_frames.specs.declared.steps.Feed.TheVariants as feed
use Rattle.ecpri_frames.specs.Headers.{head_of}
use Rattle.ecpri_frames.specs.Messages.{Message, Reading, over, fault, padding, behind_head, behind_first, read_from}

-- what is told of a frame: the header that begins at a place, a byte of its payload, the end of a payload that has bytes
pub data Item : Type 0 where
  Start : ℕ → Head → Item
  Byte : ℕ → Item
  Close : Item

pub record Telling : Type 0 where
  pub items : List Item
  pub refusal : Option PduRefusal

abbrev pub bytes_told : List ℕ → List Item
bytes_told xs = map Byte xs

-- the end of the payload is told where it has bytes and all are there
abbrev pub closes : ℕ → ℕ → List Item
closes size there = if nat_lt 0 size && (there == size) then Close ∷ [] else []

abbrev pub message_told : Message → List Item
message_told m = Start m.place m.head ∷ (bytes_told m.payload ++ closes m.head.size (length m.payload))

abbrev pub messages_told : List Message → List Item
messages_told [] = []
messages_told (m ∷ ms) = message_told m ++ messages_told ms

abbrev pub telling : Reading → Telling
telling r = record { items = messages_told r.messages; refusal = r.refusal }

-- these, and then what t tells
abbrev pub after : List Item → Telling → Telling
after items t = record { items = items ++ t.items; refusal = t.refusal }

-- the rest of a frame, where n bytes of padding are first
abbrev pub in_padding : ℕ → ℕ → List ℕ → Telling
in_padding at n rest = if nat_lt (length rest) n then telling (fault (at + length rest) NoPadding) else telling (read_from at n rest)

-- the same after a payload
abbrev pub behind_payload : ℕ → Head → List ℕ → Telling
behind_payload at head rest = if head.more then in_padding at (padding head.size) rest else telling over

-- the same where `left` bytes of a payload are first, one or more
abbrev pub in_payload : ℕ → Head → ℕ → List ℕ → Telling
in_payload at head left rest =
    if nat_lt (length rest) left then after (bytes_told rest) (telling (fault (at + length rest) Truncated))
    else after (bytes_told (take left rest) ++ Close ∷ []) (behind_payload (at + left) head (drop left rest))

-- the rest of a header whose first two, or three, bytes are there
abbrev pub behind_second : ℕ → ℕ → ℕ → List ℕ → Telling
behind_second at a b (c ∷ d ∷ rest) = telling (behind_head (at - 2) (at + 2) (head_of (a ∷ b ∷ c ∷ d ∷ [])) rest (λ n. read_from (at + 2) n rest))
behind_second at a b short = telling (fault (at + length short) Truncated)

abbrev pub behind_third : ℕ → ℕ → ℕ → ℕ → List ℕ → Telling
behind_third at a b c (d ∷ rest) = telling (behind_head (at - 3) (at + 1) (head_of (a ∷ b ∷ c ∷ d ∷ [])) rest (λ n. read_from (at + 1) n rest))
behind_third at a b c [] = telling (fault at Truncated)

-- what the bytes `rest` say after `at` bytes, in each phase
abbrev pub resumed : Phase → ℕ → List ℕ → Telling
resumed First at rest = telling (read_from at 0 rest)
resumed (Second a) at rest = telling (behind_first (at - 1) at a rest (λ n. read_from at n rest))
resumed (Third a b) at rest = behind_second at a b rest
resumed (Fourth a b c) at rest = behind_third at a b c rest
resumed (Body head left) at rest = in_payload at head left rest
resumed (Padding left) at rest = in_padding at left rest
resumed Over at rest = telling over
resumed (Faulty place) at rest = telling (fault place Revision)

-- how many bytes of a payload or of padding a phase waits for, and 1 in the other phases
abbrev pub awaited : Phase → ℕ
awaited (Body head left) = left
awaited (Padding left) = left
awaited _ = 1

-- how many bytes of a header are there
abbrev pub begun : Phase → ℕ
begun (Second a) = 1
begun (Third a b) = 2
begun (Fourth a b c) = 3
begun _ = 0

-- what an answer tells, with the payload's bytes from the piece; `at` bytes are used after it
abbrev pub feed_told : ℕ → Feed → List ℕ → List Item
feed_told at feed.More piece = []
feed_told at (feed.Message head) piece = Start (at - 4) head ∷ []
feed_told at (feed.Body from to last) piece = bytes_told (take (to - from) (drop from piece)) ++ (if last then Close ∷ [] else [])
feed_told at feed.End piece = []
feed_told at (feed.Refused r) piece = []
