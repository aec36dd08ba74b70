-- Messages part by part (this project's means).
use Rattle.std.specs.Prelude.{ℕ, pos, ◌+◌, ◌+ℤ◌, if◌then◌else◌, List, [], ◌∷◌, Option, Some, None}
use Rattle.unit_model.specs.Terms.{piece_count}
use Rattle.du_scheduler.specs.declared.turns.Run.{Run}
use Rattle.du_scheduler.specs.OpenMessages.{alone, grown, next_to, takes_more}
use Rattle.du_scheduler.specs.declared.complete.CompleteMessages.{CompleteMessages}
use Rattle.du_scheduler.specs.declared.open_messages.OpenMessage.{OpenMessage}
use Rattle.du_scheduler.specs.declared.parts.TimedPart.{TimedPart}
use Rattle.du_scheduler.specs.declared.limits.Limits.{Limits}

abbrev pub frames_needed : Option ℕ → ℕ → ℕ
frames_needed None bytes = 1
frames_needed (Some most) bytes = piece_count most bytes

abbrev pub run_next_to : Limits → OpenMessage → TimedPart → OpenMessage
run_next_to l m p = next_to l.departures (frames_needed l.fragment m.size.bytes) m p

-- the complete messages from one on, where these parts follow
unfoldable pub complete_from : Limits → OpenMessage → List TimedPart → List OpenMessage
complete_from l m [] = m ∷ []
complete_from l m (p ∷ ps) = if takes_more l.pack m p then complete_from l (grown m p) ps else m ∷ complete_from l (run_next_to l m p) ps

abbrev pub complete : Limits → List TimedPart → List OpenMessage
complete l [] = []
complete l (p ∷ ps) = complete_from l (alone p 0) ps

-- those that an iterator has left
abbrev pub left_behind : Limits → Option OpenMessage → List TimedPart → List OpenMessage
left_behind l None ps = []
left_behind l (Some m) ps = complete_from l m ps

abbrev pub left_of : CompleteMessages → List OpenMessage
left_of it = left_behind it.limits.now it.message it.rest.now

-- a message with this number, with all its frames
abbrev pub run_from : Limits → ℕ → OpenMessage → Run
run_from l number m = record {
  turn = record { at = record { 0 = (m.first.start.0 +ℤ l.departures.from.0) +ℤ pos m.wait }; endpoint = l.endpoint; stream = l.stream; number = number; sub = 0 };
  last = record { 0 = (m.first.start.0 +ℤ l.departures.from.0) +ℤ pos l.departures.spread };
  left = frames_needed l.fragment m.size.bytes;
}

-- messages, of which the first has this number
unfoldable pub runs_from : Limits → ℕ → List OpenMessage → List Run
runs_from l number [] = []
runs_from l number (m ∷ ms) = run_from l number m ∷ runs_from l (number + 1) ms

abbrev pub walked : Limits → List TimedPart → List Run
walked l ps = runs_from l 0 (complete l ps)

-- where messages begin among their parts, the first of which has this place
unfoldable pub begins_from : ℕ → List OpenMessage → List ℕ
begins_from place [] = []
begins_from place (m ∷ ms) = place ∷ begins_from (place + m.size.parts) ms

abbrev pub begins : Limits → List TimedPart → List ℕ
begins l ps = begins_from 0 (complete l ps)
