-- Reasons that are the same, number by number.
use Rattle.std.specs.Prelude.{ℕ, ◌==◌, Bool, ◌&&◌, Some, None}
use Rattle.explain_model.specs.Reasons.{word_of}
use Rattle.explain_model.specs.declared.reasons.Reason.{Reason}
use Rattle.explain_model.specs.declared.reasons.Reason.TheVariants as reason
use Rattle.explain_model.specs.declared.reasons.ReasonWord.{ReasonWord}
use Rattle.explain_model.specs.declared.reasons.ReasonWord.TheVariants as word

-- the place of a word in their order
abbrev pub place_of : ReasonWord → ℕ
place_of word.Other = 0
place_of word.Late = 1
place_of word.Early = 2
place_of word.Refused = 3
place_of word.WrongWay = 4
place_of word.Repeated = 5
place_of word.Unfinished = 6
place_of word.CommandMismatch = 7
place_of word.CommandLate = 8
place_of word.CommandEarly = 9
place_of word.CommandRange = 10
place_of word.CommandRepeat = 11
place_of word.CommandOverlap = 12
place_of word.CommandFull = 13
place_of word.NoData = 14
place_of word.NoCommand = 15

abbrev pub same_word : ReasonWord → ReasonWord → Bool
same_word a b = place_of a == place_of b

-- the arrival that is the cause; 0 where there is none, since arrivals have numbers from 1
abbrev pub from_of : Reason → ℕ
from_of (reason.Other section from) = from
from_of (reason.Late by from) = from
from_of (reason.Early by from) = from
from_of (reason.Refused from) = from
from_of (reason.WrongWay from) = from
from_of (reason.Repeated seq from) = from
from_of (reason.Unfinished seq pieces from) = from
from_of (reason.CommandMismatch from) = from
from_of (reason.CommandLate by from) = from
from_of (reason.CommandEarly by from) = from
from_of (reason.CommandRange from) = from
from_of (reason.CommandRepeat from) = from
from_of (reason.CommandOverlap from) = from
from_of (reason.CommandFull from) = from
from_of (reason.NoData None) = 0
from_of (reason.NoData (Some from)) = from
from_of reason.NoCommand = 0

-- the number after its first word, where there is one beside the arrival: a section id, a distance or a sequence id
abbrev pub detail_of : Reason → ℕ
detail_of (reason.Other section from) = section
detail_of (reason.Late by from) = by
detail_of (reason.Early by from) = by
detail_of (reason.Repeated seq from) = seq
detail_of (reason.Unfinished seq pieces from) = seq
detail_of (reason.CommandLate by from) = by
detail_of (reason.CommandEarly by from) = by
detail_of (reason.NoData (Some from)) = 1
detail_of _ = 0

abbrev pub pieces_of : Reason → ℕ
pieces_of (reason.Unfinished seq pieces from) = pieces
pieces_of _ = 0

-- they read the same
abbrev pub same_reason : Reason → Reason → Bool
same_reason a b =
    same_word (word_of a) (word_of b) && ((from_of a == from_of b) && ((detail_of a == detail_of b) && (pieces_of a == pieces_of b)))
