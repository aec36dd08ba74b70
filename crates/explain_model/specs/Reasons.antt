-- The words of a reason.
use Rattle.std.specs.Prelude.{ℕ, List, [], ◌++◌, codes, Some, None}
use Rattle.member_lines.specs.Members.{named_text}
use Rattle.explain_model.specs.declared.reasons.Reason.{Reason}
use Rattle.explain_model.specs.declared.reasons.Reason.TheVariants as reason
use Rattle.explain_model.specs.declared.reasons.ReasonWord.{ReasonWord}
use Rattle.explain_model.specs.declared.reasons.ReasonWord.TheVariants as word

-- its first word
abbrev pub word_of : Reason → ReasonWord
word_of (reason.Other section from) = word.Other
word_of (reason.Late by from) = word.Late
word_of (reason.Early by from) = word.Early
word_of (reason.Refused from) = word.Refused
word_of (reason.WrongWay from) = word.WrongWay
word_of (reason.Repeated seq from) = word.Repeated
word_of (reason.Unfinished seq pieces from) = word.Unfinished
word_of (reason.CommandMismatch from) = word.CommandMismatch
word_of (reason.CommandLate by from) = word.CommandLate
word_of (reason.CommandEarly by from) = word.CommandEarly
word_of (reason.CommandRange from) = word.CommandRange
word_of (reason.CommandRepeat from) = word.CommandRepeat
word_of (reason.CommandOverlap from) = word.CommandOverlap
word_of (reason.CommandFull from) = word.CommandFull
word_of (reason.NoData from) = word.NoData
word_of reason.NoCommand = word.NoCommand

abbrev pub word_text : ReasonWord → List ℕ
word_text word.Other = codes "other"
word_text word.Late = codes "late"
word_text word.Early = codes "early"
word_text word.Refused = codes "refused"
word_text word.WrongWay = codes "wrong_way"
word_text word.Repeated = codes "repeated"
word_text word.Unfinished = codes "unfinished"
word_text word.CommandMismatch = codes "command_mismatch"
word_text word.CommandLate = codes "command_late"
word_text word.CommandEarly = codes "command_early"
word_text word.CommandRange = codes "command_range"
word_text word.CommandRepeat = codes "command_repeat"
word_text word.CommandOverlap = codes "command_overlap"
word_text word.CommandFull = codes "command_full"
word_text word.NoData = codes "nodata"
word_text word.NoCommand = codes "nocommand"

abbrev pub from_text : ℕ → List ℕ
from_text from = named_text (codes "from") from

abbrev pub by_text : ℕ → ℕ → List ℕ
by_text by from = named_text (codes "by") by ++ from_text from

-- what is after the first word
abbrev pub rest_text : Reason → List ℕ
rest_text (reason.Other section from) = named_text (codes "with") section ++ from_text from
rest_text (reason.Late by from) = by_text by from
rest_text (reason.Early by from) = by_text by from
rest_text (reason.Refused from) = from_text from
rest_text (reason.WrongWay from) = from_text from
rest_text (reason.Repeated seq from) = named_text (codes "seq") seq ++ from_text from
rest_text (reason.Unfinished seq pieces from) = named_text (codes "seq") seq ++ named_text (codes "pieces") pieces ++ from_text from
rest_text (reason.CommandMismatch from) = from_text from
rest_text (reason.CommandLate by from) = by_text by from
rest_text (reason.CommandEarly by from) = by_text by from
rest_text (reason.CommandRange from) = from_text from
rest_text (reason.CommandRepeat from) = from_text from
rest_text (reason.CommandOverlap from) = from_text from
rest_text (reason.CommandFull from) = from_text from
rest_text (reason.NoData None) = []
rest_text (reason.NoData (Some from)) = from_text from
rest_text reason.NoCommand = []

unfoldable pub reason_text : Reason → List ℕ
reason_text r = word_text (word_of r) ++ rest_text r
