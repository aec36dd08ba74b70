-- The lines in which a capture is shown, before they are printed (this project's profile): a first word and members, each a name with
-- a number or a word.
use Rattle.std.specs.Prelude.{ℕ, ℤ, Bool, true, false, List, codes, decimal, if◌then◌else◌}
use Rattle.std.specs.Fmt.{signed_decimal}
use Rattle.cplane_sections.specs.Names.{name_of as command_why}
use Rattle.ecpri_frames.specs.Refusals.{name_of as frame_why}
use Rattle.fh_base.specs.Words.{hex4_text, hex3_text, hex2_text}
use Rattle.capture_show.specs.declared.values.Kind.{Kind}
use Rattle.capture_show.specs.declared.values.Kind.TheVariants as kind
use Rattle.capture_show.specs.declared.values.Name.{Name}
use Rattle.capture_show.specs.declared.values.Name.TheVariants as name
use Rattle.capture_show.specs.declared.values.Word.{Word}
use Rattle.capture_show.specs.declared.values.Word.TheVariants as word
use Rattle.capture_show.specs.declared.values.Field.{Field}
use Rattle.capture_show.specs.declared.values.Field.TheVariants as field
use Rattle.capture_show.specs.declared.values.Member.{Member}
use Rattle.air_source.specs.Units.{way_text}

pub record ShownLine : Type 0 where
  pub kind : Kind
  pub members : List Member

-- a member that is a number without sign, a number with a sign, 0 or 1, or a word
abbrev pub count : Name → ℕ → Member
count name n = record { name = name; field = field.Count n }

abbrev pub signed : Name → ℤ → Member
signed name z = record { name = name; field = field.Signed z }

abbrev pub flag : Name → Bool → Member
flag name b = count name (if b then 1 else 0)

abbrev pub said : Name → Word → Member
said name w = record { name = name; field = field.Word w }

-- the first word
abbrev pub kind_text : Kind → List ℕ
kind_text kind.Frame = codes "frame"
kind_text kind.Command = codes "c"
kind_text kind.Section = codes "section"
kind_text kind.Refused = codes "refused"
kind_text kind.Data = codes "u"
kind_text kind.Delay = codes "delay"
kind_text kind.Short = codes "short"
kind_text kind.Other = codes "other"
kind_text kind.Broken = codes "broken"

-- the line of a record has its values without names in the text
abbrev pub is_bare : Kind → Bool
is_bare kind.Frame = true
is_bare _ = false

abbrev pub name_text : Name → List ℕ
name_text name.Action = codes "action"
name_text name.At = codes "at"
name_text name.Beam = codes "beam"
name_text name.Bytes = codes "bytes"
name_text name.Comp = codes "comp"
name_text name.Cp = codes "cp"
name_text name.Down = codes "down"
name_text name.E = codes "e"
name_text name.Filter = codes "filter"
name_text name.Frame = codes "frame"
name_text name.Freq = codes "freq"
name_text name.Id = codes "id"
name_text name.Mask = codes "mask"
name_text name.MessageType = codes "type"
name_text name.Nanoseconds = codes "nanoseconds"
name_text name.Num = codes "num"
name_text name.Number = codes "number"
name_text name.Offset = codes "offset"
name_text name.Place = codes "place"
name_text name.Prb = codes "prb"
name_text name.Seconds = codes "seconds"
name_text name.Sections = codes "sections"
name_text name.Seq = codes "seq"
name_text name.Size = codes "size"
name_text name.Slot = codes "slot"
name_text name.Structure = codes "structure"
name_text name.Sub = codes "sub"
name_text name.Subframe = codes "subframe"
name_text name.Symbol = codes "symbol"
name_text name.Symbols = codes "symbols"
name_text name.Ticks = codes "ticks"
name_text name.Way = codes "way"
name_text name.Why = codes "why"

abbrev pub word_text : Word → List ℕ
word_text (word.Hex2 n) = hex2_text n
word_text (word.Hex3 n) = hex3_text n
word_text (word.Hex4 n) = hex4_text n
word_text (word.Way side) = way_text side
word_text (word.Command why) = command_why why
word_text word.Fragmented = codes "Fragmented"
word_text (word.Frame why) = frame_why why

abbrev pub field_text : Field → List ℕ
field_text (field.Count n) = decimal n
field_text (field.Signed z) = signed_decimal z
field_text (field.Word w) = word_text w
