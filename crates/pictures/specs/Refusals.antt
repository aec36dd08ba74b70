-- Why a text is refused, and what an answer says of the sink.
use Rattle.std.specs.Prelude.{◌≡◌, ◌⊎◌, ℕ, List, length, Bool, true, false, ◌&&◌, ◌==◌, Option, Some, None, Result, Ok, Err, if◌then◌else◌, codes}
use Rattle.std.specs.Io.KnownBytes.{append_known}
use Rattle.std.specs.Str.{bytes_eq}
use Rattle.fh_base.specs.Causes.{Counts}
use Rattle.fh_base.specs.Told.{WritesPart}
use Rattle.fh_base.specs.declared.fault.SinkFault.{SinkFault}
use Rattle.fh_base.specs.declared.fault.SinkFault.TheVariants as sink
use Rattle.fh_base.specs.Numbers.{word_at}
use Rattle.pictures.specs.declared.faults.DrawFault.{DrawFault}
use Rattle.pictures.specs.declared.faults.DrawFault.TheVariants as draw
use Rattle.pictures.specs.declared.faults.TextRefusal.{TextRefusal}
use Rattle.pictures.specs.declared.faults.TextWhy.{TextWhy}
use Rattle.pictures.specs.declared.faults.TextWhy.TheVariants as why

abbrev pub why_name : TextWhy → List ℕ
why_name why.NotText = codes "NotText"
why_name why.Head = codes "Head"
why_name why.End = codes "End"
why_name why.Line = codes "Line"

-- line 1 is the words `explain` and `1`
abbrev pub head_line : List (List ℕ) → Result (Unit {0}) TextWhy
head_line ws = if (length ws == 2) && bytes_eq (word_at ws 0) (codes "explain") && bytes_eq (word_at ws 1) (codes "1") then Ok tt else Err why.Head

-- the one word `end`
abbrev pub is_end : List (List ℕ) → Bool
is_end ws = (length ws == 1) && bytes_eq (word_at ws 0) (codes "end")

-- what follows on a value; where there is none, the line fails
abbrev pub or_line : {A B : Type 0} → Option A → (A → Result B TextWhy) → Result B TextWhy
or_line None next = Err why.Line
or_line (Some x) next = next x

-- what follows on a line that does not fail
abbrev pub going_on : {A B : Type 0} → Result A TextWhy → (A → B) → (TextWhy → B) → B
going_on (Ok x) next fail = next x
going_on (Err w) next fail = fail w

-- a refusal is the error of a picture
abbrev pub of_refusal : TextRefusal → DrawFault
of_refusal r = draw.Refused r.line r.why

-- what a sink's error is
abbrev pub of_sink : SinkFault → DrawFault
of_sink sink.Failed = draw.WriteFault
of_sink sink.NoMemory = draw.NoMemory

-- the answer is that the sink failed
abbrev pub is_write_fault : {T : Type 0} → Result T DrawFault → Bool
is_write_fault (Ok x) = false
is_write_fault (Err (draw.Refused line w)) = false
is_write_fault (Err draw.WriteFault) = true
is_write_fault (Err draw.NoMemory) = false

-- What the answer says of a text whose picture, or whose first line that fails, is `wanted`, and of the sink: all of the picture was
-- appended, or nothing where the text is refused, or a part of it and not all. Where memory was refused it may be that nothing was told of
-- the text, and then nothing was appended.
abbrev pub Draws : Result (List ℕ) (ℕ × TextWhy) → Option (List ℕ) → Option (List ℕ) → Result (Unit {0}) DrawFault → Type 0
Draws wanted old new (Ok u) = (picture : List ℕ) × (wanted ≡ Ok picture) × (new ≡ append_known old picture)
Draws wanted old new (Err (draw.Refused line w)) = (wanted ≡ Err (line, w)) × (new ≡ old)
Draws wanted old new (Err draw.WriteFault) = (picture : List ℕ) × (wanted ≡ Ok picture) × WritesPart old new picture
Draws wanted old new (Err draw.NoMemory) = (new ≡ old) ⊎ ((picture : List ℕ) × (wanted ≡ Ok picture) × WritesPart old new picture)

-- the sink's count of faults rose exactly where it failed
abbrev pub HasDrawCause : {T : Type 0} → ℕ → ℕ → Result T DrawFault → Type 0
HasDrawCause before now result = Counts (is_write_fault result) before now
