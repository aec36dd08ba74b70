-- An answer that may also be want of memory.
use Rattle.std.specs.Prelude.{◌≡◌, ℕ, Result, Ok, Err}
use Rattle.fh_document.specs.declared.document.Document.{Document}
use Rattle.fh_document.specs.declared.document.Reading.{Reading}
use Rattle.fh_document.specs.declared.refusals.DocWhy.{DocWhy}
use Rattle.fh_document.specs.declared.refusals.LineFault.{LineFault}
use Rattle.fh_document.specs.declared.refusals.LineFault.TheVariants as fault
use Rattle.fh_document.specs.declared.refusals.DocFault.{DocFault}
use Rattle.fh_document.specs.declared.refusals.DocFault.TheVariants as doc

-- what was read became the wanted one, or the wanted reason was given
abbrev pub Refuses : Result Reading DocWhy → Result (Unit {0}) DocWhy → Reading → Type 0
Refuses wanted (Ok u) new = wanted ≡ Ok new
Refuses wanted (Err why) new = wanted ≡ Err why

-- a reason that is a line's own
abbrev pub refused : Result (Unit {0}) DocWhy → Result (Unit {0}) LineFault
refused (Ok u) = Ok u
refused (Err why) = Err (fault.Why why)

-- the same, or memory ran out
abbrev pub Reads : Result Reading DocWhy → Result (Unit {0}) LineFault → Reading → Type 0
Reads wanted (Ok u) new = wanted ≡ Ok new
Reads wanted (Err (fault.Why why)) new = wanted ≡ Err why
Reads wanted (Err fault.NoMemory) new = Unit {0}

-- the result is the wanted answer, or memory ran out
abbrev pub Answers : Result Document (ℕ × DocWhy) → Result Document DocFault → Type 0
Answers wanted (Ok d) = wanted ≡ Ok d
Answers wanted (Err (doc.At line why)) = wanted ≡ Err (line, why)
Answers wanted (Err doc.NoMemory) = Unit {0}
