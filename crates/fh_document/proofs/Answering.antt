-- A line that wants no memory.
use Rattle.std.proofs.Common.{◌≡◌, sym, subst}
use Rattle.std.specs.Prelude.{Result, Ok, Err}
use Rattle.fh_document.specs.declared.document.Reading.{Reading}
use Rattle.fh_document.specs.declared.refusals.DocWhy.{DocWhy}
use Rattle.fh_document.specs.declared.refusals.LineFault.{LineFault}
use Rattle.fh_document.specs.Answered.{Refuses, refused, Reads}

reads_same : (wanted : Result Reading DocWhy) (x : Result (Unit {0}) DocWhy) (new : Reading) → Refuses wanted x new → Reads wanted (refused x) new
reads_same wanted (Ok u) new h = h
reads_same wanted (Err why) new h = h

pub reads_refused : (wanted : Result Reading DocWhy) (x : Result (Unit {0}) DocWhy) (y : Result (Unit {0}) LineFault) (new : Reading) → y ≡ refused x
    → Refuses wanted x new → Reads wanted y new
reads_refused wanted x y new is h = subst (λ z. Reads wanted z new) (sym is) (reads_same wanted x new h)
