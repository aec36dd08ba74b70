-- Documents as a program writes them.
use Rattle.std.specs.Prelude.{ℕ, List, ◌∷◌, map, codes}
use Rattle.fh_document.specs.declared.document.Document.{Document}
use Rattle.fh_document.specs.declared.document.Injection.{Injection}
use Rattle.fh_document.specs.Lines.{start}
use Rattle.fh_document.specs.Document.{finished}
use Rattle.fh_document.specs.Steps.{with_frames}
use Rattle.fh_document.specs.Joined.{spaced, fed}
use Rattle.fh_document.specs.LineWords.{inject_words}

abbrev pub inject_text : Injection → List ℕ
inject_text i = spaced (inject_words i)

-- line 1, and a line for each frame
abbrev pub injections_text : List Injection → List ℕ
injections_text is = fed (codes "fronthaul 1" ∷ map inject_text is)

-- the document of these frames, in this order, where all else is as it is where no line says more
abbrev pub document_with : List Injection → Document
document_with is = finished (with_frames start is)
