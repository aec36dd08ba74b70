-- One line of a document.
use Rattle.std.proofs.Common.{◌≡◌, ℕ, ◌+◌, List, ◌∷◌, ap, ◌∙◌}
use Rattle.std.specs.Prelude.{Ok, Err}
use Rattle.fh_document.specs.Lines.{line_of}
use Rattle.fh_document.specs.Document.{read_from, after_line}
use Rattle.fh_document.specs.declared.document.Reading.{Reading}
use Rattle.fh_document.specs.declared.refusals.DocWhy.{DocWhy}

read_step : (all : List (List ℕ)) (n : ℕ) (r : Reading) (line : List ℕ) (lines : List (List ℕ)) → all ≡ line ∷ lines
    → read_from n r all ≡ after_line (line_of r n line) (λ next. read_from (n + 1) next lines) (λ why. Err (n, why))
read_step all n r line lines is = ap (read_from n r) is

pub read_on : (all : List (List ℕ)) (n : ℕ) (r next : Reading) (line : List ℕ) (lines : List (List ℕ)) → all ≡ line ∷ lines → line_of r n line ≡ Ok next
    → read_from n r all ≡ read_from (n + 1) next lines
read_on all n r next line lines is goes =
    read_step all n r line lines is ∙ ap (λ x. after_line x (λ next. read_from (n + 1) next lines) (λ why. Err (n, why))) goes

pub read_fails : (all : List (List ℕ)) (n : ℕ) (r : Reading) (why : DocWhy) (line : List ℕ) (lines : List (List ℕ)) → all ≡ line ∷ lines → line_of r n line ≡ Err why
    → read_from n r all ≡ Err (n, why)
read_fails all n r why line lines is fails =
    read_step all n r line lines is ∙ ap (λ x. after_line x (λ next. read_from (n + 1) next lines) (λ why. Err (n, why))) fails
