-- One line of a text.
use Rattle.std.proofs.Common.{◌≡◌, ℕ, ◌+◌, ◌≤◌, List, ◌∷◌, ◌++◌, length, Option, None, Some, ap, ◌∙◌, arith}
use Rattle.std.specs.Prelude.{Ok, Err}
use Rattle.std.specs.Option.{option_to_list}
use Rattle.pictures.specs.Refusals.{going_on}
use Rattle.pictures.specs.declared.faults.TextWhy.{TextWhy}
use Rattle.pictures.specs.declared.arrivals.Arrival.{Arrival}
use Rattle.pictures.specs.declared.arrival_reading.Reading.{Reading}
use Rattle.pictures.specs.ArrivalText.{line_of, read_from}

pub read_on : (all lines : List (List ℕ)) (n : ℕ) (r next : Reading) (came : List Arrival) (a : Option Arrival) (line : List ℕ) → all ≡ line ∷ lines → line_of r n line ≡ Ok (next, a)
    → read_from n r came all ≡ read_from (n + 1) next (came ++ option_to_list a) lines
read_on all lines n r next came a line is goes =
    ap (read_from n r came) is
    ∙ ap (λ x. going_on x (λ (p : Reading × Option Arrival). read_from (n + 1) p.0 (came ++ option_to_list p.1) lines) (λ (w : TextWhy). Err (n, w))) goes

-- a line tells of one arrival at most
pub one_at_most : (a : Option Arrival) → length (option_to_list a) ≤ 1
one_at_most None = omega arith
one_at_most (Some a) = omega arith
