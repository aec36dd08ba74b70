-- Adding up the uplink cells of one unit more never passes a cell over.
use Rattle.std.proofs.Common.{◌≡◌, ◌+◌, Bool, true, false, cond, List, [], ◌∷◌, ◌++◌, refl, ap, sym, ◌∙◌}
use Rattle.std.specs.List.{AllByRecursion}
use Rattle.std.proofs.lemmas.List.Elements.{All-from_recursion, recursion_from_All}
use Rattle.air_source.specs.declared.events.AirCell.{AirCell}
use Rattle.shared_laws.specs.Layers.{AreDistinct}
use Rattle.shared_laws.proofs.Layering.{added_all, combined_more, still_there}
use Rattle.shared_cell.specs.Combined.{Follows, combined}
use Rattle.shared_cell.specs.Joined.{MayJoin, added, joined, opened}
use Rattle.shared_cell.specs.Places.{is_mixed_at, is_same, place_in, place_of}
use Rattle.shared_cell.specs.declared.values.Mixed.{Mixed}
use Rattle.shared_cell.proofs.Lifted.{joined_all, may_joins}
use Rattle.shared_cell.proofs.Same.{same_is, same_turned}
use Rattle.document_texts.proofs.Heard.{joined_all_at}

-- a combined cell elsewhere leaves free what may be joined
elsewhere : (d : AirCell) (m : Mixed) → is_same (place_of d) (place_in m) ≡ false → MayJoin d m
elsewhere d m other = λ at. absurd (let both : true ≡ false = sym at ∙ other in cc)

-- what may be joined may still be when a cell of another place was added
still_joins : (c d : AirCell) (ms : List Mixed) → is_same (place_of c) (place_of d) ≡ false → AllByRecursion (MayJoin d) ms → AllByRecursion (MayJoin d) (added c ms)
still_joins c d [] other may =
    (elsewhere d (joined c (opened c)) (ap (is_same (place_of d)) (still_there c.block (opened c)) ∙ same_turned (place_of d) (place_of c) ∙ other), tt)
still_joins c d (m ∷ ms) other may = go (is_mixed_at (place_of c) m) refl (still_joins c d ms other may.1)
  where
    go : (b : Bool) → is_same (place_of c) (place_in m) ≡ b → AllByRecursion (MayJoin d) (added c ms) → AllByRecursion (MayJoin d) (cond b (joined c m ∷ ms) (m ∷ added c ms))
    go true at rest =
        (elsewhere d (joined c m) (ap (is_same (place_of d)) (still_there c.block m ∙ sym (same_is (place_of c) (place_in m) at)) ∙ same_turned (place_of d) (place_of c) ∙ other), may.1)
    go false at rest = (may.0, rest)

all_still : (c : AirCell) (cells : List AirCell) (ms : List Mixed) → AllByRecursion (λ d. is_same (place_of c) (place_of d) ≡ false) cells → AllByRecursion (λ d. AllByRecursion (MayJoin d) ms) cells
    → AllByRecursion (λ d. AllByRecursion (MayJoin d) (added c ms)) cells
all_still c [] ms other may = tt
all_still c (d ∷ cells) ms other may = (still_joins c d ms other.0 may.0, all_still c cells ms other.1 may.1)

-- distinct cells that may be joined are all added
pub all_added : (cells : List AirCell) (ms : List Mixed) → AreDistinct cells → AllByRecursion (λ c. AllByRecursion (MayJoin c) ms) cells → joined_all_at cells ms ≡ added_all cells ms
unfolding joined_all_at added_all
all_added [] ms apart may = refl
all_added (c ∷ cells) ms apart may =
    ap (joined_all_at cells) (joined_all c ms (All-from_recursion (MayJoin c) ms may.0))
    ∙ all_added cells (added c ms) apart.1 (all_still c cells ms apart.0 may.1)

-- cells that may follow those before them may be joined
pub all_may : (before cells : List AirCell) → AllByRecursion (Follows before) cells → AllByRecursion (λ c. AllByRecursion (MayJoin c) (combined before)) cells
all_may before [] h = tt
all_may before (c ∷ cells) h = (recursion_from_All (MayJoin c) (combined before) (may_joins (combined before) before c refl h.0), all_may before cells h.1)

-- so the combined cells go on as defined
pub one_more : (before cells : List AirCell) → AreDistinct cells → AllByRecursion (Follows before) cells → joined_all_at cells (combined before) ≡ combined (before ++ cells)
one_more before cells apart follow = all_added cells (combined before) apart (all_may before cells follow) ∙ sym (combined_more before cells)
