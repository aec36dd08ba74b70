-- What is told of frames that arrive one after the other, each with its results.
use Rattle.std.proofs.Common.{◌≡◌, ℤ, List, [], ◌∷◌, ◌++◌, refl, sym, ap, ◌∙◌, subst, append-nil}
use Rattle.std.specs.Prelude.{All, map}
use Rattle.std.proofs.lemmas.List.Elements.{All-nil, All-cons, All-append}
use Rattle.air_source.specs.declared.events.Event.{Event}
use Rattle.air_source.specs.declared.events.Side.{Side}
use Rattle.unit_model.specs.Events.{arrival_event, arrival_told, arrivals_told, result_event}
use Rattle.unit_model.specs.Meetings.{Arrival}
use Rattle.unit_model.specs.declared.results.DelayResult.{DelayResult}

abbrev pub Results : Type 0
Results = List (List DelayResult)

-- ---- of no frame, and of one more

pub none_told : (side : Side) (results : Results) → arrivals_told side results [] ≡ []
unfolding arrivals_told
none_told side results = refl

-- a frame with its results, and one beyond the results
pub told_next : (side : Side) (r : List DelayResult) (results : Results) (a : Arrival) (xs : List Arrival)
    → arrivals_told side (r ∷ results) (a ∷ xs) ≡ arrival_told side a r ++ arrivals_told side results xs
unfolding arrivals_told
told_next side r results a xs = refl

pub told_next_alone : (side : Side) (a : Arrival) (xs : List Arrival) → arrivals_told side [] (a ∷ xs) ≡ arrival_told side a [] ++ arrivals_told side [] xs
unfolding arrivals_told
told_next_alone side a xs = refl

pub told_one : (side : Side) (r : List DelayResult) (results : Results) (a : Arrival) → arrivals_told side (r ∷ results) (a ∷ []) ≡ arrival_told side a r
told_one side r results a =
    told_next side r results a [] ∙ ap (λ (es : List Event). arrival_told side a r ++ es) (none_told side results) ∙ append-nil (arrival_told side a r)

-- each frame without results is told by one event
pub told_each : (side : Side) (xs : List Arrival) → arrivals_told side [] xs ≡ map (arrival_event side) xs
told_each side [] = none_told side []
told_each side (x ∷ xs) = told_next_alone side x xs ∙ ap (λ (es : List Event). arrival_event side x ∷ es) (told_each side xs)

-- ---- what holds of each frame with its results, and of lists joined

pub told_kept : (P : List Event → Type 0) → P [] → ((xs ys : List Event) → P xs → P ys → P (xs ++ ys)) → (side : Side)
    → ((a : Arrival) (r : List DelayResult) → P (arrival_told side a r)) → (results : Results) (xs : List Arrival) → P (arrivals_told side results xs)
told_kept P none joined side one results [] = subst P (sym (none_told side results)) none
told_kept P none joined side one [] (x ∷ xs) =
    subst P (sym (told_next_alone side x xs)) (joined (arrival_told side x []) (arrivals_told side [] xs) (one x []) (told_kept P none joined side one [] xs))
told_kept P none joined side one (r ∷ results) (x ∷ xs) =
    subst P (sym (told_next side r results x xs))
    (joined (arrival_told side x r) (arrivals_told side results xs) (one x r) (told_kept P none joined side one results xs))

-- what holds of the event of each frame, and of each result
pub told_all : (P : Event → Type 0) (side : Side) → ((a : Arrival) → P (arrival_event side a)) → ((at : ℤ) (r : DelayResult) → P (result_event side at r)) → (results : Results) (xs : List Arrival)
    → All P (arrivals_told side results xs)
told_all P side frame result = told_kept (All P) (All-nil P) (All-append P) side (λ a rs. All-cons P (arrival_event side a) (map (result_event side a.at) rs) (frame a) (each a.at rs))
  where
    each : (at : ℤ) (rs : List DelayResult) → All P (map (result_event side at) rs)
    each at [] = All-nil P
    each at (r ∷ rs) = All-cons P (result_event side at r) (map (result_event side at) rs) (result at r) (each at rs)
