-- The frames that an air heard of a unit, among several events.
use Rattle.std.proofs.Common.{◌≡◌, ℤ, Bool, true, false, List, [], ◌∷◌, ◌++◌, refl, sym, ap, ◌∙◌}
use Rattle.std.specs.Prelude.{if◌then◌else◌, map}
use Rattle.air_source.specs.declared.events.AirCell.{AirCell}
use Rattle.air_source.specs.declared.events.Event.{Event}
use Rattle.air_source.specs.declared.events.Side.{Side}
use Rattle.air_source.specs.declared.events.Side.TheVariants.{Ru, Du}
use Rattle.unit_model.specs.Events.{arrival_told, arrivals_told, result_event}
use Rattle.unit_model.specs.Heard.{arrivals_heard, is_of}
use Rattle.fh_base.specs.Lists.{onto}
use Rattle.unit_model.specs.Meetings.{Arrival}
use Rattle.unit_model.specs.declared.results.DelayResult.{DelayResult}
use Rattle.fh_base.proofs.OntoLemmas.{onto_none, onto_one}
use Rattle.unit_model.proofs.ToldLemmas.{none_told, told_kept, told_next, told_next_alone}
use Rattle.air_source.specs.declared.events.Event.TheVariants as event

pub own : (side : Side) → is_of side side ≡ true
own Ru = refl
own Du = refl

pub arrivals-append : (side : Side) (earlier : List Arrival) (xs ys : List Event)
    → arrivals_heard side earlier (xs ++ ys) ≡ arrivals_heard side (arrivals_heard side earlier xs) ys
unfolding arrivals_heard
arrivals-append side earlier [] ys = refl
arrivals-append side earlier (event.Cell a ∷ xs) ys = arrivals-append side earlier xs ys
arrivals-append side earlier (event.Arrival at_side at frame ∷ xs) ys = arrivals-append side _ xs ys
arrivals-append side earlier (event.Delay at at_side id value ∷ xs) ys = arrivals-append side earlier xs ys
arrivals-append side earlier (event.Count at_side k value ∷ xs) ys = arrivals-append side earlier xs ys

pub arrivals-none : (side : Side) (earlier : List Arrival) → arrivals_heard side earlier [] ≡ earlier
unfolding arrivals_heard
arrivals-none side earlier = refl

pub arrivals-cells : (side : Side) (earlier : List Arrival) (cs : List AirCell) → arrivals_heard side earlier (map event.Cell cs) ≡ earlier
unfolding arrivals_heard
arrivals-cells side earlier [] = refl
arrivals-cells side earlier (a ∷ cs) = arrivals-cells side earlier cs

-- results tell no frame
pub arrivals-results : (side other : Side) (earlier : List Arrival) (at : ℤ) (rs : List DelayResult) → arrivals_heard side earlier (map (result_event other at) rs) ≡ earlier
unfolding arrivals_heard
arrivals-results side other earlier at [] = refl
arrivals-results side other earlier at (r ∷ rs) = arrivals-results side other earlier at rs

-- a frame, of this unit and of the other
pub arrival-own : (side : Side) (earlier : List Arrival) (x : Arrival) (rs : List DelayResult) → arrivals_heard side earlier (arrival_told side x rs) ≡ x ∷ earlier
unfolding arrivals_heard
arrival-own side earlier x rs =
    ap (λ (b : Bool). arrivals_heard side (let zs : List Arrival = if b then x ∷ earlier else earlier in zs) (map (result_event side x.at) rs)) (own side)
    ∙ arrivals-results side side (x ∷ earlier) x.at rs

pub arrival-other : (side other : Side) (earlier : List Arrival) (x : Arrival) (rs : List DelayResult) → is_of side other ≡ false
    → arrivals_heard side earlier (arrival_told other x rs) ≡ earlier
unfolding arrivals_heard
arrival-other side other earlier x rs apart =
    ap (λ (b : Bool). arrivals_heard side (let zs : List Arrival = if b then x ∷ earlier else earlier in zs) (map (result_event other x.at) rs)) apart
    ∙ arrivals-results side other earlier x.at rs

-- frames, each with its results
pub arrivals-own : (side : Side) (earlier : List Arrival) (results : List (List DelayResult)) (xs : List Arrival)
    → arrivals_heard side earlier (arrivals_told side results xs) ≡ onto earlier xs
arrivals-own side earlier results [] = ap (arrivals_heard side earlier) (none_told side results) ∙ arrivals-none side earlier ∙ sym (onto_none earlier)
arrivals-own side earlier [] (x ∷ xs) =
    ap (arrivals_heard side earlier) (told_next_alone side x xs)
    ∙ arrivals-append side earlier (arrival_told side x []) (arrivals_told side [] xs)
    ∙ ap (λ (zs : List Arrival). arrivals_heard side zs (arrivals_told side [] xs)) (arrival-own side earlier x [])
    ∙ arrivals-own side (x ∷ earlier) [] xs
    ∙ sym (onto_one earlier x xs)
arrivals-own side earlier (r ∷ results) (x ∷ xs) =
    ap (arrivals_heard side earlier) (told_next side r results x xs)
    ∙ arrivals-append side earlier (arrival_told side x r) (arrivals_told side results xs)
    ∙ ap (λ (zs : List Arrival). arrivals_heard side zs (arrivals_told side results xs)) (arrival-own side earlier x r)
    ∙ arrivals-own side (x ∷ earlier) results xs
    ∙ sym (onto_one earlier x xs)

pub arrivals-other : (side other : Side) (earlier : List Arrival) (results : List (List DelayResult)) (xs : List Arrival) → is_of side other ≡ false
    → arrivals_heard side earlier (arrivals_told other results xs) ≡ earlier
arrivals-other side other earlier results xs apart =
    told_kept (λ es. arrivals_heard side earlier es ≡ earlier) (arrivals-none side earlier)
    (λ es fs p q. arrivals-append side earlier es fs ∙ ap (λ (zs : List Arrival). arrivals_heard side zs fs) p ∙ q) other
    (λ a rs. arrival-other side other earlier a rs apart) results xs
