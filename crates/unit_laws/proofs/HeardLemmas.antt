-- What an air heard of each unit, among several events.
use Rattle.std.proofs.Common.{◌≡◌, ℕ, ℤ, pos, ◌+ℤ◌, ◌-ℤ◌, Bool, true, false, List, [], ◌∷◌, ◌++◌, refl, ap, ap₂, ◌∙◌}
use Rattle.std.specs.Prelude.{All, ◌==◌, if◌then◌else◌, map}
use Rattle.std.proofs.lemmas.List.Elements.{All-filter, All-head, All-tail}
use Rattle.air_source.specs.Units.{is_down}
use Rattle.air_source.specs.declared.events.AirCell.{AirCell}
use Rattle.air_source.specs.declared.events.Event.{Event}
use Rattle.air_source.specs.declared.events.Event.TheVariants as event
use Rattle.air_source.specs.declared.events.Side.{Side}
use Rattle.fh_base.specs.Air.{air_of}
use Rattle.fh_base.specs.declared.values.Slot.{Slot}
use Rattle.window_config.specs.declared.delays.Delays.{Delays}
use Rattle.window_config.specs.declared.endpoints.EndpointConfig.{EndpointConfig}
use Rattle.unit_model.specs.Claims.{cell_at}
use Rattle.unit_model.specs.Events.{arrival_told, arrivals_told, result_event}
use Rattle.unit_model.specs.Heard.{cells_heard, is_of}
use Rattle.unit_model.specs.Meetings.{Arrival}
use Rattle.unit_model.specs.Radiated.{Known, air_cell, cell_report, first_clock, symbol_report, used_mask, wait_of}
use Rattle.unit_model.specs.Standing.{due, still_reported}
use Rattle.unit_model.specs.Sweeps.{at_tick}
use Rattle.unit_model.specs.declared.results.DelayResult.{DelayResult}
use Rattle.unit_model.proofs.ToldLemmas.{told_kept}
use Rattle.unit_laws.proofs.DifferLemmas.{all_kept}
use Rattle.unit_laws.proofs.DueLemmas.{unheard, one_or_none}
use Rattle.unit_model.proofs.SweepLemmas.{at_tick_related, each_related, sweep_related}
use Rattle.unit_model.proofs.ArrivalLemmas.{own}

-- ---- which unit's

is_own : (side other : Side) → other ≡ side → is_of side other ≡ true
is_own side other same = ap (is_of side) same ∙ own side

abbrev pub AreOf : Side → List AirCell → Type 0
AreOf side cs = All (λ a. a.side ≡ side) cs

pub report_of_side : (side : Side) (k : Known) (ep : ℕ) (e : EndpointConfig) (slot : Slot) (symbol : ℕ) → AreOf side (symbol_report side k ep e slot symbol)
unfolding symbol_report
report_of_side side k ep e slot symbol =
    let P = λ (a : AirCell). a.side ≡ side in
    let f = cell_report side k ep e slot symbol in
    each_related (λ xs ys. All P xs) (all_kept P) 0 e.prbs f f (λ prb above below.
    let cell = cell_at ep (is_down side) slot symbol prb in
    one_or_none P (used_mask (k.claims cell) == 0) (air_cell side e cell (air_of e.numerology slot symbol) (k.claims cell) (k.blocks cell)) refl)

pub tick_of_side : (side : Side) (k : Known) (es : List EndpointConfig) (tick : ℤ) → AreOf side (at_tick (symbol_report side k) es tick)
tick_of_side side k es tick =
    let P = λ (a : AirCell). a.side ≡ side in
    at_tick_related (λ xs ys. All P xs) (all_kept P) (symbol_report side k) (symbol_report side k) es tick (λ ep e slot symbol swept.
    report_of_side side k ep e slot symbol)

still_of_side : (side : Side) (k : Known) (heard : List AirCell) (ep : ℕ) (e : EndpointConfig) (slot : Slot) (symbol : ℕ)
    → AreOf side (still_reported side k heard ep e slot symbol)
unfolding still_reported
still_of_side side k heard ep e slot symbol =
    All-filter (unheard heard) (λ (a : AirCell). a.side ≡ side) (symbol_report side k ep e slot symbol) (report_of_side side k ep e slot symbol)

pub due_of_side : (side : Side) (d : Delays) (es : List EndpointConfig) (k : Known) (heard : List AirCell) (to : ℤ) → AreOf side (due side d es k heard to)
unfolding due
due_of_side side d es k heard to =
    let P = λ (a : AirCell). a.side ≡ side in
    let g = still_reported side k heard in
    sweep_related (λ xs ys. All P xs) (all_kept P) g g es (first_clock -ℤ wait_of side d) ((to -ℤ wait_of side d) +ℤ pos 1) (λ ep e slot symbol tick low high swept.
    still_of_side side k heard ep e slot symbol)

-- ---- cells

pub cells-append : (side : Side) (xs ys : List Event) → cells_heard side (xs ++ ys) ≡ cells_heard side xs ++ cells_heard side ys
unfolding cells_heard
cells-append side [] ys = refl
cells-append side (event.Cell a ∷ xs) ys = one (is_of side a.side) (cells-append side xs ys)
  where
    one : (b : Bool) → cells_heard side (xs ++ ys) ≡ cells_heard side xs ++ cells_heard side ys
        → (let zs : List AirCell = if b then a ∷ cells_heard side (xs ++ ys) else cells_heard side (xs ++ ys) in zs)
        ≡ (let zs : List AirCell = if b then a ∷ cells_heard side xs else cells_heard side xs in zs) ++ cells_heard side ys
    one true same = ap (λ (cs : List AirCell). a ∷ cs) same
    one false same = same
cells-append side (event.Arrival at_side at frame ∷ xs) ys = cells-append side xs ys
cells-append side (event.Delay at at_side id value ∷ xs) ys = cells-append side xs ys
cells-append side (event.Count at_side k value ∷ xs) ys = cells-append side xs ys

pub cells-none : (side : Side) → cells_heard side [] ≡ []
unfolding cells_heard
cells-none side = refl

-- those of one unit
pub cells-own : (side : Side) (cs : List AirCell) → AreOf side cs → cells_heard side (map event.Cell cs) ≡ cs
unfolding cells_heard
cells-own side [] all = refl
cells-own side (a ∷ cs) all =
    let P = λ (x : AirCell). x.side ≡ side in
    ap (λ (b : Bool). let zs : List AirCell = if b then a ∷ cells_heard side (map event.Cell cs) else cells_heard side (map event.Cell cs) in zs)
    (is_own side a.side (All-head P a cs all))
    ∙ ap (λ (xs : List AirCell). a ∷ xs) (cells-own side cs (All-tail P a cs all))

-- and of the other
pub cells-other : (side other : Side) (cs : List AirCell) → is_of side other ≡ false → AreOf other cs → cells_heard side (map event.Cell cs) ≡ []
unfolding cells_heard
cells-other side other [] apart all = refl
cells-other side other (a ∷ cs) apart all =
    let P = λ (x : AirCell). x.side ≡ other in
    ap (λ (b : Bool). let zs : List AirCell = if b then a ∷ cells_heard side (map event.Cell cs) else cells_heard side (map event.Cell cs) in zs)
    (ap (is_of side) (All-head P a cs all) ∙ apart)
    ∙ cells-other side other cs apart (All-tail P a cs all)

-- frames and their results tell none
pub cells-results : (side other : Side) (at : ℤ) (rs : List DelayResult) → cells_heard side (map (result_event other at) rs) ≡ []
unfolding cells_heard
cells-results side other at [] = refl
cells-results side other at (r ∷ rs) = cells-results side other at rs

pub cells-told : (side other : Side) (x : Arrival) (rs : List DelayResult) → cells_heard side (arrival_told other x rs) ≡ []
unfolding cells_heard
cells-told side other x rs = cells-results side other x.at rs

pub cells-arrivals : (side other : Side) (results : List (List DelayResult)) (xs : List Arrival) → cells_heard side (arrivals_told other results xs) ≡ []
cells-arrivals side other results xs =
    told_kept (λ es. cells_heard side es ≡ []) (cells-none side) (λ es fs p q. cells-append side es fs ∙ ap₂ ◌++◌ p q) other (cells-told side other) results xs

-- ---- arrivals
