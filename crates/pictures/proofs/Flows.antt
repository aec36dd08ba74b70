-- One arrival more among all flows.
use Rattle.std.proofs.Common.{◌≡◌, ◌≤◌, ◌==◌, Bool, true, false, if◌then◌else◌, List, [], ◌∷◌, ◌++◌, length, sym, ap, ◌∙◌, arith, append-nil}
use Rattle.std.proofs.lemmas.List.Elements.{filter-append}
use Rattle.std.proofs.lemmas.List.Sums.{count_by-le-length, length-filter}
use Rattle.pictures.specs.declared.arrivals.Arrival.{Arrival}
use Rattle.pictures.specs.declared.arrivals.Flow.{Flow}
use Rattle.pictures.specs.declared.arrivals.Flow.TheVariants.{DownlinkCommands, UplinkCommands, DownlinkData, UplinkData}
use Rattle.pictures.specs.declared.rows.Rows.{Rows}
use Rattle.pictures.specs.Rows.{number_of, of_flow, rows_of}
use Rattle.pictures.specs.Tallies.{Tally, tally_of}

-- an arrival of the flow is the last of them
pub flow_more : (flow : Flow) (came : List Arrival) (a : Arrival) → (number_of a.flow == number_of flow) ≡ true → of_flow flow (came ++ a ∷ []) ≡ of_flow flow came ++ a ∷ []
flow_more flow came a is =
    filter-append (λ (x : Arrival). number_of x.flow == number_of flow) came (a ∷ [])
    ∙ ap (λ (b : Bool). of_flow flow came ++ (if b then a ∷ [] else [])) is

-- one of another flow is none of them
pub flow_same : (flow : Flow) (came : List Arrival) (a : Arrival) → (number_of a.flow == number_of flow) ≡ false → of_flow flow (came ++ a ∷ []) ≡ of_flow flow came
flow_same flow came a is =
    filter-append (λ (x : Arrival). number_of x.flow == number_of flow) came (a ∷ [])
    ∙ ap (λ (b : Bool). of_flow flow came ++ (if b then a ∷ [] else [])) is
    ∙ append-nil (of_flow flow came)

-- a flow has no more arrivals than all have
pub flow_few : (flow : Flow) (came : List Arrival) → length (of_flow flow came) ≤ length came
flow_few flow came =
    omega (arith, length-filter (λ (x : Arrival). number_of x.flow == number_of flow) came, count_by-le-length (λ (x : Arrival). number_of x.flow == number_of flow) came)

-- ---- the rows

pub grown : (flow : Flow) (came : List Arrival) (a : Arrival) (t : Tally) → a.flow ≡ flow → (number_of flow == number_of flow) ≡ true → t ≡ tally_of (of_flow flow came ++ a ∷ [])
    → t ≡ tally_of (of_flow flow (came ++ a ∷ []))
grown flow came a t is same more = more ∙ ap tally_of (sym (flow_more flow came a (ap (λ (f : Flow). number_of f == number_of flow) is ∙ same)))

pub kept : (flow its : Flow) (came : List Arrival) (a : Arrival) (t : Tally) → a.flow ≡ its → (number_of its == number_of flow) ≡ false → t ≡ tally_of (of_flow flow came)
    → t ≡ tally_of (of_flow flow (came ++ a ∷ []))
kept flow its came a t is differs was = was ∙ ap tally_of (sym (flow_same flow came a (ap (λ (f : Flow). number_of f == number_of flow) is ∙ differs)))

rows_eq : (a b c d x y z v : Tally) → a ≡ x → b ≡ y → c ≡ z → d ≡ v
    → (let one : Rows = record { downlink_commands = a; uplink_commands = b; downlink_data = c; uplink_data = d } in one)
    ≡ (let other : Rows = record { downlink_commands = x; uplink_commands = y; downlink_data = z; uplink_data = v } in other)
rows_eq a b c d x y z v p q r w = cc

pub rows_are : (a b c d : Tally) (came : List Arrival) → a ≡ tally_of (of_flow DownlinkCommands came) → b ≡ tally_of (of_flow UplinkCommands came)
    → c ≡ tally_of (of_flow DownlinkData came) → d ≡ tally_of (of_flow UplinkData came)
    → (let one : Rows = record { downlink_commands = a; uplink_commands = b; downlink_data = c; uplink_data = d } in one) ≡ rows_of came
unfolding rows_of
rows_are a b c d came p q u v = rows_eq a b c d _ _ _ _ p q u v

pub row_downlink_commands : (r : Rows) (came : List Arrival) → r ≡ rows_of came → r.downlink_commands ≡ tally_of (of_flow DownlinkCommands came)
unfolding rows_of
row_downlink_commands r came is = ap (λ (x : Rows). x.downlink_commands) is

pub row_uplink_commands : (r : Rows) (came : List Arrival) → r ≡ rows_of came → r.uplink_commands ≡ tally_of (of_flow UplinkCommands came)
unfolding rows_of
row_uplink_commands r came is = ap (λ (x : Rows). x.uplink_commands) is

pub row_downlink_data : (r : Rows) (came : List Arrival) → r ≡ rows_of came → r.downlink_data ≡ tally_of (of_flow DownlinkData came)
unfolding rows_of
row_downlink_data r came is = ap (λ (x : Rows). x.downlink_data) is

pub row_uplink_data : (r : Rows) (came : List Arrival) → r ≡ rows_of came → r.uplink_data ≡ tally_of (of_flow UplinkData came)
unfolding rows_of
row_uplink_data r came is = ap (λ (x : Rows). x.uplink_data) is
