-- Two data messages with one sequence id that leave so near to one another that their fragments may fall into one generation
-- (O-RAN.WG4.CUS, sequence identifiers of 8 bits; the test is this project's profile). All in ticks.
use Rattle.std.specs.Prelude.{ℕ, ℤ, pos, neg_ℤ, ◌^◌, ◌≤ℤ◌, ◌+◌, ◌+ℤ◌, ◌-ℤ◌, Bool, ◌&&◌, nat_lt, int_le, if◌then◌else◌, List, [], ◌∷◌, drop, map, Option, Some, None}
use Rattle.window_config.specs.Windows.{ticks_of_ns}
use Rattle.window_config.specs.declared.config.Config.{Config}
use Rattle.window_config.specs.declared.delays.Delays.{Delays}
use Rattle.window_config.specs.declared.endpoints.EndpointConfig.{EndpointConfig}
use Rattle.plan_model.specs.Departures.{sent_at}
use Rattle.plan_model.specs.Packs.{Numbered}
use Rattle.plan_model.specs.Streams.{Part, messages_of}
use Rattle.plan_model.specs.declared.dense.Dense.{Dense}
use Rattle.plan_model.specs.declared.dense.Sending.{Sending}
use Rattle.plan_model.specs.declared.lines.PlannedLine.{PlannedLine}
use Rattle.plan_model.specs.declared.streams.Stream.{Stream}
use Rattle.plan_model.specs.declared.streams.Stream.TheVariants.{DownData, UpData}

-- how near is too near: a generation's time, and how much longer one frame may take than another
abbrev pub distance_with : ℤ → ℤ → ℤ → ℤ
distance_with hold least most = ticks_of_ns (hold +ℤ (most -ℤ least))

abbrev pub down_distance : Delays → ℤ
down_distance d = distance_with d.hold_dl d.t12.min d.t12.max

abbrev pub up_distance : Delays → ℤ
up_distance d = distance_with d.hold_ul d.t34.min d.t34.max

-- two times are no more than a distance apart, whichever is the earlier
abbrev pub is_near : ℤ → ℤ → ℤ → Bool
is_near distance a b = int_le (a -ℤ b) distance && int_le (b -ℤ a) distance

-- its time is one that can be told
pub record IsSending (s : Sending) : Type 0 where
  pub low : neg_ℤ (pos (2 ^ 57)) ≤ℤ s.at.0
  pub high : s.at.0 ≤ℤ pos (2 ^ 57)

-- when a message's first frame leaves, and the place of its first part's line
abbrev pub sending_of : Config → Stream → Numbered Part → Sending
sending_of c stream n = record { at = record { 0 = sent_at c stream n 0 }; line = n.message.first.planned.index }

abbrev pub sendings : Config → List PlannedLine → Stream → ℕ → EndpointConfig → List Sending
sendings c lines stream ep e = map (sending_of c stream) (messages_of c lines stream ep e)

-- the first of these, the first of which has the number k, that leaves near to its fellow in the other list
unfoldable pub first_near : ℤ → ℕ → List Sending → List Sending → Option Dense
first_near distance k [] later = None
first_near distance k (a ∷ earlier) [] = None
first_near distance k (a ∷ earlier) (b ∷ later) =
    if is_near distance a.at.0 b.at.0 then Some (record { number = k; line = b.line }) else first_near distance (k + 1) earlier later

abbrev pub dense_in : ℤ → List Sending → Option Dense
dense_in distance all = first_near distance 256 all (drop 256 all)

-- the one of the lesser number, the first of two with one
abbrev pub lesser : Option Dense → Option Dense → Option Dense
lesser None y = y
lesser (Some p) None = Some p
lesser (Some p) (Some q) = if nat_lt q.number p.number then Some q else Some p

-- over these endpoints, of which the first has the index `ep`
unfoldable pub dense_from : Config → List PlannedLine → Stream → ℤ → ℕ → List EndpointConfig → Option Dense
dense_from c lines stream distance ep [] = None
dense_from c lines stream distance ep (e ∷ es) =
    lesser (dense_in distance (sendings c lines stream ep e)) (dense_from c lines stream distance (ep + 1) es)

-- over all: of one number the downlink's before the uplink's, and in each direction by endpoint
abbrev pub dense : Config → List PlannedLine → Option Dense
dense c lines =
    lesser (dense_from c lines DownData (down_distance c.delays) 0 c.endpoints) (dense_from c lines UpData (up_distance c.delays) 0 c.endpoints)
