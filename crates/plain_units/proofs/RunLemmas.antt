-- What units make of whole lists of frames.
use Rattle.std.proofs.Common.{◌≡◌, ℕ, ℤ, ◌+◌, ◌<◌, List, [], ◌∷◌, ◌++◌, length, take, get_or, refl, sym, ap, ◌∙◌, arith}
use Rattle.std.proofs.lemmas.List.{take_more, map-append}
use Rattle.unit_model.specs.Terms.{AirCell, Side, Du, Config, EndpointConfig}
use Rattle.ecpri_frames.specs.Gathering.{whole_messages}
use Rattle.ecpri_frames.specs.Messages.{Message}
use Rattle.fault_counters.specs.declared.kinds.Counter.{Counter}
use Rattle.fault_counters.specs.Counts.{capped, count_of, once, times}
use Rattle.unit_model.specs.Blocks.{data_verdicts}
use Rattle.unit_model.specs.Commands.{command_verdicts}
use Rattle.unit_model.specs.Counts.{StandAt, block_counter, cells_counted, commands_counted, data_counted, frames_counted, messages_counted, counted_of}
use Rattle.fh_base.specs.Lists.{onto}
use Rattle.unit_model.specs.Meetings.{Arrival, Meeting, Ignored, Commands, Piece, meet, met_in, meetings, commands}
use Rattle.plain_units.specs.Plain.{arrival_of, arrivals_after, arrivals_of}
use Rattle.unit_model.specs.Reports.{hold_of, met, commands_of, data_of, arrivals_counted}
use Rattle.plain_units.specs.declared.report.TimedFrame.{TimedFrame}
use Rattle.unit_model.proofs.CommandLaws.{IsNoCommand, none_met}
use Rattle.unit_model.proofs.CountLemmas.{times-append}

-- ---- frames in their order

after-append : (earlier : List Arrival) (xs : List TimedFrame) (x : TimedFrame) → arrivals_after earlier (xs ++ x ∷ []) ≡ arrival_of x ∷ arrivals_after earlier xs
unfolding arrivals_after
after-append earlier [] x = refl
after-append earlier (y ∷ xs) x = after-append (arrival_of y ∷ earlier) xs x

pub arrivals_more : (xs : List TimedFrame) (i : ℕ) (x : TimedFrame) → i < length xs → x ≡ get_or xs i x → arrivals_of (take (i + 1) xs) ≡ arrival_of x ∷ arrivals_of (take i xs)
arrivals_more xs i x inside is =
    ap arrivals_of (take_more xs i x inside) ∙ after-append [] (take i xs) (get_or xs i x) ∙ ap (λ y. arrival_of y ∷ arrivals_of (take i xs)) (sym is)

-- ---- counts of cells

pub some_cell : (xs : List AirCell) (i : ℕ) → i < length xs → AirCell
some_cell [] i h = absurd (omega arith)
some_cell (x ∷ xs) i h = x

abbrev counter_of : AirCell → Counter
counter_of c = block_counter c.block

pub cells_more : (xs : List AirCell) (i : ℕ) (d : AirCell) (k : Counter) → i < length xs
    → times (cells_counted (take (i + 1) xs)) k ≡ times (cells_counted (take i xs)) k + once (block_counter (get_or xs i d).block) k
cells_more xs i d k inside =
    let one : List AirCell = get_or xs i d ∷ [] in
    let joined : cells_counted (take (i + 1) xs) ≡ cells_counted (take i xs) ++ cells_counted one = ap cells_counted (take_more xs i d inside) ∙ map-append counter_of (take i xs) one in
    let all : times (cells_counted (take (i + 1) xs)) k ≡ times (cells_counted (take i xs)) k + times (cells_counted one) k =
    ap (λ ys. times ys k) joined ∙ times-append (cells_counted (take i xs)) (cells_counted one) k in
    omega (arith, all)

pub cell_number : (x y n t u o : ℕ) → x ≡ capped (n + t) → y ≡ capped (x + o) → u ≡ t + o → y ≡ capped (n + u)
cell_number x y n t u o h g e = omega arith

-- all that is counted
all_counted : (frames messages cs ds cells : List Counter) (k : Counter)
    → ((times frames k + times messages k) + (times cs k + times ds k)) + times cells k ≡ times (frames ++ (messages ++ (cs ++ ds)) ++ cells) k
all_counted frames messages cs ds cells k =
    omega (arith, times-append (frames ++ (messages ++ (cs ++ ds))) cells k, times-append frames (messages ++ (cs ++ ds)) k, times-append messages (cs ++ ds) k, times-append cs ds k)

module _ (side : Side) (c : Config) (arrivals : List Arrival) where
  abbrev ms : List Meeting
  ms = met side c arrivals

  abbrev controls : List Counter
  controls = commands_counted (command_verdicts c.delays (commands_of side c arrivals))

  abbrev users : List Counter
  users = data_counted (data_verdicts side c.delays (data_of side c arrivals))

  -- so many were counted of what arrived
  abbrev pub counted_before : Counter → ℕ
  counted_before k = counted_of side (hold_of side c.delays) arrivals ms k + (times controls k + times users k)

  -- with the cells that were reported
  pub report_counted : (cells told : List AirCell) (counts : List ℕ) → cells ≡ told → ((k : Counter) → count_of counts k ≡ capped (counted_before k + times (cells_counted cells) k))
      → StandAt counts (arrivals_counted side c arrivals ++ cells_counted told)
  report_counted cells told counts same h = λ k.
      h k ∙ ap (λ xs. capped (counted_before k + times (cells_counted xs) k)) same
      ∙ ap capped (all_counted (frames_counted arrivals) (messages_counted side (hold_of side c.delays) ms) controls users (cells_counted told) k)

-- ---- the distributed unit meets no command

commands_without : (m : Meeting) (ms : List Meeting) → IsNoCommand m → commands (m ∷ ms) ≡ commands ms
unfolding commands
commands_without (Ignored c) ms h = refl
commands_without (Commands cs) ms h = absurd h
commands_without (Piece e f) ms h = refl

none_in : (es : List EndpointConfig) (at : ℤ) (xs : List Message) (ms : List Meeting) → commands ms ≡ [] → commands (onto ms (met_in Du es at xs)) ≡ []
unfolding onto
none_in es at [] ms h = h
none_in es at (x ∷ xs) ms h = none_in es at xs (meet Du es at x ∷ ms) (commands_without (meet Du es at x) ms (none_met es at x) ∙ h)

pub no_commands : (es : List EndpointConfig) (arrivals : List Arrival) → commands (meetings Du es arrivals) ≡ []
unfolding meetings commands
no_commands es [] = refl
no_commands es (a ∷ earlier) = none_in es a.at (whole_messages a.frame) (meetings Du es earlier) (no_commands es earlier)
