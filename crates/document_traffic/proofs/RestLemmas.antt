-- Frames with messages of delay measurement alone leave a unit all but its counters as it is.
use Rattle.std.proofs.Common.{◌≡◌, ℕ, ℤ, zero, suc, pos, ◌+ℤ◌, Bool, true, false, if◌then◌else◌, List, [], ◌∷◌, ◌++◌, refl, ap, ap₂, sym, ◌∙◌}
use Rattle.std.specs.Prelude.{filter}
use Rattle.std.specs.List.{list_all}
use Rattle.std.specs.Ordering.{int_eq}
use Rattle.std.proofs.lemmas.Bool.{and_parts}
use Rattle.air_source.specs.declared.events.Side.{Side}
use Rattle.air_source.specs.declared.events.Side.TheVariants.{Ru, Du}
use Rattle.ecpri_fragments.specs.Generations.{Fragment}
use Rattle.ecpri_frames.specs.Gathering.{whole_messages}
use Rattle.ecpri_frames.specs.Messages.{Message, is_delay}
use Rattle.replay_laws.specs.Moments.{all_arrivals, arrivals_in, landing_at}
use Rattle.replay_laws.specs.Traffic.{reported_at}
use Rattle.fh_base.proofs.OntoLemmas.{onto_none}
use Rattle.unit_model.specs.Blocks.{timely}
use Rattle.unit_model.specs.Commands.{accepted}
use Rattle.unit_model.specs.Decoding.{data_now, data_sections, data_told}
use Rattle.fh_base.specs.Lists.{onto}
use Rattle.unit_model.specs.Meetings.{Arrival, Commands, Ignored, Meeting, Piece, commands, fragments, meet, meetings, met_in}
use Rattle.unit_model.specs.Radiated.{first_clock, known_of, reported}
use Rattle.unit_model.specs.Reports.{accepted_of, commands_of, data_of, hold_of, met, timely_of}
use Rattle.unit_model.specs.declared.allocations.Allocation.{Allocation}
use Rattle.unit_model.specs.declared.decoded.ControlSection.{ControlSection}
use Rattle.unit_model.specs.declared.decoded.UserSection.{UserSection}
use Rattle.window_config.specs.declared.config.Config.{Config}
use Rattle.window_config.specs.declared.endpoints.EndpointConfig.{EndpointConfig}
use Rattle.document_traffic.proofs.ListLemmas.{filter_onto, filter_swap}
use Rattle.document_traffic.specs.MeasuredLaws.{LeaveTheSame, OnlyDelaysRest}
use Rattle.document_traffic.specs.Measured.{has_only_delays}

-- ---- messages that are counted and no more

-- it is more than counted
abbrev pub is_heeded : Meeting → Bool
is_heeded (Ignored k) = false
is_heeded (Commands cs) = true
is_heeded (Piece e f) = true

commands_heeded : (ms : List Meeting) → commands (filter is_heeded ms) ≡ commands ms
unfolding commands
commands_heeded [] = refl
commands_heeded (Ignored k ∷ ms) = commands_heeded ms
commands_heeded (Commands cs ∷ ms) = ap (λ (earlier : List ControlSection). onto earlier cs) (commands_heeded ms)
commands_heeded (Piece e f ∷ ms) = commands_heeded ms

fragments_heeded : (ms : List Meeting) → fragments (filter is_heeded ms) ≡ fragments ms
unfolding fragments
fragments_heeded [] = refl
fragments_heeded (Ignored k ∷ ms) = fragments_heeded ms
fragments_heeded (Commands cs ∷ ms) = fragments_heeded ms
fragments_heeded (Piece e f ∷ ms) = ap (λ (fs : List Fragment). f ∷ fs) (fragments_heeded ms)

sections_heeded : (side : Side) (hold : ℤ) (ms : List Meeting) → data_sections side hold (filter is_heeded ms) ≡ data_sections side hold ms
unfolding data_sections
sections_heeded side hold [] = refl
sections_heeded side hold (Ignored k ∷ ms) = sections_heeded side hold ms
sections_heeded side hold (Commands cs ∷ ms) = sections_heeded side hold ms
sections_heeded side hold (Piece e f ∷ ms) =
    ap₂ (λ (fs : List Fragment) (ds : List UserSection). data_told (data_now side hold e f fs) ++ ds) (fragments_heeded ms) (sections_heeded side hold ms)

delay_met : (side : Side) (es : List EndpointConfig) (at : ℤ) (m : Message) → is_delay m ≡ true → is_heeded (meet side es at m) ≡ false
unfolding meet
delay_met side es at m is = rw is refl

none_heeded : (side : Side) (es : List EndpointConfig) (at : ℤ) (ms : List Message) → list_all is_delay ms ≡ true → filter is_heeded (met_in side es at ms) ≡ []
none_heeded side es at [] all = refl
none_heeded side es at (m ∷ ms) all =
    let parts = and_parts (is_delay m) (list_all is_delay ms) all in
    let here = delay_met side es at m parts.0 in
    rw here (none_heeded side es at ms parts.1)

-- ---- arrivals

first_met : (side : Side) (es : List EndpointConfig) (a : Arrival) (earlier : List Arrival) → filter is_heeded (meetings side es (a ∷ earlier))
    ≡ onto (filter is_heeded (meetings side es earlier)) (filter is_heeded (met_in side es a.at (whole_messages a.frame)))
unfolding meetings
first_met side es a earlier = filter_onto is_heeded (meetings side es earlier) (met_in side es a.at (whole_messages a.frame))

module _ (side : Side) (es : List EndpointConfig) (stays : Arrival → Bool) (only : (a : Arrival) → stays a ≡ false → has_only_delays a.frame ≡ true) where
  heeded : List Arrival → List Meeting
  heeded arrivals = filter is_heeded (meetings side es arrivals)

  heeded_first : (a : Arrival) (earlier : List Arrival) (b : Bool) → stays a ≡ b → heeded (filter stays earlier) ≡ heeded earlier
      → heeded (if b then a ∷ filter stays earlier else filter stays earlier) ≡ heeded (a ∷ earlier)
  unfolding heeded
  heeded_first a earlier true is same =
      let new = filter is_heeded (met_in side es a.at (whole_messages a.frame)) in
      first_met side es a (filter stays earlier) ∙ ap (λ (ms : List Meeting). onto ms new) same ∙ sym (first_met side es a earlier)
  heeded_first a earlier false is same =
      let old = heeded earlier in
      same ∙ sym (onto_none old) ∙ ap (λ (ms : List Meeting). onto old ms) (sym (none_heeded side es a.at (whole_messages a.frame) (only a is))) ∙ sym (first_met side es a earlier)

  heeded_same : (arrivals : List Arrival) → heeded (filter stays arrivals) ≡ heeded arrivals
  heeded_same [] = refl
  heeded_same (a ∷ earlier) = heeded_first a earlier (stays a) refl (heeded_same earlier)

  pub same_heeded : (arrivals : List Arrival) → filter is_heeded (meetings side es (filter stays arrivals)) ≡ filter is_heeded (meetings side es arrivals)
  unfolding heeded
  same_heeded arrivals = heeded_same arrivals

-- ---- what they leave

known_same : (side : Side) (c : Config) (planned : List Allocation) (to : ℤ) (these those : List Arrival) → accepted_of c these ≡ accepted_of c those → timely_of side c these ≡ timely_of side c those
    → reported_at side c planned these to ≡ reported_at side c planned those to
known_same Ru c planned to these those accepted timely =
    ap₂ (λ (claimed : List Allocation) (ds : List UserSection). reported Ru c.delays c.endpoints (known_of claimed ds) to) accepted timely
known_same Du c planned to these those accepted timely =
    ap (λ (ds : List UserSection). reported Du c.delays c.endpoints (known_of planned ds) to) timely

-- of arrivals with the same messages but for those that are counted alone
module _ (c : Config) (these those : List Arrival) (same : (side : Side) → filter is_heeded (met side c these) ≡ filter is_heeded (met side c those)) where
  same_commands : (side : Side) → commands_of side c these ≡ commands_of side c those
  same_commands side = sym (commands_heeded (met side c these)) ∙ ap commands (same side) ∙ commands_heeded (met side c those)

  same_sections : (side : Side) → data_of side c these ≡ data_of side c those
  same_sections side =
      let hold = hold_of side c.delays in
      sym (sections_heeded side hold (met side c these)) ∙ ap (data_sections side hold) (same side) ∙ sections_heeded side hold (met side c those)

  same_fragments : (side : Side) → fragments (met side c these) ≡ fragments (met side c those)
  same_fragments side = sym (fragments_heeded (met side c these)) ∙ ap fragments (same side) ∙ fragments_heeded (met side c those)

  pub leave_the_same : (side : Side) → LeaveTheSame side c these those
  leave_the_same side =
      let accepted_same = ap (accepted c.delays) (same_commands Ru) in
      let timely_same = ap (timely side c.delays) (same_sections side) in
      record {
        commands = same_commands side;
        sections = same_sections side;
        fragments = same_fragments side;
        accepted = accepted_same;
        timely = timely_same;
        reported = λ planned to. known_same side c planned to these those accepted_same timely_same;
      }

pub only_delays_rest : OnlyDelaysRest
only_delays_rest side c stays arrivals only =
    leave_the_same c (filter stays arrivals) arrivals (λ s. same_heeded s c.endpoints stays only arrivals) side

-- ---- landings

arrivals_filter : (stays : Arrival → Bool) (landings : List Arrival) (n : ℕ) → filter stays (arrivals_in landings n) ≡ arrivals_in (filter stays landings) n
unfolding arrivals_in
arrivals_filter stays landings zero = refl
arrivals_filter stays landings (suc n) =
    let t : ℤ = first_clock +ℤ pos n in
    filter_onto stays (arrivals_in landings n) (landing_at landings t)
    ∙ ap₂ (λ (earlier new : List Arrival). onto earlier new) (arrivals_filter stays landings n) (filter_swap stays (λ (a : Arrival). int_eq a.at t) landings)

pub all_filter : (stays : Arrival → Bool) (landings : List Arrival) → filter stays (all_arrivals landings) ≡ all_arrivals (filter stays landings)
all_filter stays landings = arrivals_filter stays landings _

-- of landings with the same frames but for those with messages of delay measurement alone
pub landings_leave_the_same : (c : Config) (stays : Arrival → Bool) (these those : List Arrival) → ((a : Arrival) → stays a ≡ false → has_only_delays a.frame ≡ true) → filter stays these ≡ filter stays those
    → (side : Side) → LeaveTheSame side c (all_arrivals these) (all_arrivals those)
landings_leave_the_same c stays these those only same =
    leave_the_same c (all_arrivals these) (all_arrivals those) (λ s.
    sym (same_heeded s c.endpoints stays only (all_arrivals these))
    ∙ ap (λ (arrivals : List Arrival). filter is_heeded (met s c arrivals)) (all_filter stays these ∙ ap all_arrivals same ∙ sym (all_filter stays those))
    ∙ same_heeded s c.endpoints stays only (all_arrivals those))
