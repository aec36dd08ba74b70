-- What is known of all that was read of some arrivals.
use Rattle.std.proofs.Common.{◌≡◌, ℕ, ℤ, ◌≤ℤ◌, Bool, true, false, List, [], ◌∷◌, Option, Some, None, Result, Ok, Err, refl, sym, subst}
use Rattle.std.specs.Prelude.{All, ◌==◌, ◌||◌, not, nat_lt, length, if◌then◌else◌}
use Rattle.std.proofs.lemmas.List.Elements.{All-nil, All-cons, All-head, All-tail, All-append, All-weaker}
use Rattle.fh_base.specs.Numbering.{shape_of}
use Rattle.unit_model.specs.Terms.{Side, Ru, Du}
use Rattle.cplane_sections.specs.declared.values.CHead.{CHead}
use Rattle.cplane_sections.specs.declared.values.CRefusal.{CRefusal}
use Rattle.cplane_sections.specs.Tests.{checked}
use Rattle.cplane_sections.proofs.Admitted.{admitted, fits}
use Rattle.ecpri_fragments.specs.Generations.{Fragment}
use Rattle.ecpri_fragments.specs.Verdicts.{first_of, message, standing_before, verdict_on, whole_of}
use Rattle.ecpri_fragments.specs.declared.verdict.Verdict.{Verdict}
use Rattle.ecpri_fragments.specs.declared.verdict.Verdict.TheVariants as fragment
use Rattle.ecpri_frames.specs.Gathering.{whole_messages}
use Rattle.ecpri_frames.specs.Messages.{Message}
use Rattle.window_config.specs.declared.endpoints.EndpointConfig.{EndpointConfig}
use Rattle.unit_model.specs.Decoding.{data_now, data_sections, data_told, decoded_now}
use Rattle.fh_base.specs.Lists.{onto}
use Rattle.ecpri_fragments.specs.Pieces.{joined}
use Rattle.unit_model.specs.Meetings.{Arrival, Meeting, Ignored, Commands, Piece, command_read, commands, control_met, find_endpoint, fragment_of, fragments, meet, meetings, met_by, met_in}
use Rattle.unit_model.specs.Proper.{IsAt, IsTime, IsProperCommand, IsProperData}
use Rattle.unit_model.specs.Reports.{hold_of}
use Rattle.unit_model.specs.Standing.{AreInTime}
use Rattle.unit_laws.specs.Far.{IsHeard, IsHeardData}
use Rattle.unit_laws.specs.Histories.{CommandsAreHeard, DataAreHeard, CommandsAreProper, DataAreProper}
use Rattle.unit_laws.proofs.ReadLemmas.{IsReadCommand, IsReadData, commands_read, decode_read}
use Rattle.ecpri_frames.specs.declared.heads.TheConstants.{ONE_WAY_DELAY, REAL_TIME_CONTROL, IQ_DATA}
use Rattle.ecpri_fragments.proofs.Standing.{all_stood}
use Rattle.fh_base.proofs.Orders.{at_most}
use Rattle.std.specs.Int.Signed.{≤ℤ_refl}
use Rattle.ecpri_fragments.specs.Sequence.{id_of, sequence_of, application, is_fragmented}
use Rattle.fh_base.proofs.OntoLemmas.{All-onto}
use Rattle.unit_model.proofs.EndpointLemmas.{found_at}

-- ---- fragments up to a time

pub record IsBy (T : ℤ → Type 0) (clock : ℤ) (f : Fragment) : Type 0 where
  pub time : T f.at
  pub by : f.at ≤ℤ clock

-- the first of them
first_by : (T : ℤ → Type 0) (clock : ℤ) (f : Fragment) (s : List Fragment) → IsBy T clock f → All (IsBy T clock) s → T (first_of (f ∷ s)) × (first_of (f ∷ s) ≤ℤ clock)
first_by T clock f [] p h = (p.time, p.by)
first_by T clock f (g ∷ s) p h = first_by T clock g s (All-head (IsBy T clock) g s h) (All-tail (IsBy T clock) g s h)

-- ---- meetings in time

abbrev MetAt : List EndpointConfig → (ℤ → Type 0) → ℤ → Meeting → Type 0
MetAt es T t (Ignored c) = Unit {0}
MetAt es T t (Commands cs) = All (IsReadCommand es T) cs
MetAt es T t (Piece e f) = IsAt es f.ep e × T f.at × (f.at ≡ t)

-- each of these at its time, which is no later than those after it
abbrev AreMet : List EndpointConfig → (ℤ → Type 0) → ℤ → List Meeting → Type 0
AreMet es T clock [] = Unit {0}
AreMet es T clock (m ∷ earlier) = (t : ℤ) × (t ≤ℤ clock) × MetAt es T t m × AreMet es T t earlier

module _ (es : List EndpointConfig) (T : ℤ → Type 0) where
  met_later : (clock later : ℤ) (ms : List Meeting) → clock ≤ℤ later → AreMet es T clock ms → AreMet es T later ms
  met_later clock later [] order h = tt
  met_later clock later (m ∷ ms) order h = (h.0, at_most h.0 clock later h.1 order, h.2, h.3)

  met_onto : (t : ℤ) (earlier xs : List Meeting) → AreMet es T t earlier → All (MetAt es T t) xs → AreMet es T t (onto earlier xs)
  unfolding onto
  met_onto t earlier [] h all = h
  met_onto t earlier (x ∷ xs) h all = met_onto t (x ∷ earlier) xs (t, ≤ℤ_refl t, All-head (MetAt es T t) x xs all, h) (All-tail (MetAt es T t) x xs all)

  choice : (t : ℤ) (b : Bool) (x y : Meeting) → MetAt es T t x → MetAt es T t y → MetAt es T t (if b then x else y)
  choice t true x y h k = h
  choice t false x y h k = k

  read_met : (ep : ℕ) (e : EndpointConfig) (at : ℤ) (bytes : List ℕ) (r : Result CHead CRefusal) → IsAt es ep e → T at → checked (shape_of e.numerology) bytes ≡ r
      → MetAt es T at (command_read ep e at bytes r)
  read_met ep e at bytes (Err r) i t is = tt
  read_met ep e at bytes (Ok head) i t is =
      commands_read es T ep e at head bytes (admitted (shape_of e.numerology) head bytes is) (fits (shape_of e.numerology) head bytes is) i t

  control_is : (side : Side) (ep : ℕ) (e : EndpointConfig) (at : ℤ) (payload : List ℕ) → IsAt es ep e → T at → MetAt es T at (control_met side ep e at payload)
  control_is Ru ep e at payload i t =
      choice at (is_fragmented (sequence_of payload)) _ (command_read ep e at (application payload) (checked (shape_of e.numerology) (application payload))) tt
      (read_met ep e at (application payload) (checked (shape_of e.numerology) (application payload)) i t refl)
  control_is Du ep e at payload i t = tt

  found_is : (side : Side) (kind : ℕ) (at : ℤ) (payload : List ℕ) (o : Option (ℕ × EndpointConfig)) → T at → find_endpoint es (id_of payload) ≡ o
      → MetAt es T at (met_by side kind at payload o)
  found_is side kind at payload None t is = tt
  found_is side kind at payload (Some (ep, e)) t is =
      let i = found_at es (id_of payload) ep e is in
      choice at (kind == REAL_TIME_CONTROL) (control_met side ep e at payload) (Piece e (fragment_of ep at payload)) (control_is side ep e at payload i t) (i, t, refl)

  meet_is : (side : Side) (at : ℤ) (m : Message) → T at → MetAt es T at (meet side es at m)
  unfolding meet
  meet_is side at m t =
      choice at (m.head.kind == ONE_WAY_DELAY) _ _ tt
      (choice at (not (m.head.kind == IQ_DATA || m.head.kind == REAL_TIME_CONTROL)) _ _ tt
      (choice at (nat_lt (length m.payload) 4) _ _ tt
      (found_is side m.head.kind at m.payload (find_endpoint es (id_of m.payload)) t refl)))

  all_met : (side : Side) (at : ℤ) (ms : List Message) → T at → All (MetAt es T at) (met_in side es at ms)
  all_met side at [] t = All-nil (MetAt es T at)
  all_met side at (m ∷ ms) t = All-cons (MetAt es T at) (meet side es at m) (met_in side es at ms) (meet_is side at m t) (all_met side at ms t)

  meetings_met : (side : Side) (clock : ℤ) (arrivals : List Arrival) → AreInTime clock arrivals → All (λ a. T a.at) arrivals → AreMet es T clock (meetings side es arrivals)
  unfolding meetings
  meetings_met side clock [] h times = tt
  meetings_met side clock (a ∷ earlier) h times =
      let P : Arrival → Type 0 = λ a. T a.at in
      met_later a.at clock (onto (meetings side es earlier) (met_in side es a.at (whole_messages a.frame))) h.0
      (met_onto a.at (meetings side es earlier) (met_in side es a.at (whole_messages a.frame)) (meetings_met side a.at earlier h.1 (All-tail P a earlier times))
      (all_met side a.at (whole_messages a.frame) (All-head P a earlier times)))

  commands_met : (clock : ℤ) (ms : List Meeting) → AreMet es T clock ms → All (IsReadCommand es T) (commands ms)
  unfolding commands
  commands_met clock [] h = All-nil (IsReadCommand es T)
  commands_met clock (Ignored c ∷ earlier) h = commands_met h.0 earlier h.3
  commands_met clock (Commands cs ∷ earlier) h = All-onto (IsReadCommand es T) (commands earlier) cs (commands_met h.0 earlier h.3) h.2
  commands_met clock (Piece e f ∷ earlier) h = commands_met h.0 earlier h.3

  fragments_by : (clock later : ℤ) (ms : List Meeting) → clock ≤ℤ later → AreMet es T clock ms → All (IsBy T later) (fragments ms)
  unfolding fragments
  fragments_by clock later [] order h = All-nil (IsBy T later)
  fragments_by clock later (Ignored c ∷ earlier) order h = fragments_by h.0 later earlier (at_most h.0 clock later h.1 order) h.3
  fragments_by clock later (Commands cs ∷ earlier) order h = fragments_by h.0 later earlier (at_most h.0 clock later h.1 order) h.3
  fragments_by clock later (Piece e f ∷ earlier) order h =
      let before = at_most h.0 clock later h.1 order in
      All-cons (IsBy T later) f (fragments earlier)
      (record { time = h.2.1; by = subst (λ (z : ℤ). z ≤ℤ later) (sym h.2.2) before }) (fragments_by h.0 later earlier before h.3)

  -- a message that a fragment makes whole
  whole_read : (side : Side) (v : Verdict) (e : EndpointConfig) (f : Fragment) (s : List Fragment) → IsAt es f.ep e → T f.at → All (IsBy T f.at) s
      → All (IsReadData es T) (data_told (decoded_now side e f (whole_of v f s)))
  whole_read side fragment.Stored e f s i t h = All-nil (IsReadData es T)
  whole_read side fragment.Repeat e f s i t h = All-nil (IsReadData es T)
  whole_read side fragment.Stray e f s i t h = All-nil (IsReadData es T)
  whole_read side fragment.TooLong e f s i t h = All-nil (IsReadData es T)
  whole_read side fragment.Whole e f s i t h =
      let first = first_by T f.at f s (record { time = t; by = ≤ℤ_refl f.at }) h in
      decode_read es T side f.ep e (first_of (f ∷ s)) f.at (joined (message (f ∷ s)).pieces) i first.0 t first.1

  data_met : (side : Side) (hold clock : ℤ) (ms : List Meeting) → AreMet es T clock ms → All (IsReadData es T) (data_sections side hold ms)
  unfolding data_sections
  data_met side hold clock [] h = All-nil (IsReadData es T)
  data_met side hold clock (Ignored c ∷ earlier) h = data_met side hold h.0 earlier h.3
  data_met side hold clock (Commands cs ∷ earlier) h = data_met side hold h.0 earlier h.3
  data_met side hold clock (Piece e f ∷ earlier) h =
      let before : h.0 ≤ℤ f.at = subst (λ (z : ℤ). h.0 ≤ℤ z) (sym h.2.2) (≤ℤ_refl h.0) in
      All-append (IsReadData es T) (data_told (data_now side hold e f (fragments earlier))) (data_sections side hold earlier)
      (whole_read side (verdict_on hold f (fragments earlier)) e f (standing_before hold f (fragments earlier)) h.2.0 h.2.1
      (all_stood (IsBy T f.at) hold f (fragments earlier) (fragments_by h.0 f.at earlier before h.3)))
      (data_met side hold h.0 earlier h.3)

-- ---- what callers need

all_come : (clock later : ℤ) (arrivals : List Arrival) → clock ≤ℤ later → AreInTime clock arrivals → All (λ a. a.at ≤ℤ later) arrivals
all_come clock later [] order h = All-nil (λ (a : Arrival). a.at ≤ℤ later)
all_come clock later (a ∷ earlier) order h =
    let here : a.at ≤ℤ later = at_most a.at clock later h.0 order in
    All-cons (λ (a : Arrival). a.at ≤ℤ later) a earlier here (all_come a.at later earlier here h.1)

pub commands_are_heard : CommandsAreHeard
commands_are_heard side c clock arrivals h =
    let T : ℤ → Type 0 = λ t. t ≤ℤ clock in
    let es = c.endpoints in
    All-weaker (IsReadCommand es T) (IsHeard es clock) (λ x is. record { endpoint = is.endpoint; start_symbol = is.start_symbol; come = is.at }) (commands (meetings side es arrivals))
    (commands_met es T clock (meetings side es arrivals) (meetings_met es T side clock arrivals h (all_come clock clock arrivals (≤ℤ_refl clock) h)))

pub data_are_heard : DataAreHeard
data_are_heard side c clock arrivals h =
    let T : ℤ → Type 0 = λ t. t ≤ℤ clock in
    let es = c.endpoints in
    let hold = hold_of side c.delays in
    All-weaker (IsReadData es T) (IsHeardData es clock) (λ x is. record { endpoint = is.endpoint; symbol = is.symbol; order = is.order; come = is.last })
    (data_sections side hold (meetings side es arrivals))
    (data_met es T side hold clock (meetings side es arrivals) (meetings_met es T side clock arrivals h (all_come clock clock arrivals (≤ℤ_refl clock) h)))

pub commands_are_proper : CommandsAreProper
commands_are_proper side c clock arrivals h times =
    let es = c.endpoints in
    All-weaker (IsReadCommand es IsTime) (IsProperCommand es)
    (λ x is. record {
      endpoint = is.endpoint;
      at = is.at;
      subframe = is.subframe;
      slot = is.slot;
      start_symbol = is.start_symbol;
      some = is.some;
      within = is.within;
      start_prb = is.start_prb;
    }) (commands (meetings side es arrivals))
    (commands_met es IsTime clock (meetings side es arrivals) (meetings_met es IsTime side clock arrivals h times))

pub data_are_proper : DataAreProper
data_are_proper side c clock arrivals h times =
    let es = c.endpoints in
    let hold = hold_of side c.delays in
    All-weaker (IsReadData es IsTime) (IsProperData es)
    (λ x is. record {
      endpoint = is.endpoint;
      first = is.first;
      last = is.last;
      subframe = is.subframe;
      slot = is.slot;
      symbol = is.symbol;
      within = is.within;
      blocks = is.blocks;
    }) (data_sections side hold (meetings side es arrivals))
    (data_met es IsTime side hold clock (meetings side es arrivals) (meetings_met es IsTime side clock arrivals h times))
