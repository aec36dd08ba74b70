-- What is kept is what was decoded.
use Rattle.std.proofs.Common.{◌≡◌, ℕ, ℤ, Bool, true, false, List, [], ◌∷◌, ◌++◌, map, refl, sym, ap, ap₂, ◌∙◌}
use Rattle.std.specs.Prelude.{filter, if◌then◌else◌, Option, Some, None, not, ◌==◌, ◌||◌, nat_lt, length}
use Rattle.std.specs.List.{AllByRecursion, flat_map}
use Rattle.std.proofs.lemmas.Grind.{flat_map-append}
use Rattle.std.proofs.lemmas.List.{map-append}
use Rattle.std.proofs.lemmas.List.Elements.{filter-append}
use Rattle.fh_base.specs.declared.values.Slot.{Slot}
use Rattle.ecpri_frames.specs.Gathering.{whole_messages}
use Rattle.ecpri_frames.specs.Messages.{Message}
use Rattle.ecpri_frames.specs.declared.heads.TheConstants.{IQ_DATA, ONE_WAY_DELAY, REAL_TIME_CONTROL}
use Rattle.ecpri_fragments.specs.Generations.{Fragment}
use Rattle.ecpri_fragments.specs.Verdicts.{whole_now}
use Rattle.ecpri_fragments.specs.Sequence.{id_of}
use Rattle.fault_counters.specs.declared.kinds.Counter.TheVariants as counter
use Rattle.air_source.specs.Units.{same_side}
use Rattle.air_source.specs.declared.events.Event.{Event}
use Rattle.air_source.specs.declared.events.Event.TheVariants as event
use Rattle.air_source.specs.declared.events.Side.{Side}
use Rattle.air_source.specs.declared.events.Side.TheVariants.{Ru, Du}
use Rattle.window_config.specs.declared.config.Config.{Config}
use Rattle.window_config.specs.declared.delays.Delays.{Delays}
use Rattle.window_config.specs.declared.endpoints.EndpointConfig.{EndpointConfig}
use Rattle.unit_model.specs.Decoding.{data_sections}
use Rattle.unit_model.specs.Meetings.{Arrival, Ignored, Meeting, Piece, find_endpoint, fragment_of, fragments, meet, met_by}
use Rattle.unit_model.specs.Reports.{hold_of, met}
use Rattle.unit_model.specs.Judgements.{Commanded, Fragmented, Given, Judgement, Met, Turned, Unread, judged_in, judged_meeting, judged_message, judgements}
use Rattle.explain_model.specs.Stories.{Story, arrival_with, stories, stories_in, told_after}
use Rattle.unit_model.specs.Heard.{arrivals_heard}
use Rattle.explain_model.specs.declared.data.DataRecord.{DataRecord}
use Rattle.explain_model.specs.declared.headers.HeaderRecord.{HeaderRecord}
use Rattle.explain_model.specs.declared.headers.HeaderWhy.{HeaderWhy}
use Rattle.explain_model.specs.Fragments.{fragment_in as kept_fragment, fragments_of_story, unit_fragments}
use Rattle.explain_model.specs.Records.{command_in, command_records, commands_of_story, data_in, data_of_story, data_record, data_records, header_in, header_records, header_with, headers_of_story}
use Rattle.explain_laws.specs.Decoded.{CommandedSection, RecordsAreDecoded, judged_of, GivenSection, Numbered, Undecoded, UnitIsKept, command_kept, commanded_in, data_kept, fragment_in, fragment_kept, given_in, header_kept, numbered, numbered_in, of_unit, undecoded_in}
use Rattle.explain_laws.proofs.DecodedLemmas.{are_decoded, now_judged}
use Rattle.explain_laws.proofs.StoryLemmas.{are_judged}
use Rattle.air_source.proofs.Sides.{side_same}

-- ---- numbers set aside

abbrev with_number : {A : Type 0} → ℕ → A → Numbered A
with_number n a = record { number = n; it = a }

number_aside : {A : Type 0} (n : ℕ) (xs : List A) → map (λ x. x.it) (map (with_number n) xs) ≡ xs
number_aside n [] = refl
number_aside n (x ∷ xs) = ap (λ r. x ∷ r) (number_aside n xs)

numbers_aside : {A : Type 0} (of : Judgement → List A) (ss : List Story) → map (λ x. x.it) (flat_map (numbered_in of) ss) ≡ flat_map of (flat_map (λ s. s.judged) ss)
numbers_aside of [] = refl
numbers_aside of (s ∷ ss) =
    map-append (λ x. x.it) (numbered_in of s) (flat_map (numbered_in of) ss)
    ∙ ap₂ ◌++◌ (number_aside s.number (flat_map of s.judged)) (numbers_aside of ss)
    ∙ sym (flat_map-append of s.judged (flat_map (λ t. t.judged) ss))

-- ---- records of what is judged

module _ (side : Side) (d : Delays) (n : ℕ) where
  data_one : (js : List Judgement) → flat_map (data_in side d n) js ≡ map (data_kept side d) (map (with_number n) (flat_map given_in js))
  data_one [] = refl
  data_one (Met m ∷ js) = data_one js
  data_one (Commanded s v ∷ js) = data_one js
  data_one (Fragmented e f v ∷ js) = data_one js
  data_one (Unread ep e m why ∷ js) = data_one js
  data_one (Turned ep e m ∷ js) = data_one js
  data_one (Given h v ∷ js) = ap (λ r. data_record side d n h v ∷ r) (data_one js)

  command_one : (js : List Judgement) → flat_map (command_in d n) js ≡ flat_map (command_kept d) (map (with_number n) (flat_map commanded_in js))
  command_one [] = refl
  command_one (Met m ∷ js) = command_one js
  command_one (Commanded s v ∷ js) = ap (λ r. command_in d n (Commanded s v) ++ r) (command_one js)
  command_one (Fragmented e f v ∷ js) = command_one js
  command_one (Unread ep e m why ∷ js) = command_one js
  command_one (Turned ep e m ∷ js) = command_one js
  command_one (Given h v ∷ js) = command_one js

module _ (side : Side) (n : ℕ) where
  header_one : (js : List Judgement) → flat_map (header_in side n) js ≡ flat_map (header_kept side) (map (with_number n) (flat_map undecoded_in js))
  header_one [] = refl
  header_one (Met m ∷ js) = header_one js
  header_one (Commanded s v ∷ js) = header_one js
  header_one (Fragmented e f v ∷ js) = header_one js
  header_one (Unread ep e m why ∷ js) = ap (λ r. header_in side n (Unread ep e m why) ++ r) (header_one js)
  header_one (Turned ep e m ∷ js) = ap (λ r. header_in side n (Turned ep e m) ++ r) (header_one js)
  header_one (Given h v ∷ js) = header_one js

fragment_one : (n : ℕ) (js : List Judgement) → flat_map (kept_fragment n) js ≡ map fragment_kept (map (with_number n) (flat_map fragment_in js))
fragment_one n [] = refl
fragment_one n (Met m ∷ js) = fragment_one n js
fragment_one n (Commanded s v ∷ js) = fragment_one n js
fragment_one n (Fragmented e f v ∷ js) = ap (λ r. record { number = n; endpoint = e; fragment = f; verdict = v } ∷ r) (fragment_one n js)
fragment_one n (Unread ep e m why ∷ js) = fragment_one n js
fragment_one n (Turned ep e m ∷ js) = fragment_one n js
fragment_one n (Given h v ∷ js) = fragment_one n js

-- ---- those of one unit

module _ (side : Side) where
  -- all of these are of a unit: they are kept or passed over together
  data_sided : (s : Side) (d : Delays) (b : Bool) → same_side s side ≡ b → (xs : List (Numbered GivenSection))
      → filter (λ r. same_side r.side side) (map (data_kept s d) xs) ≡ (if b then map (data_kept s d) xs else [])
  unfolding data_record
  data_sided s d true is [] = refl
  data_sided s d false is [] = refl
  data_sided s d true is (x ∷ xs) =
      ap₂ (λ (t : Bool) (r : List DataRecord). if t then data_kept s d x ∷ r else r) is (data_sided s d true is xs)
  data_sided s d false is (x ∷ xs) =
      ap₂ (λ (t : Bool) (r : List DataRecord). if t then data_kept s d x ∷ r else r) is (data_sided s d false is xs)

  header_sided : (s : Side) (b : Bool) → same_side s side ≡ b → (n ep : ℕ) (why : HeaderWhy) (o : Option (Slot × ℕ))
      → filter (λ r. same_side r.side side) (header_with s n ep why o) ≡ (if b then header_with s n ep why o else [])
  header_sided s true is n ep why None = refl
  header_sided s false is n ep why None = refl
  header_sided s true is n ep why (Some (slot, symbol)) =
      ap (λ (t : Bool). let r : HeaderRecord = record { side = s; ep = ep; slot = slot; symbol = symbol; number = n; why = why } in if t then r ∷ [] else []) is
  header_sided s false is n ep why (Some (slot, symbol)) =
      ap (λ (t : Bool). let r : HeaderRecord = record { side = s; ep = ep; slot = slot; symbol = symbol; number = n; why = why } in if t then r ∷ [] else []) is

  data_step : (d : Delays) (s : Story) (ss : List Story) (b : Bool) → same_side s.side side ≡ b
      → filter (λ r. same_side r.side side) (flat_map (data_of_story d) ss) ≡ map (data_kept side d) (numbered given_in side ss)
      → filter (λ r. same_side r.side side) (flat_map (data_of_story d) (s ∷ ss)) ≡ map (data_kept side d) (numbered given_in side (s ∷ ss))
  data_step d s ss true is later =
      filter-append (λ r. same_side r.side side) (data_of_story d s) (flat_map (data_of_story d) ss)
      ∙ ap₂ ◌++◌
      (ap (filter (λ r. same_side r.side side)) (data_one s.side d s.number s.judged)
      ∙ data_sided s.side d true is (numbered_in given_in s)
      ∙ ap (λ (t : Side). map (data_kept t d) (numbered_in given_in s)) (side_same s.side side is))
      later
      ∙ sym (map-append (data_kept side d) (numbered_in given_in s) (numbered given_in side ss))
      ∙ ap (λ (t : Bool). map (data_kept side d) (flat_map (numbered_in given_in) (if t then s ∷ of_unit side ss else of_unit side ss))) (sym is)
  data_step d s ss false is later =
      filter-append (λ r. same_side r.side side) (data_of_story d s) (flat_map (data_of_story d) ss)
      ∙ ap₂ ◌++◌ (ap (filter (λ r. same_side r.side side)) (data_one s.side d s.number s.judged) ∙ data_sided s.side d false is (numbered_in given_in s)) later
      ∙ ap (λ (t : Bool). map (data_kept side d) (flat_map (numbered_in given_in) (if t then s ∷ of_unit side ss else of_unit side ss))) (sym is)

  data_all : (d : Delays) (ss : List Story) → filter (λ r. same_side r.side side) (flat_map (data_of_story d) ss) ≡ map (data_kept side d) (numbered given_in side ss)
  data_all d [] = refl
  data_all d (s ∷ ss) = data_step d s ss (same_side s.side side) refl (data_all d ss)

  -- ---- headers

  headers_sided : (s : Side) (b : Bool) → same_side s side ≡ b → (xs : List (Numbered Undecoded))
      → filter (λ r. same_side r.side side) (flat_map (header_kept s) xs) ≡ (if b then flat_map (header_kept s) xs else [])
  headers_sided s true is [] = refl
  headers_sided s false is [] = refl
  headers_sided s true is (x ∷ xs) =
      filter-append (λ r. same_side r.side side) (header_kept s x) (flat_map (header_kept s) xs)
      ∙ ap₂ ◌++◌ (header_sided s true is x.number x.it.ep x.it.why _) (headers_sided s true is xs)
  headers_sided s false is (x ∷ xs) =
      filter-append (λ r. same_side r.side side) (header_kept s x) (flat_map (header_kept s) xs)
      ∙ ap₂ ◌++◌ (header_sided s false is x.number x.it.ep x.it.why _) (headers_sided s false is xs)

  headers_step : (s : Story) (ss : List Story) (b : Bool) → same_side s.side side ≡ b
      → filter (λ r. same_side r.side side) (flat_map headers_of_story ss) ≡ flat_map (header_kept side) (numbered undecoded_in side ss)
      → filter (λ r. same_side r.side side) (flat_map headers_of_story (s ∷ ss)) ≡ flat_map (header_kept side) (numbered undecoded_in side (s ∷ ss))
  headers_step s ss true is later =
      filter-append (λ r. same_side r.side side) (headers_of_story s) (flat_map headers_of_story ss)
      ∙ ap₂ ◌++◌
      (ap (filter (λ r. same_side r.side side)) (header_one s.side s.number s.judged)
      ∙ headers_sided s.side true is (numbered_in undecoded_in s)
      ∙ ap (λ (t : Side). flat_map (header_kept t) (numbered_in undecoded_in s)) (side_same s.side side is))
      later
      ∙ sym (flat_map-append (header_kept side) (numbered_in undecoded_in s) (numbered undecoded_in side ss))
      ∙ ap (λ (t : Bool). flat_map (header_kept side) (flat_map (numbered_in undecoded_in) (if t then s ∷ of_unit side ss else of_unit side ss))) (sym is)
  headers_step s ss false is later =
      filter-append (λ r. same_side r.side side) (headers_of_story s) (flat_map headers_of_story ss)
      ∙ ap₂ ◌++◌ (ap (filter (λ r. same_side r.side side)) (header_one s.side s.number s.judged) ∙ headers_sided s.side false is (numbered_in undecoded_in s)) later
      ∙ ap (λ (t : Bool). flat_map (header_kept side) (flat_map (numbered_in undecoded_in) (if t then s ∷ of_unit side ss else of_unit side ss))) (sym is)

  headers_all : (ss : List Story) → filter (λ r. same_side r.side side) (flat_map headers_of_story ss) ≡ flat_map (header_kept side) (numbered undecoded_in side ss)
  headers_all [] = refl
  headers_all (s ∷ ss) = headers_step s ss (same_side s.side side) refl (headers_all ss)

-- ---- fragments

fragments_all : (ss : List Story) → flat_map fragments_of_story ss ≡ map fragment_kept (flat_map (numbered_in fragment_in) ss)
fragments_all [] = refl
fragments_all (s ∷ ss) =
    ap₂ ◌++◌ (fragment_one s.number s.judged) (fragments_all ss)
    ∙ sym (map-append fragment_kept (numbered_in fragment_in s) (flat_map (numbered_in fragment_in) ss))

-- ---- commands

-- at the distributed unit no section of a command is judged
module _ (c : Config) (at : ℤ) where
  abbrev IsSilent : Meeting → Type 0
  IsSilent x = (ms : List Meeting) → flat_map commanded_in (judged_meeting Du c ms x) ≡ []

  if_silent : (b : Bool) (x y : Meeting) → IsSilent x → IsSilent y → IsSilent (if b then x else y)
  if_silent true x y h k = h
  if_silent false x y h k = k

  piece_silent : (e : EndpointConfig) (f : Fragment) → IsSilent (Piece e f)
  piece_silent e f ms = (now_judged Du c at e f (data_sections Du (hold_of Du c.delays) ms) (whole_now (hold_of Du c.delays) f (fragments ms))).commanded

  met_silent : (kind : ℕ) (payload : List ℕ) (o : Option (ℕ × EndpointConfig)) → IsSilent (met_by Du kind at payload o)
  met_silent kind payload None = λ ms. refl
  met_silent kind payload (Some (ep, e)) =
      if_silent (kind == REAL_TIME_CONTROL) (Ignored counter.WrongWay) (Piece e (fragment_of ep at payload)) (λ ms. refl) (piece_silent e (fragment_of ep at payload))

  meet_silent : (m : Message) → IsSilent (meet Du c.endpoints at m)
  unfolding meet
  meet_silent m =
      if_silent (m.head.kind == ONE_WAY_DELAY) (Ignored counter.Delay) _ (λ ms. refl)
      (if_silent (not (m.head.kind == IQ_DATA || m.head.kind == REAL_TIME_CONTROL)) (Ignored counter.OtherType) _ (λ ms. refl)
      (if_silent (nat_lt (length m.payload) 4) (Ignored counter.Short) _ (λ ms. refl)
      (met_silent m.head.kind m.payload (find_endpoint c.endpoints (id_of m.payload)))))

  messages_silent : (ms : List Meeting) (messages : List Message) → flat_map commanded_in (judged_in Du c at ms messages) ≡ []
  unfolding judged_in
  messages_silent ms [] = refl
  messages_silent ms (m ∷ rest) =
      let x = meet Du c.endpoints at m in
      flat_map-append commanded_in (judged_message Du c at ms m) (judged_in Du c at (x ∷ ms) rest)
      ∙ ap₂ ◌++◌ (meet_silent m ms) (messages_silent (x ∷ ms) rest)

abbrev IsCommandless : Story → Type 0
IsCommandless s = s.side ≡ Du → flat_map commanded_in s.judged ≡ []

story_silent : (c : Config) (s : Side) (earlier : List Arrival) (a : Arrival) → s ≡ Du → flat_map commanded_in (judgements s c earlier a) ≡ []
story_silent c Ru earlier a is = absurd cc
story_silent c Du earlier a is = messages_silent c a.at (met Du c earlier) (whole_messages a.frame)

stories_silent : (c : Config) (before rest : List Event) → AllByRecursion IsCommandless (stories_in (told_after c before rest))
unfolding stories_in told_after
stories_silent c before [] = tt
stories_silent c before (event.Arrival s at frame ∷ rest) =
    (story_silent c s (arrivals_heard s [] before) (arrival_with at.0 frame), stories_silent c (before ++ event.Arrival s at frame ∷ []) rest)
stories_silent c before (event.Cell a ∷ rest) = stories_silent c (before ++ event.Cell a ∷ []) rest
stories_silent c before (event.Delay at s id value ∷ rest) = stories_silent c (before ++ event.Delay at s id value ∷ []) rest
stories_silent c before (event.Count s counter value ∷ rest) = stories_silent c (before ++ event.Count s counter value ∷ []) rest

commands_step : (d : Delays) (s : Story) (ss : List Story) (side : Side) → s.side ≡ side → IsCommandless s
    → flat_map (commands_of_story d) ss ≡ flat_map (command_kept d) (numbered commanded_in Ru ss)
    → flat_map (commands_of_story d) (s ∷ ss) ≡ flat_map (command_kept d) (numbered commanded_in Ru (s ∷ ss))
commands_step d s ss Ru is silent later =
    ap₂ ◌++◌ (command_one s.side d s.number s.judged) later
    ∙ sym (flat_map-append (command_kept d) (numbered_in commanded_in s) (numbered commanded_in Ru ss))
    ∙ ap (λ (t : Side). flat_map (command_kept d) (flat_map (numbered_in commanded_in) (if same_side t Ru then s ∷ of_unit Ru ss else of_unit Ru ss))) (sym is)
commands_step d s ss Du is silent later =
    ap₂ ◌++◌
    (command_one s.side d s.number s.judged ∙ ap (λ (xs : List CommandedSection). flat_map (command_kept d) (map (with_number s.number) xs)) (silent is))
    later
    ∙ ap (λ (t : Side). flat_map (command_kept d) (flat_map (numbered_in commanded_in) (if same_side t Ru then s ∷ of_unit Ru ss else of_unit Ru ss))) (sym is)

commands_all : (d : Delays) (ss : List Story) → AllByRecursion IsCommandless ss → flat_map (commands_of_story d) ss ≡ flat_map (command_kept d) (numbered commanded_in Ru ss)
commands_all d [] silent = refl
commands_all d (s ∷ ss) silent = commands_step d s ss s.side refl silent.0 (commands_all d ss silent.1)

-- ---- all

are_numbered : {A : Type 0} (of : Judgement → List A) (side : Side) (c : Config) (events : List Event)
    → map (λ x. x.it) (numbered of side (stories c events)) ≡ flat_map of (judged_of side c (arrivals_heard side [] events))
are_numbered of side c events = numbers_aside of (of_unit side (stories c events)) ∙ ap (flat_map of) (are_judged side c events)

unit_kept : (c : Config) (events : List Event) (side : Side) → UnitIsKept side c events
unfolding data_records header_records unit_fragments
unit_kept c events side =
    let is = are_decoded side c (arrivals_heard side [] events) in
    record {
      data_is = data_all side c.delays (stories c events);
      headers_are = headers_all side (stories c events);
      fragments_are = fragments_all (of_unit side (stories c events));
      given = are_numbered given_in side c events ∙ is.given;
      undecoded = are_numbered undecoded_in side c events ∙ is.undecoded;
      fragments = are_numbered fragment_in side c events ∙ is.fragments;
    }

pub are_kept : RecordsAreDecoded
unfolding command_records
are_kept c events = record {
  units = unit_kept c events;
  commands_are = commands_all c.delays (stories c events) (stories_silent c [] events);
  commanded = are_numbered commanded_in Ru c events ∙ (are_decoded Ru c (arrivals_heard Ru [] events)).commanded;
}
