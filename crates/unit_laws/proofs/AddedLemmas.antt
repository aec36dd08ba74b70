-- What one more arrival adds to the sections that were read: new ones in front of the others, which were received with it.
use Rattle.std.proofs.Common.{◌≡◌, ℕ, ℤ, Bool, true, false, List, [], ◌∷◌, ◌++◌, Option, Some, None, Result, Ok, Err, refl, sym, ap, ◌∙◌, subst, append_assoc}
use Rattle.std.specs.Prelude.{All, ◌==◌, ◌||◌, not, nat_lt, length, map, cond, if◌then◌else◌}
use Rattle.std.proofs.lemmas.List.Elements.{All-nil, All-cons, All-head, All-tail, All-append}
use Rattle.fh_base.specs.Numbering.{shape_of}
use Rattle.air_source.specs.declared.events.Side.{Side}
use Rattle.air_source.specs.declared.events.Side.TheVariants.{Ru, Du}
use Rattle.cplane_sections.specs.declared.values.CHead.{CHead}
use Rattle.cplane_sections.specs.declared.values.CRefusal.{CRefusal}
use Rattle.cplane_sections.specs.declared.values.CSection.{CSection}
use Rattle.cplane_sections.specs.Message.{sections_in}
use Rattle.cplane_sections.specs.Tests.{checked}
use Rattle.ecpri_fragments.specs.Generations.{Fragment}
use Rattle.ecpri_fragments.specs.Verdicts.{first_of, message, standing_before, verdict_on, whole_of}
use Rattle.ecpri_fragments.specs.declared.verdict.Verdict.{Verdict}
use Rattle.ecpri_fragments.specs.declared.verdict.Verdict.TheVariants as fragment
use Rattle.ecpri_frames.specs.Gathering.{whole_messages}
use Rattle.ecpri_frames.specs.Messages.{Message}
use Rattle.uplane_sections.specs.Messages.{told}
use Rattle.uplane_sections.specs.declared.values.UHead.{UHead}
use Rattle.uplane_sections.specs.declared.values.URefusal.{URefusal}
use Rattle.window_config.specs.declared.endpoints.EndpointConfig.{EndpointConfig}
use Rattle.unit_model.specs.Decoding.{Backwards, Gathering, SectionBlocks, Sections, data_now, data_sections, data_told, data_with, decode, decoded_from, decoded_now, decoded_with, gathered, has_way, nothing_told, sections_of}
use Rattle.fh_base.specs.Lists.{onto}
use Rattle.unit_model.specs.Meetings.{Arrival, Meeting, Ignored, Commands, Piece, command, command_read, commands, commands_with, control_met, find_endpoint, fragment_of, fragments, meet, meetings, met_by, met_in}
use Rattle.unit_model.specs.declared.decoded.ControlSection.{ControlSection}
use Rattle.unit_model.specs.declared.decoded.UserSection.{UserSection}
use Rattle.ecpri_frames.specs.declared.heads.TheConstants.{ONE_WAY_DELAY, REAL_TIME_CONTROL, IQ_DATA}
use Rattle.ecpri_fragments.specs.Sequence.{id_of, sequence_of, application, is_fragmented}
use Rattle.ecpri_fragments.specs.Pieces.{joined}

-- ---- lists that grow at the front

-- some of which this holds are in front of the earlier ones
pub record IsAdded {A : Type 0} (P : A → Type 0) (earlier now : List A) : Type 0 where
  pub front : List A
  pub is : now ≡ front ++ earlier
  pub all : All P front

none_added : {A : Type 0} (P : A → Type 0) (xs : List A) → IsAdded P xs xs
none_added P xs = record { front = []; is = refl; all = All-nil P }

all_added : {A : Type 0} (P : A → Type 0) (front earlier : List A) → All P front → IsAdded P earlier (front ++ earlier)
all_added P front earlier h = record { front = front; is = refl; all = h }

more_added : {A : Type 0} (P : A → Type 0) (earlier mid now : List A) → IsAdded P earlier mid → IsAdded P mid now → IsAdded P earlier now
more_added P earlier mid now one two = record {
  front = two.front ++ one.front;
  is = two.is ∙ ap (λ xs. two.front ++ xs) one.is ∙ sym (append_assoc two.front one.front earlier);
  all = All-append P two.front one.front two.all one.all;
}

onto_added : {A : Type 0} (P : A → Type 0) (earlier xs : List A) → All P xs → IsAdded P earlier (onto earlier xs)
unfolding onto
onto_added P earlier [] h = none_added P earlier
onto_added P earlier (x ∷ xs) h =
    more_added P earlier (x ∷ earlier) (onto (x ∷ earlier) xs) (all_added P (x ∷ []) earlier (All-cons P x [] (All-head P x xs h) (All-nil P)))
    (onto_added P (x ∷ earlier) xs (All-tail P x xs h))

-- what holds of all holds of those in front
pub in_front : {A : Type 0} (P : A → Type 0) (front earlier : List A) → All P (front ++ earlier) → All P front
in_front P [] earlier h = All-nil P
in_front P (x ∷ front) earlier h = All-cons P x front (All-head P x (front ++ earlier) h) (in_front P front earlier (All-tail P x (front ++ earlier) h))

-- what each of them leaves, all of them leave
pub all_leave : {A X : Type 0} (P : A → Type 0) (f : List A → X) → ((x : A) (earlier : List A) → P x → f (x ∷ earlier) ≡ f earlier)
    → (front earlier : List A) → All P front → f (front ++ earlier) ≡ f earlier
all_leave P f one [] earlier h = refl
all_leave P f one (x ∷ front) earlier h = one x (front ++ earlier) (All-head P x front h) ∙ all_leave P f one front earlier (All-tail P x front h)

-- ---- what a message that was received then was met as

abbrev pub CommandCame : ℤ → ControlSection → Type 0
CommandCame at c = c.at.0 ≡ at

abbrev pub DataCame : ℤ → UserSection → Type 0
DataCame at d = d.last.0 ≡ at

abbrev pub Came : ℤ → Meeting → Type 0
Came at (Ignored c) = Unit {0}
Came at (Commands cs) = All (CommandCame at) cs
Came at (Piece e f) = f.at ≡ at

same_times : (ep : ℕ) (e : EndpointConfig) (at : ℤ) (head : CHead) (ss : List CSection) → All (CommandCame at) (commands_with ep e at head ss)
same_times ep e at head [] = All-nil (CommandCame at)
same_times ep e at head (s ∷ ss) = All-cons (CommandCame at) (command ep e at head s) (commands_with ep e at head ss) refl (same_times ep e at head ss)

read_came : (ep : ℕ) (e : EndpointConfig) (at : ℤ) (bytes : List ℕ) (r : Result CHead CRefusal) → Came at (command_read ep e at bytes r)
read_came ep e at bytes (Err r) = tt
read_came ep e at bytes (Ok head) = same_times ep e at head (sections_in head bytes)

choice : (at : ℤ) (b : Bool) (x y : Meeting) → Came at x → Came at y → Came at (if b then x else y)
choice at true x y h k = h
choice at false x y h k = k

control_came : (side : Side) (ep : ℕ) (e : EndpointConfig) (at : ℤ) (payload : List ℕ) → Came at (control_met side ep e at payload)
control_came Ru ep e at payload =
    choice at (is_fragmented (sequence_of payload)) _ (command_read ep e at (application payload) (checked (shape_of e.numerology) (application payload))) tt
    (read_came ep e at (application payload) (checked (shape_of e.numerology) (application payload)))
control_came Du ep e at payload = tt

found_came : (side : Side) (kind : ℕ) (at : ℤ) (payload : List ℕ) (o : Option (ℕ × EndpointConfig)) → Came at (met_by side kind at payload o)
found_came side kind at payload None = tt
found_came side kind at payload (Some (ep, e)) =
    choice at (kind == REAL_TIME_CONTROL) (control_met side ep e at payload) (Piece e (fragment_of ep at payload)) (control_came side ep e at payload) refl

meet_came : (side : Side) (es : List EndpointConfig) (at : ℤ) (m : Message) → Came at (meet side es at m)
unfolding meet
meet_came side es at m =
    choice at (m.head.kind == ONE_WAY_DELAY) _ _ tt
    (choice at (not (m.head.kind == IQ_DATA || m.head.kind == REAL_TIME_CONTROL)) _ _ tt
    (choice at (nat_lt (length m.payload) 4) _ _ tt (found_came side m.head.kind at m.payload (find_endpoint es (id_of m.payload)))))

pub all_came : (side : Side) (es : List EndpointConfig) (at : ℤ) (ms : List Message) → All (Came at) (met_in side es at ms)
all_came side es at [] = All-nil (Came at)
all_came side es at (m ∷ ms) = All-cons (Came at) (meet side es at m) (met_in side es at ms) (meet_came side es at m) (all_came side es at ms)

-- ---- commands

one_message : (at : ℤ) (x : Meeting) (earlier : List Meeting) → Came at x → IsAdded (CommandCame at) (commands earlier) (commands (x ∷ earlier))
unfolding commands
one_message at (Ignored c) earlier h = none_added (CommandCame at) (commands earlier)
one_message at (Commands cs) earlier h = onto_added (CommandCame at) (commands earlier) cs h
one_message at (Piece e f) earlier h = none_added (CommandCame at) (commands earlier)

messages_more : (at : ℤ) (earlier xs : List Meeting) → All (Came at) xs → IsAdded (CommandCame at) (commands earlier) (commands (onto earlier xs))
unfolding onto
messages_more at earlier [] h = none_added (CommandCame at) (commands earlier)
messages_more at earlier (x ∷ xs) h =
    more_added (CommandCame at) (commands earlier) (commands (x ∷ earlier)) (commands (onto (x ∷ earlier) xs)) (one_message at x earlier (All-head (Came at) x xs h))
    (messages_more at (x ∷ earlier) xs (All-tail (Came at) x xs h))

pub commands_added : (side : Side) (es : List EndpointConfig) (a : Arrival) (arrivals : List Arrival)
    → IsAdded (CommandCame a.at) (commands (meetings side es arrivals)) (commands (meetings side es (a ∷ arrivals)))
unfolding meetings
commands_added side es a arrivals =
    messages_more a.at (meetings side es arrivals) (met_in side es a.at (whole_messages a.frame)) (all_came side es a.at (whole_messages a.frame))

-- ---- data

same_lasts : (ep : ℕ) (e : EndpointConfig) (first last : ℤ) (head : UHead) (ps : List SectionBlocks) → All (DataCame last) (map (data_with ep e first last head) ps)
same_lasts ep e first last head [] = All-nil (DataCame last)
same_lasts ep e first last head (p ∷ ps) =
    All-cons (DataCame last) (data_with ep e first last head p) (map (data_with ep e first last head) ps) refl (same_lasts ep e first last head ps)

way_last : (last : ℤ) (ds : List UserSection) (way : Bool) → All (DataCame last) ds → All (DataCame last) (sections_of (cond way (Sections ds) Backwards))
way_last last ds true h = h
way_last last ds false h = All-nil (DataCame last)

head_last : (side : Side) (ep : ℕ) (e : EndpointConfig) (first last : ℤ) (parts : List SectionBlocks) (o : Option UHead)
    → All (DataCame last) (sections_of (decoded_with side ep e first last parts o))
head_last side ep e first last parts None = All-nil (DataCame last)
head_last side ep e first last parts (Some head) =
    way_last last (map (data_with ep e first last head) parts) (has_way side head) (same_lasts ep e first last head parts)

told_last : (side : Side) (ep : ℕ) (e : EndpointConfig) (first last : ℤ) (g : Gathering) (r : Option URefusal)
    → All (DataCame last) (sections_of (decoded_from side ep e first last g r))
told_last side ep e first last g (Some r) = All-nil (DataCame last)
told_last side ep e first last g None = head_last side ep e first last g.parts g.head

decode_last : (side : Side) (ep : ℕ) (e : EndpointConfig) (first last : ℤ) (bytes : List ℕ) → All (DataCame last) (sections_of (decode side ep e first last bytes))
unfolding decode
decode_last side ep e first last bytes =
    told_last side ep e first last (gathered nothing_told (told e.format e.prbs (shape_of e.numerology) bytes).items)
    (told e.format e.prbs (shape_of e.numerology) bytes).refusal

-- the last of a message is the fragment that makes it whole
whole_last : (side : Side) (v : Verdict) (e : EndpointConfig) (f : Fragment) (s : List Fragment) → All (DataCame f.at) (data_told (decoded_now side e f (whole_of v f s)))
whole_last side fragment.Stored e f s = All-nil (DataCame f.at)
whole_last side fragment.Repeat e f s = All-nil (DataCame f.at)
whole_last side fragment.Stray e f s = All-nil (DataCame f.at)
whole_last side fragment.TooLong e f s = All-nil (DataCame f.at)
whole_last side fragment.Whole e f s = decode_last side f.ep e (first_of (f ∷ s)) f.at (joined (message (f ∷ s)).pieces)

module _ (side : Side) (hold : ℤ) (at : ℤ) where
  abbrev Grows : List Meeting → List Meeting → Type 0
  Grows earlier now = IsAdded (DataCame at) (data_sections side hold earlier) (data_sections side hold now)

  one_more : (x : Meeting) (earlier : List Meeting) → Came at x → Grows earlier (x ∷ earlier)
  unfolding data_sections
  one_more (Ignored c) earlier h = none_added (DataCame at) (data_sections side hold earlier)
  one_more (Commands cs) earlier h = none_added (DataCame at) (data_sections side hold earlier)
  one_more (Piece e f) earlier h =
      all_added (DataCame at) (data_told (data_now side hold e f (fragments earlier))) (data_sections side hold earlier)
      (subst (λ (t : ℤ). All (DataCame t) (data_told (data_now side hold e f (fragments earlier)))) h
      (whole_last side (verdict_on hold f (fragments earlier)) e f (standing_before hold f (fragments earlier))))

  all_more : (earlier xs : List Meeting) → All (Came at) xs → Grows earlier (onto earlier xs)
  unfolding onto
  all_more earlier [] h = none_added (DataCame at) (data_sections side hold earlier)
  all_more earlier (x ∷ xs) h =
      more_added (DataCame at) (data_sections side hold earlier) (data_sections side hold (x ∷ earlier)) (data_sections side hold (onto (x ∷ earlier) xs))
      (one_more x earlier (All-head (Came at) x xs h)) (all_more (x ∷ earlier) xs (All-tail (Came at) x xs h))

pub data_added : (side : Side) (hold : ℤ) (es : List EndpointConfig) (a : Arrival) (arrivals : List Arrival)
    → IsAdded (DataCame a.at) (data_sections side hold (meetings side es arrivals)) (data_sections side hold (meetings side es (a ∷ arrivals)))
unfolding meetings
data_added side hold es a arrivals =
    all_more side hold a.at (meetings side es arrivals) (met_in side es a.at (whole_messages a.frame)) (all_came side es a.at (whole_messages a.frame))
