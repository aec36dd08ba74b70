-- What is known of the sections of one message that was read, whatever is known of its time.
use Rattle.std.proofs.Common.{◌≡◌, ℕ, ℤ, ◌+◌, ◌<◌, ◌≤◌, ◌≤ℤ◌, Bool, true, false, List, [], ◌∷◌, Option, Some, None, length, refl, arith}
use Rattle.std.specs.Prelude.{All, map, cond}
use Rattle.std.proofs.lemmas.List.Elements.{All-nil, All-cons, All-head, All-tail, All-map, All-weaker}
use Rattle.fh_base.specs.Numbering.{shape_of, slots_of, symbols_of}
use Rattle.unit_model.specs.Terms.{Side, UHead, URefusal}
use Rattle.cplane_sections.specs.declared.values.CHead.{CHead}
use Rattle.cplane_sections.specs.declared.values.CSection.{CSection}
use Rattle.cplane_sections.specs.Header.{kind_of}
use Rattle.cplane_sections.specs.Message.{Admits, AreAdmitted, MessageFits, SectionFits, sections_in}
use Rattle.uplane_sections.specs.Messages.{told}
use Rattle.fh_base.specs.Carrier.{is_outside}
use Rattle.window_config.specs.declared.endpoints.EndpointConfig.{EndpointConfig}
use Rattle.unit_model.specs.Blocks.{data_prb_count}
use Rattle.unit_model.specs.Decoding.{SectionBlocks, Gathering, nothing_told, gathered, has_way, data_with, decoded_from, decode, Sections, Backwards, sections_of}
use Rattle.unit_model.specs.Meetings.{command, commands_with}
use Rattle.unit_model.specs.Proper.{IsAt}
use Rattle.unit_model.specs.declared.decoded.ControlSection.{ControlSection}
use Rattle.unit_model.specs.declared.decoded.UserSection.{UserSection}
use Rattle.unit_model.proofs.Whole.{IsWholePart, IsWholeMessage, message_whole}

-- a section of a command that was read, where `T` holds of its time
pub record IsReadCommand (es : List EndpointConfig) (T : ℤ → Type 0) (c : ControlSection) : Type 0 where
  pub endpoint : IsAt es c.ep c.endpoint
  pub at : T c.at.0
  pub subframe : c.head.subframe < 10
  pub slot : c.head.slot < slots_of c.endpoint.numerology
  pub start_symbol : c.head.start_symbol < symbols_of c.endpoint.numerology
  pub some : 0 < c.section.num_symbol
  pub within : c.section.symbol + c.section.num_symbol ≤ symbols_of c.endpoint.numerology
  pub start_prb : c.section.start_prb < 1024

-- a section of data that was read, where `T` holds of its times
pub record IsReadData (es : List EndpointConfig) (T : ℤ → Type 0) (d : UserSection) : Type 0 where
  pub endpoint : IsAt es d.ep d.endpoint
  pub first : T d.first.0
  pub last : T d.last.0
  pub order : d.first.0 ≤ℤ d.last.0
  pub subframe : d.head.subframe < 10
  pub slot : d.head.slot < slots_of d.endpoint.numerology
  pub symbol : d.section.symbol < symbols_of d.endpoint.numerology
  pub within : is_outside d.endpoint.prbs d.section.start_prb d.section.num_prb ≡ false
  pub blocks : length d.blocks ≡ data_prb_count d

sections_read : (es : List EndpointConfig) (T : ℤ → Type 0) (ep : ℕ) (e : EndpointConfig) (at : ℤ) (head : CHead) (before : ℕ) (ss : List CSection) → IsAt es ep e → T at
    → head.subframe ≤ 9 → head.slot < (shape_of e.numerology).slots → head.start_symbol < (shape_of e.numerology).symbols
    → AreAdmitted (kind_of head.body) (symbols_of e.numerology) before ss → All SectionFits ss
    → All (IsReadCommand es T) (commands_with ep e at head ss)
unfolding AreAdmitted
sections_read es T ep e at head before [] i t f l y a w = All-nil (IsReadCommand es T)
sections_read es T ep e at head before (s ∷ ss) i t f l y a w =
    All-cons (IsReadCommand es T) (command ep e at head s) (commands_with ep e at head ss)
    (record {
      endpoint = i;
      at = t;
      subframe = omega (arith, f);
      slot = l;
      start_symbol = y;
      some = a.0.some;
      within = a.0.within;
      start_prb = (All-head SectionFits s ss w).start_prb;
    })
    (sections_read es T ep e at head s.symbol ss i t f l y a.1 (All-tail SectionFits s ss w))

pub commands_read : (es : List EndpointConfig) (T : ℤ → Type 0) (ep : ℕ) (e : EndpointConfig) (at : ℤ) (head : CHead) (bytes : List ℕ)
    → Admits (shape_of e.numerology) head (sections_in head bytes) → MessageFits head (sections_in head bytes) → IsAt es ep e → T at
    → All (IsReadCommand es T) (commands_with ep e at head (sections_in head bytes))
commands_read es T ep e at head bytes admits fits i t =
    sections_read es T ep e at head head.start_symbol (sections_in head bytes) i t admits.subframe admits.slot admits.start_symbol admits.sections fits.sections_fit

data_read : (es : List EndpointConfig) (T : ℤ → Type 0) (ep : ℕ) (e : EndpointConfig) (first last : ℤ) (head : UHead) (ps : List SectionBlocks) → IsAt es ep e → T first → T last
    → first ≤ℤ last → head.subframe < 10 → head.slot < slots_of e.numerology → All (IsWholePart e.prbs (shape_of e.numerology)) ps
    → All (IsReadData es T) (map (data_with ep e first last head) ps)
data_read es T ep e first last head ps i f l order subframe slot parts =
    All-map (IsReadData es T) (data_with ep e first last head) ps
    (All-weaker (IsWholePart e.prbs (shape_of e.numerology)) (λ p. IsReadData es T (data_with ep e first last head p))
    (λ p w. record { endpoint = i; first = f; last = l; order = order; subframe = subframe; slot = slot; symbol = w.symbol; within = w.within; blocks = w.blocks }) ps parts)

way_read : (es : List EndpointConfig) (T : ℤ → Type 0) (ds : List UserSection) (way : Bool) → All (IsReadData es T) ds → All (IsReadData es T) (sections_of (cond way (Sections ds) Backwards))
way_read es T ds true h = h
way_read es T ds false h = All-nil (IsReadData es T)

told_read : (es : List EndpointConfig) (T : ℤ → Type 0) (side : Side) (ep : ℕ) (e : EndpointConfig) (first last : ℤ) (g : Gathering) (r : Option URefusal) → IsAt es ep e
    → T first → T last → first ≤ℤ last → (r ≡ None → IsWholeMessage e.format e.prbs (shape_of e.numerology) g)
    → All (IsReadData es T) (sections_of (decoded_from side ep e first last g r))
told_read es T side ep e first last g (Some r) i f l order w = All-nil (IsReadData es T)
told_read es T side ep e first last g None i f l order w =
    let m = w refl in
    rw m.has_head (way_read es T (map (data_with ep e first last m.head) g.parts) (has_way side m.head) (data_read es T ep e first last m.head g.parts i f l order m.subframe m.slot m.parts))

pub decode_read : (es : List EndpointConfig) (T : ℤ → Type 0) (side : Side) (ep : ℕ) (e : EndpointConfig) (first last : ℤ) (bytes : List ℕ) → IsAt es ep e → T first → T last
    → first ≤ℤ last → All (IsReadData es T) (sections_of (decode side ep e first last bytes))
unfolding decode
decode_read es T side ep e first last bytes i f l order =
    told_read es T side ep e first last (gathered nothing_told (told e.format e.prbs (shape_of e.numerology) bytes).items) (told e.format e.prbs (shape_of e.numerology) bytes).refusal i f l order
    (message_whole e.format e.prbs (shape_of e.numerology) bytes)
