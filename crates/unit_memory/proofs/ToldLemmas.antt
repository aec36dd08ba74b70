-- What a listener heard, one step further.
use Rattle.std.proofs.Common.{◌≡◌, ℕ, ℤ, List, [], ◌∷◌, ◌++◌, refl, sym, ap, ◌∙◌, subst, append_assoc}
use Rattle.std.proofs.lemmas.List.{append-nil}
use Rattle.std.specs.Prelude.{Option, Some, None}
use Rattle.bfp_codec.specs.declared.samples.Wide.{Wide}
use Rattle.ecpri_fragments.specs.Generations.{Fragment}
use Rattle.ecpri_fragments.specs.Pieces.{joined}
use Rattle.ecpri_fragments.specs.Verdicts.{Message as Whole, message, standing_before, verdict_on, whole_of}
use Rattle.ecpri_fragments.specs.declared.verdict.Verdict.{Verdict}
use Rattle.ecpri_fragments.specs.declared.verdict.Verdict.TheVariants as verdicts
use Rattle.ecpri_frames.specs.Messages.{Message}
use Rattle.fault_counters.specs.declared.kinds.Counter.{Counter}
use Rattle.fh_base.specs.Numbering.{shape_of}
use Rattle.fh_base.specs.declared.values.Ticks.{Ticks}
use Rattle.air_source.specs.declared.events.Side.{Side}
use Rattle.window_config.specs.declared.config.Config.{Config}
use Rattle.window_config.specs.declared.delays.Delays.{Delays}
use Rattle.window_config.specs.declared.endpoints.EndpointConfig.{EndpointConfig}
use Rattle.unit_model.specs.Terms.{URefusal, UHead, USection}
use Rattle.uplane_sections.specs.Messages.{Item, told}
use Rattle.unit_model.specs.Blocks.{data_verdict, timely}
use Rattle.unit_model.specs.Commands.{accepted, command_verdict}
use Rattle.unit_model.specs.Decoding.{Backwards, Gathering, Sections, SectionBlocks, decode, gathered, nothing_told}
use Rattle.unit_model.specs.Meetings.{Arrival, Meeting, meet}
use Rattle.unit_model.specs.declared.allocations.Allocation.{Allocation}
use Rattle.unit_model.specs.declared.decoded.ControlSection.{ControlSection}
use Rattle.unit_model.specs.declared.decoded.UserSection.{UserSection}
use Rattle.unit_cells.specs.Cells.{CellsValue}
use Rattle.unit_model.specs.Headings.{data_under}
use Rattle.unit_memory.specs.Holding.{HoldsData}
use Rattle.unit_model.specs.Judgements.{Judgement, Commanded, Fragmented, Given, Turned, Unread, judged_by, judged_commands, judged_data, judged_decoded, judged_in, judged_message, judged_now, judged_piece, judged_whole}
use Rattle.unit_memory.specs.declared.memory.UnitMemory.{UnitMemory}
use Rattle.unit_memory.proofs.MessageLemmas.{Treated, heading_of, sections_with}
use Rattle.unit_memory.proofs.StepLemmas.{CommandsSoFar}
use Rattle.unit_memory.proofs.HoldLemmas.{MetSoFar}
use Rattle.unit_memory.proofs.WalkLemmas.{gathered_all, gathering}

-- ---- commands

-- what is told of all, by what was told so far
pub record CommandsTold {L : Type 0} (heard : L → List Judgement → L → Type 0) (d : Delays) (cs all so_far left : List ControlSection) (old new : L) : Type 0 where
  pub told : List Judgement
  pub hears : heard old told new
  pub are : told ++ judged_commands d so_far left ≡ judged_commands d cs all

module _ {L : Type 0} (heard : L → List Judgement → L → Type 0) (more : (a b c : L) (first second : List Judgement) → heard a first b → heard b second c → heard a (first ++ second) c) (d : Delays) where
  pub commands_none : (cs all : List ControlSection) (a : L) → heard a [] a → CommandsTold heard d cs all cs all a a
  commands_none cs all a none = record { told = []; hears = none; are = refl }

  pub commands_one : (cs all so_far left rest : List ControlSection) (x : ControlSection) (old mid new : L) → left ≡ x ∷ rest → CommandsTold heard d cs all so_far left old mid
      → heard mid (Commanded x (command_verdict d (accepted d so_far) x) ∷ []) new → CommandsTold heard d cs all (x ∷ so_far) rest old new
  unfolding judged_commands
  commands_one cs all so_far left rest x old mid new is t one = record {
    told = t.told ++ Commanded x (command_verdict d (accepted d so_far) x) ∷ [];
    hears = more old mid new t.told (Commanded x (command_verdict d (accepted d so_far) x) ∷ []) t.hears one;
    are =
        append_assoc t.told (Commanded x (command_verdict d (accepted d so_far) x) ∷ []) (judged_commands d (x ∷ so_far) rest)
        ∙ ap (λ (xs : List ControlSection). t.told ++ judged_commands d so_far xs) (sym is)
        ∙ t.are;
  }

  pub commands_all : (cs all so_far left : List ControlSection) (old new : L) → left ≡ [] → CommandsTold heard d cs all so_far left old new → heard old (judged_commands d cs all) new
  unfolding judged_commands
  commands_all cs all so_far left old new is t =
      let are : t.told ≡ judged_commands d cs all = sym (append-nil t.told) ∙ ap (λ (xs : List ControlSection). t.told ++ judged_commands d so_far xs) (sym is) ∙ t.are in
      subst (λ (js : List Judgement). heard old js new) are t.hears

-- the sections of a command are treated but for these, and so much was told
pub record CommandsHeard {L : Type 0} (heard : L → List Judgement → L → Type 0) (c : Config) (clock : ℤ) (m : UnitMemory) (n : Counter → ℕ) (fs : List Fragment) (cs whole all left : List ControlSection) (ds : List UserSection) (old new : L) : Type 0 where
  pub commands : CommandsSoFar c clock m n fs all left ds
  pub told : CommandsTold heard c.delays cs whole commands.so_far left old new

-- ---- sections of data

-- some sections of a message were received, and were told
pub record TreatedHeard {L : Type 0} (heard : L → List Judgement → L → Type 0) (ep : ℕ) (e : EndpointConfig) (first last : Ticks) (head : UHead) (items left : List Item) (old new : CellsValue) (before after : List ℕ) (a b : L) : Type 0 where
  pub treated : Treated ep e first last head items left old new before after
  pub told : (side : Side) (c : Config) (n : Counter → ℕ) (acc : List Allocation) (ds : List UserSection)
      → HoldsData side c last.0 n acc ds old before → heard a (judged_data side c.delays ds (sections_with ep e first last head treated.parts)) b

module _ {L : Type 0} (heard : L → List Judgement → L → Type 0) (ep : ℕ) (e : EndpointConfig) (first last : Ticks) (head : UHead) where
  -- none of these sections, and nothing was told
  pub none_heard : (side : Side) (d : Delays) (ds : List UserSection) (a : L) → heard a [] a → heard a (judged_data side d ds []) a
  unfolding judged_data
  none_heard side d ds a none = none

  abbrev pub HearsSection : USection → CellsValue → List ℕ → L → L → Type 0
  HearsSection s v numbers a b =
      (side : Side) (c : Config) (n : Counter → ℕ) (acc : List Allocation) (ds : List UserSection) (blocks : List (List Wide))
      → HoldsData side c last.0 n acc ds v numbers
      → heard a (Given (heading_of ep e first last head s) (data_verdict side c.delays (timely side c.delays ds) (data_under (heading_of ep e first last head s) blocks)) ∷ []) b

  pub one_heard : (more : (a b c : L) (first second : List Judgement) → heard a first b → heard b second c → heard a (first ++ second) c)
      → (s : USection) (blocks : List (List Wide)) (parts : List SectionBlocks) (v : CellsValue) (numbers : List ℕ) (x y z : L)
      → HearsSection s v numbers y z → (side : Side) (c : Config) (n : Counter → ℕ) (acc : List Allocation) (ds : List UserSection)
      → HoldsData side c last.0 n acc (sections_with ep e first last head parts ++ ds) v numbers
      → heard x (judged_data side c.delays ds (sections_with ep e first last head parts)) y
      → heard x (judged_data side c.delays ds (sections_with ep e first last head (record { section = s; blocks = blocks } ∷ parts))) z
  unfolding judged_data
  one_heard more s blocks parts v numbers x y z hears side c n acc ds holds before =
      more x y z (judged_data side c.delays ds (sections_with ep e first last head parts)) _ before (hears side c n acc (sections_with ep e first last head parts ++ ds) blocks holds)

  pub all_heard : (items left : List Item) (parts : List SectionBlocks) (side : Side) (c : Config) (ds : List UserSection) (a b : L) → left ≡ []
      → gathered nothing_told items ≡ gathered (gathering head parts) left
      → heard a (judged_data side c.delays ds (sections_with ep e first last head parts)) b
      → heard a (judged_data side c.delays ds (sections_with ep e first last head (gathered nothing_told items).parts)) b
  all_heard items left parts side c ds a b none told h =
      let all : gathered nothing_told items ≡ gathering head parts = told ∙ gathered_all (gathering head parts) left none in
      subst (λ (g : Gathering). heard a (judged_data side c.delays ds (sections_with ep e first last head g.parts)) b) (sym all) h

-- ---- a whole message

module _ (side : Side) (d : Delays) (ep : ℕ) (e : EndpointConfig) (m : Whole) (ds : List UserSection) where
  abbrev read : Option URefusal
  read = (told e.format e.prbs (shape_of e.numerology) (joined m.pieces)).refusal

  pub judged_refused : (why : URefusal) → read ≡ Some why → judged_whole side d ep e m ds ≡ Unread ep e m why ∷ []
  unfolding judged_whole
  judged_refused why is = ap (judged_by side d ep e m ds) is

  pub judged_turned : read ≡ None → decode side ep e m.first m.last (joined m.pieces) ≡ Backwards → judged_whole side d ep e m ds ≡ Turned ep e m ∷ []
  unfolding judged_whole
  judged_turned none is = ap (judged_by side d ep e m ds) none ∙ ap (judged_decoded side d ep e m ds) is

  pub judged_sections : (ss : List UserSection) → read ≡ None → decode side ep e m.first m.last (joined m.pieces) ≡ Sections ss → judged_whole side d ep e m ds ≡ judged_data side d ds ss
  unfolding judged_whole
  judged_sections ss none is = ap (judged_by side d ep e m ds) none ∙ ap (judged_decoded side d ep e m ds) is

-- ---- a fragment

module _ (side : Side) (d : Delays) (hold : ℤ) (e : EndpointConfig) (f : Fragment) (fs : List Fragment) (ds : List UserSection) where
  abbrev stood : List Fragment
  stood = standing_before hold f fs

  abbrev of_verdict : Verdict → List Judgement
  of_verdict v = Fragmented e f v ∷ judged_now side d f.ep e ds (whole_of v f stood)

  -- by its verdict
  pub piece_judged : (v : Verdict) → verdict_on hold f fs ≡ v → judged_piece side d hold e f fs ds ≡ of_verdict v
  piece_judged v is = ap of_verdict is

  pub piece_whole : (m : Whole) → verdict_on hold f fs ≡ verdicts.Whole → m ≡ message (f ∷ stood) → judged_piece side d hold e f fs ds ≡ Fragmented e f verdicts.Whole ∷ judged_whole side d f.ep e m ds
  piece_whole m v is = piece_judged verdicts.Whole v ∙ ap (λ (w : Whole). Fragmented e f verdicts.Whole ∷ judged_whole side d f.ep e w ds) (sym is)

-- ---- messages

-- what is told of all the messages of a frame, by what was told so far
pub record MessagesTold {L : Type 0} (heard : L → List Judgement → L → Type 0) (side : Side) (c : Config) (at : ℤ) (ms so_far : List Meeting) (all left : List Message) (old new : L) : Type 0 where
  pub told : List Judgement
  pub hears : heard old told new
  pub are : told ++ judged_in side c at so_far left ≡ judged_in side c at ms all

module _ {L : Type 0} (heard : L → List Judgement → L → Type 0) (more : (a b c : L) (first second : List Judgement) → heard a first b → heard b second c → heard a (first ++ second) c)
    (side : Side) (c : Config) (at : ℤ) where
  pub messages_none : (ms : List Meeting) (all : List Message) (a : L) → heard a [] a → MessagesTold heard side c at ms ms all all a a
  messages_none ms all a none = record { told = []; hears = none; are = refl }

  pub messages_one : (ms so_far : List Meeting) (all left rest : List Message) (m : Message) (old mid new : L) → left ≡ m ∷ rest → MessagesTold heard side c at ms so_far all left old mid
      → heard mid (judged_message side c at so_far m) new → MessagesTold heard side c at ms (meet side c.endpoints at m ∷ so_far) all rest old new
  unfolding judged_in
  messages_one ms so_far all left rest m old mid new is t one = record {
    told = t.told ++ judged_message side c at so_far m;
    hears = more old mid new t.told (judged_message side c at so_far m) t.hears one;
    are =
        append_assoc t.told (judged_message side c at so_far m) (judged_in side c at (meet side c.endpoints at m ∷ so_far) rest)
        ∙ ap (λ (xs : List Message). t.told ++ judged_in side c at so_far xs) (sym is)
        ∙ t.are;
  }

  pub messages_all : (ms so_far : List Meeting) (all left : List Message) (old new : L) → left ≡ [] → MessagesTold heard side c at ms so_far all left old new → heard old (judged_in side c at ms all) new
  unfolding judged_in
  messages_all ms so_far all left old new is t =
      let are : t.told ≡ judged_in side c at ms all = sym (append-nil t.told) ∙ ap (λ (xs : List Message). t.told ++ judged_in side c at so_far xs) (sym is) ∙ t.are in
      subst (λ (js : List Judgement). heard old js new) are t.hears

-- the messages of a frame are treated but for these, and so much was told
pub record MetHeard {L : Type 0} (heard : L → List Judgement → L → Type 0) (side : Side) (c : Config) (clock : ℤ) (m : UnitMemory) (arrivals : List Arrival) (ms all : List Meeting) (messages left : List Message) (beside : List Counter) (old new : L) : Type 0 where
  pub met : MetSoFar side c clock m arrivals all left beside
  pub told : MessagesTold heard side c clock ms met.so_far messages left old new
