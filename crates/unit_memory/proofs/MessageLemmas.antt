-- What holds of the cells and the counters after some sections of a message, and after a message.
use Rattle.std.proofs.Common.{◌≡◌, ℕ, ℤ, ◌+◌, Bool, true, false, List, [], ◌∷◌, ◌++◌, map, sym, ap, ◌∙◌, subst, arith}
use Rattle.std.proofs.lemmas.Bool.{not-true}
use Rattle.std.specs.Prelude.{Option, Some, None, MatchOption, if◌then◌else◌}
use Rattle.air_source.specs.declared.events.Side.{Side}
use Rattle.air_source.specs.declared.events.Side.TheVariants.{Ru, Du}
use Rattle.fault_counters.specs.declared.kinds.Counter.TheVariants.{URefused, WrongWay}
use Rattle.fault_counters.specs.Counts.{capped, count_of, once, times}
use Rattle.unit_model.specs.Terms.{URefusal, UHead, USection, UFeed}
use Rattle.unit_model.specs.Counts.{decoded_counted}
use Rattle.fault_counters.specs.declared.kinds.Counter.{Counter}
use Rattle.fh_base.specs.Numbering.{shape_of}
use Rattle.fh_base.specs.declared.values.Shape.{Shape}
use Rattle.fh_base.specs.declared.values.Ticks.{Ticks}
use Rattle.uplane_sections.specs.declared.steps.UFeed.TheVariants as feed
use Rattle.uplane_sections.specs.Messages.{Item, Telling, told}
use Rattle.window_config.specs.declared.config.Config.{Config}
use Rattle.window_config.specs.declared.endpoints.EndpointConfig.{EndpointConfig}
use Rattle.unit_model.specs.Decoding.{Backwards, Decoded, Gathering, SectionBlocks, Refused, Sections, data_with, decode, decoded_from, decoded_with, gathered, has_way, nothing_told, sections_of}
use Rattle.unit_model.specs.declared.allocations.Allocation.{Allocation}
use Rattle.unit_model.specs.declared.decoded.UserSection.{UserSection}
use Rattle.unit_cells.specs.Cells.{CellsValue}
use Rattle.unit_model.specs.declared.heading.DataHeading.{DataHeading}
use Rattle.uplane_messages.specs.Left.{TellsFirst, NothingLeft}
use Rattle.uplane_messages.specs.Whole.{AreSections, IsWhole}
use Rattle.unit_memory.specs.Holding.{HoldsData}
use Rattle.unit_memory.specs.Sections.{Came}
use Rattle.unit_memory.proofs.DataHoldLemmas.{Stays, stays_none, stays_on}
use Rattle.unit_memory.proofs.WalkLemmas.{behind_head, gathered_all, gathered_head, gathered_section, gathering, same_head}
use Rattle.air_source.specs.Units.{is_down}

-- the section of a message whose fragments were received then
abbrev pub heading_of : ℕ → EndpointConfig → Ticks → Ticks → UHead → USection → DataHeading
heading_of ep e first last head s = record { ep = ep; endpoint = e; first = first; last = last; head = head; section = s }

module _ (ep : ℕ) (e : EndpointConfig) (first last : Ticks) (head : UHead) where
  abbrev pub sections_with : List SectionBlocks → List UserSection
  sections_with parts = map (data_with ep e first.0 last.0 head) parts

  -- some sections of a message were told, and were received
  pub record Treated (items left : List Item) (old new : CellsValue) (before after : List ℕ) : Type 0 where
    pub parts : List SectionBlocks
    pub told : gathered nothing_told items ≡ gathered (gathering head parts) left
    pub behind : AreSections e.prbs (shape_of e.numerology) 0 0 left
    pub holds : (side : Side) (c : Config) (n : Counter → ℕ) (acc : List Allocation) (ds : List UserSection)
        → HoldsData side c last.0 n acc ds old before → HoldsData side c last.0 n acc (sections_with parts ++ ds) new after
    pub stays : Stays last.0 old new

  unfoldable pub none_treated : (items left : List Item) (v : CellsValue) (numbers : List ℕ) (first_told : Option UFeed) → IsWhole e.prbs (shape_of e.numerology) head items
      → MatchOption first_told (NothingLeft items left) (TellsFirst items left) → Treated items left v v numbers numbers
  none_treated items left v numbers r whole t =
      let rest : left ≡ whole.rest = behind_head items whole.rest left head r whole.first t in
      record {
        parts = [];
        told = gathered_head items whole.rest head whole.first ∙ ap (gathered (gathering head [])) (sym rest);
        behind = subst (λ (xs : List Item). AreSections e.prbs (shape_of e.numerology) 0 0 xs) (sym rest) whole.sections;
        holds = λ side c n acc ds holds. holds;
        stays = stays_none last.0 v;
      }

  unfoldable pub one_treated : (items left next rest : List Item) (s : USection) (old mid new : CellsValue) (before between after : List ℕ) → Treated items left old mid before between
      → TellsFirst left next (feed.Section s) → Came (heading_of ep e first last head s) next rest mid new between after → Stays last.0 mid new
      → Treated items rest old new before after
  one_treated items left next rest s old mid new before between after t f taken stays = record {
    parts = record { section = s; blocks = taken.blocks } ∷ t.parts;
    told = t.told ∙ gathered_section head s t.parts taken.blocks _ left next rest f.first taken.tells.told;
    behind = taken.tells.behind;
    holds = λ side c n acc ds holds. taken.holds side c n acc (sections_with t.parts ++ ds) (t.holds side c n acc ds holds);
    stays = stays_on last.0 old mid new t.stays stays;
  }

  -- all of them
  pub all_treated : (items left : List Item) (old new : CellsValue) (before after : List ℕ) → Treated items left old new before after → left ≡ []
      → (side : Side) (c : Config) (n : Counter → ℕ) (acc : List Allocation) (ds : List UserSection)
      → HoldsData side c last.0 n acc ds old before → HoldsData side c last.0 n acc (sections_with (gathered nothing_told items).parts ++ ds) new after
  all_treated items left old new before after t none side c n acc ds holds =
      let all : gathered nothing_told items ≡ gathering head t.parts = t.told ∙ gathered_all (gathering head t.parts) left none in
      subst (λ (g : Gathering). HoldsData side c last.0 n acc (sections_with g.parts ++ ds) new after) (sym all) (t.holds side c n acc ds holds)

-- ---- a whole message

counted_beside : (x y n o b : ℕ) → x ≡ capped (n + b) → y ≡ capped (x + o) → y ≡ capped ((n + (0 + o)) + b)
counted_beside x y n o b h g = omega arith

not_counted : (x n b : ℕ) → x ≡ capped (n + b) → x ≡ capped ((n + 0) + b)
not_counted x n b h = omega arith

module _ (side : Side) (c : Config) (clock : ℤ) (n : Counter → ℕ) (acc : List Allocation) (ds : List UserSection) where
  -- what holds after a message that says this
  abbrev pub HoldsAfter : Decoded → CellsValue → List ℕ → Type 0
  HoldsAfter d v numbers = HoldsData side c clock (λ k. n k + times (decoded_counted (Some d)) k) acc (sections_of d ++ ds) v numbers

  pub refused_holds : (v : CellsValue) (before after : List ℕ) → ((k : Counter) → count_of after k ≡ capped (count_of before k + once URefused k))
      → HoldsData side c clock n acc ds v before → HoldsAfter Refused v after
  refused_holds v before after added holds = record {
    of = holds.of;
    keeps = holds.keeps;
    told = holds.told;
    counts = λ k. counted_beside (count_of before k) (count_of after k) (n k) (once URefused k) _ (holds.counts k) (added k);
  }

  pub backwards_holds : (v : CellsValue) (before after : List ℕ) → ((k : Counter) → count_of after k ≡ capped (count_of before k + once WrongWay k))
      → HoldsData side c clock n acc ds v before → HoldsAfter Backwards v after
  backwards_holds v before after added holds = record {
    of = holds.of;
    keeps = holds.keeps;
    told = holds.told;
    counts = λ k. counted_beside (count_of before k) (count_of after k) (n k) (once WrongWay k) _ (holds.counts k) (added k);
  }

  pub sections_hold : (v : CellsValue) (numbers : List ℕ) (sections : List UserSection) → HoldsData side c clock n acc (sections ++ ds) v numbers → HoldsAfter (Sections sections) v numbers
  sections_hold v numbers sections holds = record {
    of = holds.of;
    keeps = holds.keeps;
    told = holds.told;
    counts = λ k. not_counted (count_of numbers k) (n k) _ (holds.counts k);
  }

-- the header of what is gathered of a whole message
whole_head : (e : EndpointConfig) (head : UHead) (items : List Item) → IsWhole e.prbs (shape_of e.numerology) head items → (gathered nothing_told items).head ≡ Some head
whole_head e head items whole =
    ap (λ (g : Gathering). g.head) (gathered_head items whole.rest head whole.first)
    ∙ same_head e.prbs (shape_of e.numerology) whole.rest 0 0 (gathering head []) whole.sections

-- a message that is received by the unit has its direction
pub way_is : (side : Side) (head : UHead) → has_way side head ≡ true → head.down ≡ is_down side
way_is Ru head is = is
way_is Du head is = not-true head.down is

-- what a message says, by what its test answered
module _ (side : Side) (ep : ℕ) (e : EndpointConfig) (first last : ℤ) (bytes : List ℕ) where
  abbrev told_by : Shape → Telling
  told_by shape = told e.format e.prbs shape bytes

  abbrev pub parts_told : List SectionBlocks
  parts_told = (gathered nothing_told (told_by (shape_of e.numerology)).items).parts

  pub says_refused : (shape : Shape) (r : URefusal) → shape ≡ shape_of e.numerology → Some r ≡ (told_by shape).refusal → decode side ep e first last bytes ≡ Refused
  unfolding decode
  says_refused shape r same is =
      let refused : (told_by (shape_of e.numerology)).refusal ≡ Some r = subst (λ (s : Shape). (told_by s).refusal ≡ Some r) same (sym is) in
      ap (decoded_from side ep e first last (gathered nothing_told (told_by (shape_of e.numerology)).items)) refused

  says_whole : (shape : Shape) (head : UHead) → shape ≡ shape_of e.numerology → None ≡ (told_by shape).refusal
      → IsWhole e.prbs shape head (told_by shape).items → decode side ep e first last bytes ≡ decoded_with side ep e first last parts_told (Some head)
  unfolding decode
  says_whole shape head same is whole =
      let items = (told_by (shape_of e.numerology)).items in
      let none : (told_by (shape_of e.numerology)).refusal ≡ None = subst (λ (s : Shape). (told_by s).refusal ≡ None) same (sym is) in
      let all : IsWhole e.prbs (shape_of e.numerology) head items = subst (λ (s : Shape). IsWhole e.prbs s head (told_by s).items) same whole in
      ap (decoded_from side ep e first last (gathered nothing_told items)) none
      ∙ ap (decoded_with side ep e first last parts_told) (whole_head e head items all)

  -- by its direction
  pub says_sections : (shape : Shape) (head : UHead) → shape ≡ shape_of e.numerology → None ≡ (told_by shape).refusal
      → IsWhole e.prbs shape head (told_by shape).items → has_way side head ≡ true → decode side ep e first last bytes ≡ Sections (map (data_with ep e first last head) parts_told)
  says_sections shape head same is whole down =
      says_whole shape head same is whole
      ∙ ap (λ (b : Bool). if b then Sections (map (data_with ep e first last head) parts_told) else Backwards) down

  pub says_backwards : (shape : Shape) (head : UHead) → shape ≡ shape_of e.numerology → None ≡ (told_by shape).refusal
      → IsWhole e.prbs shape head (told_by shape).items → has_way side head ≡ false → decode side ep e first last bytes ≡ Backwards
  says_backwards shape head same is whole up =
      says_whole shape head same is whole
      ∙ ap (λ (b : Bool). if b then Sections (map (data_with ep e first last head) parts_told) else Backwards) up
