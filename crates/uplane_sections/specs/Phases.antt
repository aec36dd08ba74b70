-- What a walker makes of the bytes of the unit that it is in and of those after it.
use Rattle.std.specs.Prelude.{◌≡◌, ℕ, ◌+◌, ◌-◌, ◌*◌, ◌==◌, ◌||◌, not, if◌then◌else◌, Bool, true, false, List, [], ◌∷◌, length, drop, nat_lt, nat_le, Option, Some, None, Result, Ok, Err}
use Rattle.fh_base.specs.declared.values.Shape.{Shape}
use Rattle.bfp_codec.specs.declared.methods.Method.{Method}
use Rattle.bfp_codec.specs.declared.methods.Method.TheVariants.{Plain}
use Rattle.bfp_codec.specs.declared.methods.Format.{Format}
use Rattle.bfp_codec.specs.Layout.{length_of}
use Rattle.uplane_sections.specs.declared.phases.Phase.{Phase}
use Rattle.uplane_sections.specs.declared.phases.Phase.TheVariants.{Start, Between, Compression, Inside, Faulty}
use Rattle.uplane_sections.specs.declared.values.UHead.{UHead}
use Rattle.uplane_sections.specs.declared.values.USection.{USection}
use Rattle.uplane_sections.specs.declared.values.UWhy.{UWhy}
use Rattle.uplane_sections.specs.declared.values.UWhy.TheVariants.{Truncated, Version, SlotRange, SymbolRange, EveryOtherRb, PrbRange, Method as UnknownMethod}
use Rattle.uplane_sections.specs.declared.steps.UFeed.{UFeed}
use Rattle.uplane_sections.specs.declared.steps.UFeed.TheVariants as feed
use Rattle.uplane_sections.specs.Header.{payloadVersion, subframeId, slotId, symbolId, head_of}
use Rattle.fh_base.specs.Carrier.{is_outside, first_of, count_of}
use Rattle.uplane_sections.specs.Section.{rb, symInc, startPrbu, numPrbu, is_method, method_in}
use Rattle.uplane_sections.specs.Messages.{Item, Head, Section, Block, Telling, refused, fault, after, blocks, sections, message_from}

-- the tests of a header that is whole
abbrev pub head_checked : Shape → List ℕ → Result UHead UWhy
head_checked shape bytes =
    if not (payloadVersion bytes == 1) then Err Version
    else (if nat_lt 9 (subframeId bytes) || nat_le shape.slots (slotId bytes) then Err SlotRange
    else (if nat_le shape.symbols (symbolId bytes) then Err SymbolRange
    else Ok (head_of bytes)))

-- the tests of the first four bytes of a section; the answer is the maintained symbol number
abbrev pub symbol_checked : ℕ → Shape → ℕ → List ℕ → Result ℕ UWhy
symbol_checked prbs shape before bytes =
    if rb bytes == 1 then Err EveryOtherRb
    else (if nat_le shape.symbols (before + symInc bytes) then Err SymbolRange
    else (if is_outside prbs (startPrbu bytes) (numPrbu bytes) then Err PrbRange
    else Ok (before + symInc bytes)))

-- the method that a compression header names
abbrev pub method_read : List ℕ → Option Method
method_read header = if is_method header then Some (method_in header) else None

abbrev pub with_method : USection → Method → USection
with_method s method = record { id = s.id; sym_inc = s.sym_inc; symbol = s.symbol; start_prb = s.start_prb; num_prb = s.num_prb; method = method }

-- a test that fails refuses what is at the place
abbrev pub checked : {A : Type 0} → ℕ → Result A UWhy → (A → Telling) → Telling
checked at (Ok x) f = f x
checked at (Err why) f = fault at why

module _ (format : Format) (prbs : ℕ) (shape : Shape) where
  -- the rest of a section, with n PRBs to follow
  abbrev pub in_blocks : Method → ℕ → ℕ → ℕ → ℕ → List ℕ → Telling
  in_blocks method symbol at prb n bytes =
      after (blocks method prb n bytes)
      (if nat_lt (length bytes) (n * length_of method) then fault (at + length bytes) Truncated
      else sections format prbs shape at symbol (n * length_of method) bytes)

  -- a section and what is after its headers
  abbrev pub in_section : ℕ → USection → List ℕ → Telling
  in_section at s bytes =
      after (Section s ∷ []) (in_blocks s.method s.symbol at (first_of s.start_prb s.num_prb) (count_of prbs s.num_prb) bytes)

  -- the rest of a section from its compression header on
  abbrev pub behind_first : ℕ → USection → List ℕ → Telling
  behind_first at s bytes =
      if nat_lt (length bytes) 2 then fault (at + length bytes) Truncated
      else (if not (is_method bytes) then fault (at - 4) UnknownMethod
      else in_section (at + 2) (with_method s (method_in bytes)) (drop 2 bytes))

  -- what the bytes from the place `at` on say, in each phase
  abbrev pub resumed : Phase → ℕ → List ℕ → Telling
  resumed Start at bytes = message_from format prbs shape at bytes
  resumed (Between before) at bytes = sections format prbs shape at before 0 bytes
  resumed (Compression s) at bytes = behind_first at s bytes
  resumed (Inside method symbol prb left) at bytes = in_blocks method symbol at prb left bytes
  resumed (Faulty r) at bytes = refused r

-- the length of the unit that each phase waits for
abbrev pub unit_of : Phase → ℕ
unit_of (Compression s) = 2
unit_of (Inside method symbol prb left) = length_of method
unit_of _ = 4

abbrev pub feed_told : UFeed → List Item
feed_told feed.More = []
feed_told (feed.Head head) = Head head ∷ []
feed_told (feed.Section s) = Section s ∷ []
feed_told (feed.Block prb samples) = Block prb samples ∷ []
feed_told (feed.Refused r) = []

-- how many PRBs are still to follow, 1 in the other phases
abbrev pub prbs_left : Phase → ℕ
prbs_left (Inside method symbol prb left) = left
prbs_left _ = 1

-- how many PRBs of a section are still to follow
abbrev pub prbs_to_come : Phase → ℕ
prbs_to_come (Inside method symbol prb left) = left
prbs_to_come _ = 0

-- a bound of the numbers of PRBs to follow
abbrev pub prb_bound : Phase → ℕ
prb_bound (Inside method symbol prb left) = prb + left
prb_bound (Compression s) = s.start_prb * 64
prb_bound _ = 0

abbrev pub method_in_phase : Phase → Method
method_in_phase (Inside method symbol prb left) = method
method_in_phase _ = Plain

-- how many bytes of a section were read before
abbrev pub behind : Phase → ℕ
behind (Compression s) = 4
behind _ = 0

-- the fault of a message that ends too early
abbrev pub is_cut : UWhy → Bool
is_cut Truncated = true
is_cut _ = false

-- whether the refusal of a message is for its end
abbrev pub is_short : Phase → Bool
is_short (Faulty r) = is_cut r.why
is_short _ = false

-- whether the message is not refused
abbrev pub goes_on : Phase → Bool
goes_on (Faulty r) = false
goes_on _ = true

-- a refusal stays, and where nothing is told the next unit belongs to a section that was begun
abbrev pub Stops : UFeed → Phase → Type 0
Stops (feed.Refused r) phase = phase ≡ Faulty r
Stops feed.More phase = behind phase ≡ 4
Stops _ phase = Unit {0}
