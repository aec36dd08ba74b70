-- What is left of a file decides the answer.
use Rattle.std.proofs.Common.{◌≡◌, ℕ, ◌+◌, ◌-◌, ◌<◌, ◌≤◌, List, [], ◌∷◌, ◌++◌, length, take, drop, length-drop, Option, Some, None, Result, Ok, Err, refl, sym, ap, ◌∙◌, arith, append_assoc, append-nil}
use Rattle.std.specs.Prelude.{unwrap_or}
use Rattle.std.proofs.lemmas.List.{take_rest, drop-drop}
use Rattle.pcap_frames.specs.declared.refusals.PcapWhy.{PcapWhy}
use Rattle.pcap_frames.specs.declared.values.Whose.{Whose}
use Rattle.pcap_frames.specs.Parts.{Reading, Opened, part_of, after, parts_from, parts_of, added, interfaces_in}
use Rattle.pcap_frames.specs.Wanted.{Wanted, wanted_of, one_before, wanted_from, first_time}
use Rattle.pcap_frames.specs.Checked.{frame_fault, fault_of, passed_by, tested}
use Rattle.pcap_frames.specs.Passes.{first_or, found_or, found_by, Passes}
use Rattle.pcap_frames.proofs.Steps.{next, last, ended}
use Rattle.pcap_frames.specs.declared.pcapng_values.Interface.{Interface}
use Rattle.pcap_frames.specs.Blocks.{Block}

-- ---- the first time, and the fault, after what a part may have of a wanted frame

time_by : (fault : Option PcapWhy) (t : ℕ) (found : Option ℕ) (later : ℕ) → found_or fault t ≡ Ok found → t ≡ first_or found later
time_by None t found later e =
    let same : Some t ≡ found = cc in
    ap (λ f. first_or f later) same
time_by (Some why) t found later e = absurd cc

time_next : (start : ℕ) (first found : Option ℕ) (w : Option Wanted) (rest : List Wanted) → found_by start first w ≡ Ok found
    → first_or first (first_time (one_before w rest)) ≡ first_or found (first_time rest)
time_next start first found None rest e =
    let same : first ≡ found = cc in
    ap (λ f. first_or f (first_time rest)) same
time_next start first found (Some w) rest e = time_by (frame_fault (first_or first w.time) start w) (first_or first w.time) found (first_time rest) e

no_fault_by : (fault : Option PcapWhy) (t : ℕ) (found : Option ℕ) → found_or fault t ≡ Ok found → fault ≡ None
no_fault_by None t found e = refl
no_fault_by (Some why) t found e = absurd cc

no_fault : (start : ℕ) (first found : Option ℕ) (w : Option Wanted) (rest : List Wanted) → found_by start first w ≡ Ok found
    → fault_of (first_or first (first_time (one_before w rest))) start w ≡ None
no_fault start first found None rest e = refl
no_fault start first found (Some w) rest e = no_fault_by (frame_fault (first_or first w.time) start w) (first_or first w.time) found e

fault_by : (fault : Option PcapWhy) (t : ℕ) (why : PcapWhy) → found_or fault t ≡ Err why → fault ≡ Some why
fault_by None t why e = absurd cc
fault_by (Some w) t why e =
    let same : w ≡ why = cc in
    ap Some same

a_fault : (start : ℕ) (first : Option ℕ) (w : Option Wanted) (rest : List Wanted) (why : PcapWhy) → found_by start first w ≡ Err why
    → fault_of (first_or first (first_time (one_before w rest))) start w ≡ Some why
a_fault start first None rest why e = absurd cc
a_fault start first (Some w) rest why e = fault_by (frame_fault (first_or first w.time) start w) (first_or first w.time) why e

-- ---- lists of parts

pub wanted_cons : (whose : Whose) (part : Block) (rest : List (Result Block PcapWhy)) → wanted_from whose (Ok part ∷ rest) ≡ one_before (wanted_of whose part.held) (wanted_from whose rest)
unfolding wanted_from
wanted_cons whose part rest = refl

tested_cons : (whose : Whose) (first start place : ℕ) (part : Block) (rest : List (Result Block PcapWhy))
    → tested whose first start place (Ok part ∷ rest) ≡ passed_by (fault_of first start (wanted_of whose part.held)) place (tested whose first start (place + part.size) rest)
unfolding tested
tested_cons whose first start place part rest = refl

pub interfaces_cons : (part : Block) (rest : List (Result Block PcapWhy)) → interfaces_in (Ok part ∷ rest) ≡ added part.held ++ interfaces_in rest
unfolding interfaces_in
interfaces_cons part rest = refl

tested_stop : (whose : Whose) (first start place : ℕ) (why : PcapWhy) (rest : List (Result Block PcapWhy)) → tested whose first start place (Err why ∷ rest) ≡ Err (record { place = place; why = why })
unfolding tested
tested_stop whose first start place why rest = refl

tested_end : (whose : Whose) (first start place : ℕ) → tested whose first start place [] ≡ Ok tt
unfolding tested
tested_end whose first start place = refl

pub wanted_end : (whose : Whose) → wanted_from whose [] ≡ []
unfolding wanted_from
wanted_end whose = refl

pub interfaces_end : interfaces_in [] ≡ []
unfolding interfaces_in
interfaces_end = refl

-- ---- in a pass

-- what is left from a place on, as a slice gives it
abbrev pub sliced : ℕ → List ℕ → List ℕ
sliced place bytes = take (length bytes - place) (drop place bytes)

-- the next part is refused
pub pass_refused : (whose : Whose) (start : ℕ) (bytes : List ℕ) (o : Opened) (place : ℕ) (first : Option ℕ) (reading : Reading) (table : List Interface) (why : PcapWhy)
    → place < length bytes → part_of reading (sliced place bytes) ≡ Err why → Passes whose start bytes o place first reading table
    → tested whose (first_time (wanted_from whose (parts_of o bytes))) start o.place (parts_of o bytes) ≡ Err (record { place = place; why = why })
pass_refused whose start bytes o place first reading table why lt e h =
    let at : part_of reading (drop place bytes) ≡ Err why = ap (part_of reading) (sym (take_rest bytes place)) ∙ e in
    let time = first_time (wanted_from whose (parts_of o bytes)) in
    h.tests
    ∙ ap (tested whose time start place) (last reading (drop place bytes) why (omega (arith, lt, length-drop place bytes)) at)
    ∙ tested_stop whose time start place why []

-- it is not, and the frame that it has
left_next : (bytes : List ℕ) (place : ℕ) (reading : Reading) (part : Block) → part_of reading (sliced place bytes) ≡ Ok part → 0 < part.size → part.size ≤ length (sliced place bytes)
    → parts_from reading 0 (drop place bytes) ≡ Ok part ∷ parts_from (after reading part.held) 0 (drop (place + part.size) bytes)
left_next bytes place reading part e some within =
    let at : part_of reading (drop place bytes) ≡ Ok part = ap (part_of reading) (sym (take_rest bytes place)) ∙ e in
    let same : length (sliced place bytes) ≡ length (drop place bytes) = ap length (take_rest bytes place) in
    next reading (drop place bytes) part at some (omega (arith, within, same))
    ∙ ap (λ b. Ok part ∷ parts_from (after reading part.held) 0 b) (drop-drop part.size place bytes)

first_is : (whose : Whose) (start : ℕ) (bytes : List ℕ) (o : Opened) (place : ℕ) (first : Option ℕ) (reading : Reading) (table : List Interface) (part : Block) (rest : List (Result Block PcapWhy))
    → parts_from reading 0 (drop place bytes) ≡ Ok part ∷ rest → Passes whose start bytes o place first reading table
    → first_time (wanted_from whose (parts_of o bytes)) ≡ first_or first (first_time (one_before (wanted_of whose part.held) (wanted_from whose rest)))
first_is whose start bytes o place first reading table part rest e h =
    h.first ∙ ap (λ ps. first_or first (first_time ps)) (ap (wanted_from whose) e ∙ wanted_cons whose part rest)

-- its frame has a fault
pub pass_fault : (whose : Whose) (start : ℕ) (bytes : List ℕ) (o : Opened) (place : ℕ) (first : Option ℕ) (reading : Reading) (table : List Interface) (part : Block) (why : PcapWhy)
    → part_of reading (sliced place bytes) ≡ Ok part → 0 < part.size → part.size ≤ length (sliced place bytes) → found_by start first (wanted_of whose part.held) ≡ Err why
    → Passes whose start bytes o place first reading table
    → tested whose (first_time (wanted_from whose (parts_of o bytes))) start o.place (parts_of o bytes) ≡ Err (record { place = place; why = why })
pass_fault whose start bytes o place first reading table part why e some within fault h =
    let rest = parts_from (after reading part.held) 0 (drop (place + part.size) bytes) in
    let left = left_next bytes place reading part e some within in
    let time = first_time (wanted_from whose (parts_of o bytes)) in
    let is : fault_of time start (wanted_of whose part.held) ≡ Some why
    = ap (λ t. fault_of t start (wanted_of whose part.held)) (first_is whose start bytes o place first reading table part rest left h)
    ∙ a_fault start first (wanted_of whose part.held) (wanted_from whose rest) why fault in
    h.tests
    ∙ ap (tested whose time start place) left
    ∙ tested_cons whose time start place part rest
    ∙ ap (λ f. passed_by f place (tested whose time start (place + part.size) rest)) is

-- it has none
pub pass_next : (whose : Whose) (start : ℕ) (bytes : List ℕ) (o : Opened) (place : ℕ) (first found : Option ℕ) (reading : Reading) (table : List Interface) (part : Block)
    → part_of reading (sliced place bytes) ≡ Ok part → 0 < part.size → part.size ≤ length (sliced place bytes) → found_by start first (wanted_of whose part.held) ≡ Ok found
    → Passes whose start bytes o place first reading table
    → Passes whose start bytes o (place + part.size) found (after reading part.held) (table ++ added part.held)
pass_next whose start bytes o place first found reading table part e some within passed h =
    let rest = parts_from (after reading part.held) 0 (drop (place + part.size) bytes) in
    let left = left_next bytes place reading part e some within in
    let time = first_time (wanted_from whose (parts_of o bytes)) in
    let is = first_is whose start bytes o place first reading table part rest left h in
    let none : fault_of time start (wanted_of whose part.held) ≡ None
    = ap (λ t. fault_of t start (wanted_of whose part.held)) is ∙ no_fault start first found (wanted_of whose part.held) (wanted_from whose rest) passed in
    record {
      first = is ∙ time_next start first found (wanted_of whose part.held) (wanted_from whose rest) passed;
      tests = h.tests
          ∙ ap (tested whose time start place) left
          ∙ tested_cons whose time start place part rest
          ∙ ap (λ f. passed_by f place (tested whose time start (place + part.size) rest)) none;
      interfaces = h.interfaces ∙ ap (λ ps. table ++ interfaces_in ps) left ∙ ap (λ is. table ++ is) (interfaces_cons part rest) ∙ sym (append_assoc table (added part.held) (interfaces_in rest));
    }

by_unwrap : (o : Option ℕ) → unwrap_or o 0 ≡ first_or o 0
by_unwrap None = refl
by_unwrap (Some n) = refl

-- none is left
pub pass_end : (whose : Whose) (start : ℕ) (bytes : List ℕ) (o : Opened) (place : ℕ) (first : Option ℕ) (reading : Reading) (table : List Interface)
    → length bytes ≤ place → Passes whose start bytes o place first reading table
    → (tested whose (first_time (wanted_from whose (parts_of o bytes))) start o.place (parts_of o bytes) ≡ Ok tt)
    × (unwrap_or first 0 ≡ first_time (wanted_from whose (parts_of o bytes))) × (table ≡ interfaces_in (parts_of o bytes))
pass_end whose start bytes o place first reading table ge h =
    let none = ended reading (drop place bytes) (omega (arith, ge, length-drop place bytes)) in
    let time = first_time (wanted_from whose (parts_of o bytes)) in (
      h.tests ∙ ap (tested whose time start place) none ∙ tested_end whose time start place,
      by_unwrap first ∙ sym (h.first ∙ ap (λ ps. first_or first (first_time ps)) (ap (wanted_from whose) none ∙ wanted_end whose)),
      sym (h.interfaces ∙ ap (λ ps. table ++ interfaces_in ps) none ∙ ap (λ is. table ++ is) interfaces_end ∙ append-nil table),
    )
