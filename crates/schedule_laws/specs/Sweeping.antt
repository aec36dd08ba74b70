-- Sweeps over a list in the order of its keys find all of it (this project's means).
use Rattle.std.specs.Prelude.{◌≡◌, ◌⊎◌, ℕ, ℤ, pos, ◌+◌, ◌<◌, ◌≤◌, ◌+ℤ◌, ◌<ℤ◌, ◌≤ℤ◌, Bool, ◌&&◌, ◌==◌, if◌then◌else◌, List, []}
use Rattle.std.specs.List.{filter, AllByRecursion}
use Rattle.std.specs.Ordering.{int_eq}
use Rattle.fh_base.specs.Air.{air_of}
use Rattle.fh_base.specs.Numbering.{slots_of, symbols_of}
use Rattle.window_config.specs.declared.endpoints.EndpointConfig.{EndpointConfig}
use Rattle.fh_base.specs.Lists.{each, each_tick, AreRelated}
use Rattle.unit_model.specs.Sweeps.{first_swept, slot_at}

-- no key falls along the list
abbrev pub IsRising : {A : Type 0} → (A → ℕ) → List A → Type 0
IsRising key = AreRelated (λ x y. key x ≤ key y)

abbrev pub IsRisingInt : {A : Type 0} → (A → ℤ) → List A → Type 0
IsRisingInt key = AreRelated (λ x y. key x ≤ℤ key y)

-- all of a key
abbrev pub of_key : {A : Type 0} → (A → ℕ) → List A → ℕ → List A
of_key key xs k = filter (λ a. key a == k) xs

abbrev pub timed_at : {A : Type 0} → (A → ℤ) → List A → ℤ → List A
timed_at key xs t = filter (λ a. int_eq (key a) t) xs

-- what a sweep over a list in order says
abbrev pub EachIsAll : Type 0 → Type 0
EachIsAll A = (key : A → ℕ) (xs : List A) (from count : ℕ) → IsRising key xs → AllByRecursion (λ a. (from ≤ key a) × (key a < from + count)) xs
    → each from count (of_key key xs) ≡ xs

abbrev pub TicksAreAll : Type 0 → Type 0
TicksAreAll A = (key : A → ℤ) (xs : List A) (from : ℤ) (count : ℕ) → IsRisingInt key xs → AllByRecursion (λ a. (from ≤ℤ key a) × (key a <ℤ (from +ℤ pos count))) xs
    → each_tick from count (timed_at key xs) ≡ xs

-- ---- symbols

-- when a symbol starts, the slots of a subframe and the symbols of a slot, and the first frame that is looked at
pub record Clock : Type 0 where
  pub air : ℤ → ℕ → ℕ → ℕ → ℤ
  pub slots : ℕ
  pub symbols : ℕ
  pub first : ℤ → ℤ

abbrev pub clock_of : EndpointConfig → Clock
clock_of e = record {
  air = λ frame subframe slot symbol. air_of e.numerology (slot_at frame subframe slot) symbol;
  slots = slots_of e.numerology;
  symbols = symbols_of e.numerology;
  first = first_swept;
}

-- the symbol of a part, and when it starts
pub record PartSymbol : Type 0 where
  pub start : ℤ
  pub frame : ℤ
  pub subframe : ℕ
  pub slot : ℕ
  pub symbol : ℕ

abbrev pub is_symbol : ℤ → ℕ → ℕ → ℕ → PartSymbol → Bool
is_symbol frame subframe slot symbol p = int_eq p.frame frame && ((p.subframe == subframe) && ((p.slot == slot) && (p.symbol == symbol)))

abbrev pub parts_of_symbol : {P : Type 0} → (P → PartSymbol) → Clock → List P → ℤ → ℤ → ℕ → ℕ → ℕ → List P
parts_of_symbol of_part c ps s frame subframe slot symbol = if int_eq (c.air frame subframe slot symbol) s then filter (λ p. is_symbol frame subframe slot symbol (of_part p)) ps else []

-- the symbols that start at a tick, frame by frame, in the order of subframes, slots and symbols
abbrev pub parts_of_endpoint : {P : Type 0} → (P → PartSymbol) → Clock → List P → ℤ → List P
parts_of_endpoint of_part c ps s = each 0 6 (λ k. each 0 10 (λ b. each 0 c.slots (λ l. each 0 c.symbols (parts_of_symbol of_part c ps s (c.first s +ℤ pos k) b l))))

-- it is a symbol of its endpoint, which starts then
pub record IsPart (c : Clock) (from : ℤ) (count : ℕ) (p : PartSymbol) : Type 0 where
  pub starts : p.start ≡ c.air p.frame p.subframe p.slot p.symbol
  pub low : c.first p.start ≤ℤ p.frame
  pub high : p.frame <ℤ (c.first p.start +ℤ pos 6)
  pub subframe : p.subframe < 10
  pub slot : p.slot < c.slots
  pub symbol : p.symbol < c.symbols
  pub begun : from ≤ℤ p.start
  pub ended : p.start <ℤ (from +ℤ pos count)

-- one is not after the other: by start, frame, subframe, slot and symbol
abbrev pub Precedes : PartSymbol → PartSymbol → Type 0
Precedes p q = (p.start <ℤ q.start) ⊎ ((p.start ≡ q.start) × ((p.frame <ℤ q.frame) ⊎ ((p.frame ≡ q.frame)
    × ((p.subframe < q.subframe) ⊎ ((p.subframe ≡ q.subframe) × ((p.slot < q.slot) ⊎ ((p.slot ≡ q.slot) × (p.symbol ≤ q.symbol))))))))

abbrev pub AreOrdered : {P : Type 0} → (P → PartSymbol) → List P → Type 0
AreOrdered of_part = AreRelated (λ p q. Precedes (of_part p) (of_part q))

abbrev pub SweepsFindAll : {P : Type 0} → (P → PartSymbol) → Type 0
SweepsFindAll {P} of_part = (c : Clock) (ps : List P) (from : ℤ) (count : ℕ) → AreOrdered of_part ps → AllByRecursion (λ p. IsPart c from count (of_part p)) ps
    → each_tick from count (parts_of_endpoint of_part c ps) ≡ ps
