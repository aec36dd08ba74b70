-- The order in which records are sorted (this project's means to find those of a symbol).
use Rattle.std.specs.Prelude.{◌≡◌, ◌≤◌, ℕ, Bool, true, false, List, length}
use Rattle.std.specs.List.Sorted.{IsPartitionPoint, IsSortedBy}
use Rattle.std.specs.Ordering.{bool_cmp, int_cmp, is_le, is_lt, nat_cmp, on, then_cmp}
use Rattle.std.specs.declared.cmp.Ordering.{Ordering}
use Rattle.air_source.specs.declared.events.Side.{Side}
use Rattle.air_source.specs.declared.events.Side.TheVariants.{Ru, Du}
use Rattle.explain_records.specs.declared.keys.OrderKey.{OrderKey}
use Rattle.explain_model.specs.declared.keys.SymbolKey.{SymbolKey}

abbrev pub is_distributed : Side → Bool
is_distributed Ru = false
is_distributed Du = true

abbrev pub order_of : SymbolKey → OrderKey
order_of key = record {
  is_distributed = is_distributed key.side;
  ep = key.ep;
  frame = key.slot.frame;
  subframe = key.slot.subframe;
  slot = key.slot.slot;
  symbol = key.symbol;
}

-- by unit, endpoint, slot and symbol
abbrev pub order_cmp : OrderKey → OrderKey → Ordering
order_cmp =
    then_cmp (on (λ k. k.is_distributed) bool_cmp)
    (then_cmp (on (λ k. k.ep) nat_cmp)
    (then_cmp (on (λ k. k.frame) int_cmp)
    (then_cmp (on (λ k. k.subframe) nat_cmp) (then_cmp (on (λ k. k.slot) nat_cmp) (on (λ k. k.symbol) nat_cmp)))))

-- the key of the first precedes that of the other
abbrev pub comes_first : {R : Type 0} → (R → SymbolKey) → R → R → Bool
comes_first key_of a b = is_lt (order_cmp (order_of (key_of a)) (order_of (key_of b)))

-- none has a key that precedes that of an earlier one
abbrev pub AreInOrder : {R : Type 0} → (R → SymbolKey) → List R → Type 0
AreInOrder key_of records = IsSortedBy (comes_first key_of) records

-- the key of a record precedes one
abbrev pub is_below : {R : Type 0} → (R → SymbolKey) → OrderKey → R → Bool
is_below key_of wanted r = is_lt (order_cmp (order_of (key_of r)) wanted)

-- the key of a record is no later than one
abbrev pub is_within : {R : Type 0} → (R → SymbolKey) → OrderKey → R → Bool
is_within key_of wanted r = is_le (order_cmp (order_of (key_of r)) wanted)

-- so many records have keys before one, and no record from there on does
pub record IsFirstFrom {R : Type 0} (key_of : R → SymbolKey) (wanted : OrderKey) (records : List R) (n : ℕ) : Type 0 where
  pub most : n ≤ length records
  pub parted : IsPartitionPoint (λ r. is_below key_of wanted r ≡ true) (λ r. is_below key_of wanted r ≡ false) records n

-- so many records have keys that are no later than one, and no record from there on has such a key
pub record IsEndOf {R : Type 0} (key_of : R → SymbolKey) (wanted : OrderKey) (records : List R) (n : ℕ) : Type 0 where
  pub most : n ≤ length records
  pub parted : IsPartitionPoint (λ r. is_within key_of wanted r ≡ true) (λ r. is_within key_of wanted r ≡ false) records n
