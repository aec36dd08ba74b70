-- Records that passed have no fault.
use Rattle.std.proofs.Common.{◌≡◌, ℕ, ◌+◌, List, [], ◌∷◌, length, Option, Some, None, Result, Ok, Err, refl, ap}
use Rattle.std.specs.List.{AllByRecursion}
use Rattle.capture_records.specs.Records.{Arrived}
use Rattle.pcap_export.specs.declared.refusals.ExportRefusal.{ExportRefusal}
use Rattle.pcap_export.specs.declared.refusals.ExportWhy.{ExportWhy}
use Rattle.pcap_export.specs.Checked.{fault_of, passed_by, placed_from}
use Rattle.pcap_export.specs.declared.ways.Ways.{Ways}

-- a record that is written has no fault
abbrev pub IsPlaced : Ways → Arrived → Type 0
IsPlaced ways a = fault_of ways a ≡ None

abbrev pub ArePlaced : Ways → List Arrived → Type 0
ArePlaced ways landed = AllByRecursion (IsPlaced ways) landed

faultless : (w : Option ExportWhy) (place : ℕ) (x : Result (Unit {0}) ExportRefusal) → passed_by w place x ≡ Ok tt → (w ≡ None) × (x ≡ Ok tt)
faultless None place x e = (refl, e)
faultless (Some why) place x e = absurd cc

pub all_placed : (ways : Ways) (place : ℕ) (landed : List Arrived) → placed_from ways place landed ≡ Ok tt → ArePlaced ways landed
unfolding placed_from
all_placed ways place [] e = tt
all_placed ways place (a ∷ rest) e =
    let f = faultless (fault_of ways a) place (placed_from ways (place + (13 + length a.frame)) rest) e in
    (f.0, all_placed ways (place + (13 + length a.frame)) rest f.1)

-- one without a fault moves the tests on
pub placed_next : (ways : Ways) (place : ℕ) (a : Arrived) (rest : List Arrived) → fault_of ways a ≡ None → placed_from ways place (a ∷ rest) ≡ placed_from ways (place + (13 + length a.frame)) rest
unfolding placed_from
placed_next ways place a rest e = ap (λ w. passed_by w place (placed_from ways (place + (13 + length a.frame)) rest)) e

-- one with a fault ends them
pub placed_stop : (ways : Ways) (place : ℕ) (a : Arrived) (rest : List Arrived) (why : ExportWhy) → fault_of ways a ≡ Some why → placed_from ways place (a ∷ rest) ≡ Err (record { place = place; why = why })
unfolding placed_from
placed_stop ways place a rest why e = ap (λ w. passed_by w place (placed_from ways (place + (13 + length a.frame)) rest)) e

pub placed_end : (ways : Ways) (place : ℕ) → placed_from ways place [] ≡ Ok tt
unfolding placed_from
placed_end ways place = refl
