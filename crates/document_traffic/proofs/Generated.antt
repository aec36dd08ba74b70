-- A generated document is plain.
use Rattle.std.proofs.Common.{◌≢◌, ℕ, ℤ, pos, zero, suc, ◌+◌, [], ◌∷◌, refl, arith}
use Rattle.std.specs.Prelude.{All}
use Rattle.std.proofs.lemmas.Int.{ints}
use Rattle.std.proofs.lemmas.List.Elements.{All-cons, All-nil}
use Rattle.air_source.specs.declared.events.Side.{Side}
use Rattle.air_source.specs.declared.events.Side.TheVariants.{Ru, Du}
use Rattle.window_config.specs.Relations.{PassesCheck}
use Rattle.window_config.specs.Usual.{usual_delays}
use Rattle.document_traffic.specs.Undisturbed.{transport_of}
use Rattle.generated_laws.specs.Documents.{deliveries_from, delivery_of, document}
use Rattle.document_traffic.specs.Plain.{GeneratedAreUndisturbed, IsPlain, IsPlainLine, IsWithin}
use Rattle.document_traffic.proofs.Carried.{are_undisturbed}

check_is : PassesCheck usual_delays
check_is = record {
  up_max = omega (arith, ints);
  up_min = omega (arith, ints);
  cp_ul_max = omega (arith, ints);
  cp_ul_min = omega (arith, ints);
  ta4_min = omega (arith, ints);
  ta4_max = omega (arith, ints);
  hold_dl = omega (arith, ints);
  hold_ul = omega (arith, ints);
}

-- 50,000 and 60,000 ns, of at most 100,000
first_time : (side : Side) → IsWithin (transport_of side usual_delays) (pos 50000)
first_time Ru = record { from = omega (arith, ints); to = omega (arith, ints) }
first_time Du = record { from = omega (arith, ints); to = omega (arith, ints) }

second_time : IsWithin (transport_of Ru usual_delays) (pos 60000)
second_time = record { from = omega (arith, ints); to = omega (arith, ints) }

two_left : (x y : ℤ) → x ∷ y ∷ [] ≢ []
two_left x y e = cc

abbrev AtRu : ℤ → Type 0
AtRu ns = IsWithin (transport_of Ru usual_delays) ns

line_is : (seed j : ℕ) → IsPlainLine usual_delays (delivery_of seed j)
line_is seed j = record {
  some = λ other. two_left (pos 50000) (pos 60000);
  within = λ other. All-cons AtRu (pos 50000) (pos 60000 ∷ []) (first_time Ru) (All-cons AtRu (pos 60000) [] second_time (All-nil AtRu));
}

lines_are : (seed j count : ℕ) → All (IsPlainLine usual_delays) (deliveries_from seed j count)
unfolding deliveries_from
lines_are seed j zero = All-nil (IsPlainLine usual_delays)
lines_are seed j (suc count) = All-cons (IsPlainLine usual_delays) (delivery_of seed j) (deliveries_from seed (j + 1) count) (line_is seed j) (lines_are seed (j + 1) count)

is_plain : (seed slots : ℕ) → IsPlain (document seed slots)
is_plain seed slots = record { check = check_is; alone = refl; down = first_time Ru; up = first_time Du; lines = lines_are seed 0 slots }

pub generated_are_undisturbed : GeneratedAreUndisturbed
generated_are_undisturbed seed slots = are_undisturbed (document seed slots) (is_plain seed slots)
