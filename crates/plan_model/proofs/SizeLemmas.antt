-- How many PRBs a section has, and how long sections and messages are.
use Rattle.std.proofs.Common.{◌≡◌, ℕ, ◌+◌, ◌-◌, ◌*◌, ◌/◌, ◌<◌, ◌≤◌, inl, inr, Bool, true, false, if◌then◌else◌, arith}
use Rattle.std.proofs.Math.Nat.{mul-le-mul, div-lt_iff_lt-mul}
use Rattle.std.proofs.lemmas.Bool.{cases_lt}
use Rattle.std.proofs.lemmas.Bool.Decides.{nat_tests}
use Rattle.fh_base.specs.Carrier.{is_outside, count_of}
use Rattle.bfp_codec.specs.Layout.{HasWidth, length_of}
use Rattle.uplane_sections.proofs.Widths.{most_length}
use Rattle.window_config.specs.declared.endpoints.EndpointConfig.{EndpointConfig}
use Rattle.plan_model.specs.Streams.{section_size}
use Rattle.fh_base.specs.declared.carrier.TheConstants.{CARRIER_PRBS}
use Rattle.window_config.specs.declared.config.TheConstants.{LEAST_FRAGMENT}
use Rattle.unit_model.specs.Terms.{MESSAGE_BYTES}

pub count_few : (prbs start num : ℕ) → prbs ≤ CARRIER_PRBS → is_outside prbs start num ≡ false → count_of prbs num ≤ CARRIER_PRBS
count_few prbs start num most inside = grind (arith, nat_tests)

pub some_prbs : (prbs num : ℕ) → 1 ≤ prbs → 0 < count_of prbs num
some_prbs prbs num some = grind (arith, nat_tests)

product_few : (a b : ℕ) → a ≤ CARRIER_PRBS → b ≤ 49 → a * b ≤ 13377
product_few a b h k = mul-le-mul h k

header_few : (b : Bool) (n : ℕ) → n ≤ 13377 → (let h : ℕ = if b then 6 else 4 in h) + n ≤ 13383
header_few true n h = omega (arith, h)
header_few false n h = omega (arith, h)

-- a section of PRBs of its carrier
pub section_few : (e : EndpointConfig) (start num : ℕ) → HasWidth e.format.method → e.prbs ≤ CARRIER_PRBS → is_outside e.prbs start num ≡ false → section_size e num ≤ 13383
section_few e start num width most inside =
    header_few e.format.dynamic _ (product_few (count_of e.prbs num) (length_of e.format.method) (count_few e.prbs start num most inside) (most_length e.format.method width))

-- it fits into a message alone
pub alone_few : (n : ℕ) → n ≤ 13383 → 4 + (0 + n) ≤ MESSAGE_BYTES
alone_few n h = omega (arith, h)

-- a message has at most 128 fragments
pub few_pieces : (fragment size k : ℕ) → LEAST_FRAGMENT ≤ fragment → size ≤ MESSAGE_BYTES → k < (size + (fragment - 1)) / fragment → k < 128
few_pieces fragment size k low few h = elim (cases_lt k 128) [
  | inl below ↦ below
  | inr above ↦
      let under : (size + (fragment - 1)) / fragment < 129 = (div-lt_iff_lt-mul (some fragment low)).1 (bound fragment size low few) in
      absurd (contradiction k ((size + (fragment - 1)) / fragment) h under above)
]
  where
    some : (f : ℕ) → LEAST_FRAGMENT ≤ f → 0 < f
    some f h = omega (arith, h)

    bound : (f s : ℕ) → LEAST_FRAGMENT ≤ f → s ≤ MESSAGE_BYTES → s + (f - 1) < 129 * f
    bound f s h k = omega (arith, h, k)

    contradiction : (k q : ℕ) → k < q → q < 129 → 128 ≤ k → ⊥
    contradiction k q a b c = omega (arith, a, b, c)
