-- A long plan and a silent source can be sent.
use Rattle.std.proofs.Common.{◌≡◌, ℕ, ℤ, pos, zero, suc, ◌+◌, ◌%◌, ◌/◌, ◌<◌, ◌≤◌, ◌^◌, ◌≤ℤ◌, Bool, true, false, ◌==◌, if◌then◌else◌, [], ◌∷◌, refl, ap, sym, subst, arith}
use Rattle.std.specs.Prelude.{All}
use Rattle.std.specs.List.{slice_index_or}
use Rattle.std.proofs.lemmas.Int.{ints}
use Rattle.std.proofs.lemmas.List.Elements.{All-cons}
use Rattle.bfp_codec.specs.Exponent.{Within}
use Rattle.bfp_codec.specs.Samples.{component, no_iq}
use Rattle.bfp_codec.specs.Shrunk.{CanPack}
use Rattle.bfp_codec.specs.declared.samples.Iq.{Iq}
use Rattle.window_config.specs.Configs.{IsConfig}
use Rattle.window_config.specs.Endpoints.{IsEndpoint}
use Rattle.window_config.specs.Plans.{IsPlanLine}
use Rattle.window_config.specs.Relations.{PassesCheck}
use Rattle.window_config.specs.declared.endpoints.EndpointConfig.{EndpointConfig}
use Rattle.window_config.specs.declared.plan.PlanLine.{PlanLine}
use Rattle.window_config.proofs.Usual.{usual_within}
use Rattle.unit_model.specs.Proper.{IsAt}
use Rattle.plan_model.specs.Examples.{usual}
use Rattle.uplink_laws.specs.Sent.{IsSendable}
use Rattle.uplink_laws.proofs.RadiatedLemmas.{least_come}
use Rattle.long_plan_laws.specs.Lines.{frame_line, frame_lines, long_config}
use Rattle.long_plan_laws.specs.Sent.{LongPlansAreSent, silence, silent}
use Rattle.long_plan_laws.proofs.Apart.{are_valid}
use Rattle.window_config.specs.declared.plan.TheConstants.{LAST_FRAME}

none_all : {X : Type 0} (P : X → Type 0) → All P []
none_all P k d below = absurd (omega (arith, below))

one_all : {X : Type 0} (P : X → Type 0) (x : X) → P x → All P (x ∷ [])
one_all P x h = All-cons P x [] h (none_all P)

-- ---- the configuration

config_is : IsConfig long_config
config_is = record {
  delays = usual_within;
  gap = record { low = omega (arith, ints); high = omega (arith, ints) };
  fragment_low = omega arith;
  fragment_high = omega arith;
  pack_low = omega arith;
  pack_high = omega arith;
  endpoints = record {
    each = one_all IsEndpoint usual (record { some = omega arith; most = omega arith; width = tt });
    few = omega arith;
    differ = λ j k a b same. omega (arith, a, b);
  };
}

check_is : PassesCheck long_config.delays
check_is = record {
  up_max = omega (arith, ints);
  up_min = omega (arith, ints);
  cp_ul_max = omega (arith, ints);
  cp_ul_min = omega (arith, ints);
  ta4_min = omega (arith, ints);
  ta4_max = omega (arith, ints);
  hold_dl = omega (arith, ints);
  hold_ul = omega (arith, ints);
}

-- ---- its lines

low_frame : (frame : ℕ) → 1 ≤ frame → pos 1 ≤ℤ pos frame
low_frame frame h = omega (arith, ints, h)

high_frame : (frame : ℕ) → frame ≤ LAST_FRAME → pos frame ≤ℤ pos LAST_FRAME
high_frame frame h = omega (arith, ints, h)

line_is : (frame : ℕ) → 1 ≤ frame → frame ≤ LAST_FRAME → IsPlanLine (frame_line frame)
line_is frame low high = record {
  frame_low = low_frame frame low;
  frame_high = high_frame frame high;
  subframe = omega arith;
  slot = omega arith;
  symbol = omega arith;
  count = omega arith;
  start_prb = omega arith;
  mask = omega arith;
  section = omega arith;
  beam = omega arith;
}

lines_are : (frame n : ℕ) → 1 ≤ frame → frame + n ≤ 100000 → All IsPlanLine (frame_lines frame n)
unfolding frame_lines
lines_are frame zero low high = none_all IsPlanLine
lines_are frame (suc n) low high =
    All-cons IsPlanLine (frame_line frame) (frame_lines (frame + 1) n) (line_is frame low (omega (arith, high))) (lines_are (frame + 1) n (omega (arith, low)) (omega (arith, high)))

numbers_are : (frame n : ℕ) → All (λ (l : PlanLine). l.num_prb < 2 ^ 8) (frame_lines frame n)
unfolding frame_lines
numbers_are frame zero = none_all (λ (l : PlanLine). l.num_prb < 2 ^ 8)
numbers_are frame (suc n) = All-cons (λ (l : PlanLine). l.num_prb < 2 ^ 8) (frame_line frame) (frame_lines (frame + 1) n) (omega arith) (numbers_are (frame + 1) n)

-- ---- its source

silent_at : (n k : ℕ) → slice_index_or (silent n) k no_iq ≡ no_iq
silent_at zero k = refl
silent_at (suc n) zero = refl
silent_at (suc n) (suc k) = silent_at n k

no_signal : (k : ℕ) → component (silent 12) k ≡ pos 0
no_signal k = go (k % 2 == 0)
  where
    go : (b : Bool) → (let z : ℤ = if b then (slice_index_or (silent 12) (k / 2) no_iq).i else (slice_index_or (silent 12) (k / 2) no_iq).q in z) ≡ pos 0
    go true = ap (λ (s : Iq). s.i) (silent_at 12 (k / 2))
    go false = ap (λ (s : Iq). s.q) (silent_at 12 (k / 2))

zero_within : Within 16 (pos 0)
zero_within = record { low = omega (arith, ints); high = omega (arith, ints) }

plain : (e : EndpointConfig) → usual ≡ e → CanPack e.format.method (silent 12)
plain e h = subst (λ (f : EndpointConfig). CanPack f.format.method (silent 12)) h (λ k below. subst (Within 16) (sym (no_signal k)) zero_within)

only_one : (ep : ℕ) (e : EndpointConfig) → IsAt (usual ∷ []) ep e → usual ≡ e
only_one zero e at = cc
only_one (suc ep) e at = absurd cc

in_range : (n : ℕ) → n ≤ LAST_FRAME → 1 + n ≤ 100000
in_range n h = omega (arith, h)

sendable : (n : ℕ) → n ≤ LAST_FRAME → IsSendable long_config (frame_lines 1 n) silence
sendable n few = record {
  config = config_is;
  lines_fit = lines_are 1 n (omega arith) (in_range n few);
  valid = are_valid n few;
  ids = one_all (λ (e : EndpointConfig). e.id < 2 ^ 16) usual (omega arith);
  num_prbs = numbers_are 1 n;
  can = λ ep e at slot symbol prb. plain e (only_one ep e at);
}

pub are_sent : LongPlansAreSent
are_sent n few = record { sendable = sendable n few; arrive = least_come long_config (frame_lines 1 n) silence (sendable n few) check_is }
