-- Endpoints by their ids, data that are whole, what was heard one list after the other, and counts.
use Rattle.std.proofs.Common.{◌≡◌, ℕ, ◌+◌, ◌<◌, ◌≤◌, List, [], ◌++◌, length, append-nil, append_assoc, sym, ap, ◌∙◌, arith}
use Rattle.eaxc_map.specs.Endpoints.{AppearOnce}
use Rattle.window_config.specs.Endpoints.{ids_of}
use Rattle.window_config.specs.declared.endpoints.EndpointConfig.{EndpointConfig}
use Rattle.unit_model.specs.Blocks.{data_prb_count}
use Rattle.unit_model.specs.Proper.{IsAt, IsProperData}
use Rattle.unit_model.specs.Standing.{History, heard}
use Rattle.unit_model.specs.declared.decoded.UserSection.{UserSection}
use Rattle.air_source.specs.declared.events.AirCell.{AirCell}
use Rattle.unit_laws.proofs.DifferLemmas.{id_is}

pub same_ids : (es : List EndpointConfig) (i j : ℕ) (e f : EndpointConfig) → AppearOnce (ids_of es) → IsAt es i e → IsAt es j f → e.id ≡ f.id → i ≡ j
same_ids es i j e f once at_i at_j same =
    let here = id_is es i e at_i in
    let there = id_is es j f at_j in
    once i j here.0 there.0 (here.1 ∙ same ∙ sym there.1)

-- a block for each of its PRBs
pub whole_data : (es : List EndpointConfig) (d : UserSection) → IsProperData es d → data_prb_count d ≤ length d.blocks
whole_data es d is = omega (arith, is.blocks)

-- ---- what was heard

pub heard_more : (h : History) (a b : List AirCell) → heard (heard h a) b ≡ heard h (a ++ b)
heard_more h a b = ap (λ (xs : List AirCell). let r : History = record { clock = h.clock; arrivals = h.arrivals; reported = xs; given = h.given } in r) (append_assoc h.reported a b)

pub heard_none : (h : History) → heard h [] ≡ h
heard_none h = ap (λ (xs : List AirCell). let r : History = record { clock = h.clock; arrivals = h.arrivals; reported = xs; given = h.given } in r) (append-nil h.reported)

-- ---- counts

pub not_both : (n : ℕ) → n ≡ 0 → 0 < n → ⊥
not_both n e h = omega (arith, e, h)

pub small_is : (k n : ℕ) → k < 0 + n → k < n
small_is k n h = omega (arith, h)
