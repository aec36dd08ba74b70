-- The symbols of all endpoints in the order of time: tick by tick, and at one tick by endpoint, slot and symbol (3GPP TS 38.211,
-- clause 5.3.1, for the starts of symbols; the order is this project's profile).
use Rattle.std.specs.Prelude.{ℕ, ℤ, pos, ◌+◌, ◌-ℤ◌, ◌+ℤ◌, if◌then◌else◌, List, [], ◌∷◌, ◌++◌}
use Rattle.std.specs.Int.{int_div_euclid, int_gap}
use Rattle.std.specs.Ordering.{int_eq}
use Rattle.fh_base.specs.declared.values.Slot.{Slot}
use Rattle.fh_base.specs.Air.{air_of}
use Rattle.fh_base.specs.Numbering.{slots_of, symbols_of}
use Rattle.window_config.specs.declared.endpoints.EndpointConfig.{EndpointConfig}
use Rattle.fh_base.specs.Lists.{each, each_tick}
use Rattle.fh_base.specs.declared.frames.TheConstants.{FRAME}

-- what is told of one symbol of an endpoint with this index
abbrev pub OfSymbol : Type 0 → Type 0
OfSymbol A = ℕ → EndpointConfig → Slot → ℕ → List A

abbrev pub slot_at : ℤ → ℕ → ℕ → Slot
slot_at frame subframe slot = record { frame = frame; subframe = subframe; slot = slot }

-- the frame that a tick lies in
abbrev pub frame_of_tick : ℤ → ℤ
frame_of_tick s = int_div_euclid s FRAME

-- a symbol starts less than 50 ms after its frame, so a symbol that starts at a tick is one of the frame of the tick or of the five
-- frames before it
abbrev pub first_swept : ℤ → ℤ
first_swept s = frame_of_tick s -ℤ pos 5

abbrev pub frames_swept : ℕ
frames_swept = 6

abbrev pub of_symbol : {A : Type 0} → (Slot → ℕ → List A) → EndpointConfig → ℤ → Slot → ℕ → List A
of_symbol g e s slot symbol = if int_eq (air_of e.numerology slot symbol) s then g slot symbol else []

unfoldable pub of_slot : {A : Type 0} → (Slot → ℕ → List A) → EndpointConfig → ℤ → Slot → List A
of_slot g e s slot = each 0 (symbols_of e.numerology) (of_symbol g e s slot)

unfoldable pub of_subframe : {A : Type 0} → (Slot → ℕ → List A) → EndpointConfig → ℤ → ℤ → ℕ → List A
of_subframe g e s frame subframe = each 0 (slots_of e.numerology) (λ slot. of_slot g e s (slot_at frame subframe slot))

unfoldable pub of_frame : {A : Type 0} → (Slot → ℕ → List A) → EndpointConfig → ℤ → ℤ → List A
of_frame g e s frame = each 0 10 (of_subframe g e s frame)

-- the symbols of an endpoint that start at the tick s, in the order of slots
unfoldable pub of_endpoint : {A : Type 0} → (Slot → ℕ → List A) → EndpointConfig → ℤ → List A
of_endpoint g e s = each 0 frames_swept (λ k. of_frame g e s (first_swept s +ℤ pos k))

-- those of all endpoints, where the first of these has the index `ep`
unfoldable pub of_endpoints : {A : Type 0} → OfSymbol A → ℕ → List EndpointConfig → ℤ → List A
of_endpoints g ep [] s = []
of_endpoints g ep (e ∷ es) s = of_endpoint (g ep e) e s ++ of_endpoints g (ep + 1) es s

abbrev pub at_tick : {A : Type 0} → OfSymbol A → List EndpointConfig → ℤ → List A
at_tick g es s = of_endpoints g 0 es s

-- those that start from one tick on and before another
unfoldable pub sweep : {A : Type 0} → OfSymbol A → List EndpointConfig → ℤ → ℤ → List A
sweep g es from end = each_tick from (int_gap from end) (at_tick g es)
