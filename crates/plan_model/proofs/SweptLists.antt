-- What is in lists that are made of lists.
use Rattle.std.proofs.Common.{◌≡◌, ℕ, pos, ◌+◌, ◌<◌, ◌≤◌, ◌+ℤ◌, ◌≤ℤ◌, ◌<ℤ◌, inl, inr, List, [], ◌∷◌, ◌++◌, refl, ap₂, sym, subst, append-nil}
use Rattle.std.specs.Int.{int_gap}
use Rattle.fh_base.specs.Air.{air_of}
use Rattle.fh_base.specs.Numbering.{IsSlotOf, symbols_of}
use Rattle.fh_base.specs.declared.kind.Kind.{Kind}
use Rattle.fh_base.specs.declared.kind.Kind.TheVariants.{Ordinary, Offset, Extended}
use Rattle.fh_base.specs.declared.numerology.Numerology.{Numerology}
use Rattle.fh_base.specs.declared.values.Slot.{Slot}
use Rattle.fh_base.specs.Kinds.{time_offset_of, cp_length_of}
use Rattle.window_config.specs.declared.endpoints.EndpointConfig.{EndpointConfig}
use Rattle.unit_model.specs.Radiated.{first_clock}
use Rattle.unit_model.specs.Sweeps.{of_endpoint, of_endpoints, at_tick, sweep}
use Rattle.unit_model.specs.Times.{end_of_time}
use Rattle.unit_model.proofs.ReachLaws.{IsShort, IsPiece, symbol_piece}
use Rattle.unit_model.proofs.SweepLemmas.{IsKept, each_tick_related, of_endpoint_related}
use Rattle.plan_model.specs.Streams.{over_symbols}
use Rattle.ecpri_fragments.specs.Pieces.{joined}
use Rattle.fh_base.specs.Members.{IsIn}
use Rattle.fh_base.proofs.MemberLemmas.{in_left, in_right, in_either}

pub in_joined : {X : Type 0} (x : X) (xs : List X) (xss : List (List X)) → IsIn xs xss → IsIn x xs → IsIn x (joined xss)
in_joined x xs [] m n = absurd m
in_joined x xs (ys ∷ yss) (inl e) n = in_left x ys (joined yss) (subst (λ zs. IsIn x zs) e n)
in_joined x xs (ys ∷ yss) (inr t) n = in_right x ys (joined yss) (in_joined x xs yss t n)

pub of_joined : {X : Type 0} (x : X) (xss : List (List X)) → IsIn x (joined xss) → (xs : List X) × IsIn xs xss × IsIn x xs
of_joined x [] m = absurd m
of_joined x (ys ∷ yss) m = elim (in_either x ys (joined yss) m) [
  | inl l ↦ (ys, inl refl, l)
  | inr r ↦ (let w = of_joined x yss r in (w.0, inr w.1, w.2))
]

pub in_piece : {X : Type 0} (x : X) (xs ys : List X) → IsPiece xs ys → IsIn x xs → IsIn x ys
in_piece x xs ys p m = subst (λ zs. IsIn x zs) (sym p.is) (in_right x p.before (xs ++ p.after) (in_left x xs p.after m))

-- ---- what is told of the symbols of one endpoint

abbrev pub IsAll : {X : Type 0} → (X → Type 0) → List X → List X → Type 0
IsAll P xs ys = (x : _) → IsIn x xs → P x

pub all_kept : {X : Type 0} (P : X → Type 0) → IsKept {A = X} {B = X} (IsAll P)
all_kept P = record {
  none = λ x m. absurd m;
  more = λ xs xs' ys ys' p q x m. elim (in_either x xs xs' m) [ inl l ↦ p x l | inr r ↦ q x r ];
}

-- all that is told is told of one of them
pub of_symbols : {X : Type 0} (P : X → Type 0) (g : Slot → ℕ → List X) (e : EndpointConfig)
    → ((slot : Slot) (symbol : ℕ) → IsSlotOf e.numerology slot → symbol < symbols_of e.numerology → (x : X) → IsIn x (g slot symbol) → P x)
    → (x : X) → IsIn x (over_symbols g e) → P x
of_symbols P g e h =
    each_tick_related (IsAll P) (all_kept P) first_clock (int_gap first_clock (end_of_time +ℤ pos 1)) (of_endpoint g e) (of_endpoint g e) (λ s low high.
    of_endpoint_related (IsAll P) (all_kept P) g g e s (λ slot symbol frame_low frame_high is_slot is_symbol starts. h slot symbol is_slot is_symbol))

same_kept : {X : Type 0} → IsKept {A = X} {B = X} (λ xs ys. xs ≡ ys)
same_kept = record { none = refl; more = λ xs xs' ys ys' p q. ap₂ ◌++◌ p q }

one_endpoint : {X : Type 0} (g : Slot → ℕ → List X) (e : EndpointConfig) → over_symbols g e ≡ sweep (λ ep f. g) (e ∷ []) first_clock (end_of_time +ℤ pos 1)
unfolding sweep of_endpoints
one_endpoint g e =
    each_tick_related (λ xs ys. xs ≡ ys) same_kept first_clock (int_gap first_clock (end_of_time +ℤ pos 1)) (of_endpoint g e) (at_tick (λ ep f. g) (e ∷ [])) (λ s low high.
    sym (append-nil (of_endpoint g e s)))

short_kind : (k : Kind) → time_offset_of k < 65536 → cp_length_of k < 65536 → IsShort k
short_kind (Ordinary s) a b = tt
short_kind (Offset s t c) a b = (a, b)
short_kind Extended a b = tt

pub numerology_short : (n : Numerology) → IsShort n.kind
numerology_short n = short_kind n.kind n.short_offset n.short_prefix

-- and what is told of each that starts by the end of time is there
pub in_symbols : {X : Type 0} (g : Slot → ℕ → List X) (e : EndpointConfig) (slot : Slot) (symbol : ℕ) (x : X) → IsSlotOf e.numerology slot → symbol < symbols_of e.numerology
    → first_clock ≤ℤ air_of e.numerology slot symbol → air_of e.numerology slot symbol <ℤ (end_of_time +ℤ pos 1) → IsIn x (g slot symbol) → IsIn x (over_symbols g e)
in_symbols g e slot symbol x is h low high m =
    subst (λ xs. IsIn x xs) (sym (one_endpoint g e))
    (in_piece x (g slot symbol) (sweep (λ ep f. g) (e ∷ []) first_clock (end_of_time +ℤ pos 1))
    (symbol_piece (λ ep f. g) (e ∷ []) 0 e slot symbol first_clock (end_of_time +ℤ pos 1) refl (numerology_short e.numerology) is h low high) m)
