-- Of a slot that no message can name yet, nothing is known.
use Rattle.std.proofs.Common.{◌≡◌, ℕ, ℤ, ◌-ℤ◌, false, List, [], ◌∷◌, inl, inr, refl, sym, ap, ◌∙◌, subst}
use Rattle.std.specs.Prelude.{All, Some, None, Option, ◌==◌, slice_get, unwrap_or, cond}
use Rattle.std.proofs.lemmas.Bool.{and_parts, eqb-true}
use Rattle.std.proofs.lemmas.List.Elements.{All-nil, All-cons, All-head, All-tail}
use Rattle.fh_base.specs.Air.{air_of}
use Rattle.fh_base.specs.declared.numerology.Numerology.{Numerology}
use Rattle.fh_base.specs.declared.values.Slot.{Slot}
use Rattle.window_config.specs.Rings.{ru_reach_of}
use Rattle.window_config.specs.Windows.{ticks_of_ns}
use Rattle.window_config.specs.declared.endpoints.EndpointConfig.{EndpointConfig}
use Rattle.window_config.specs.declared.rings.Reach.{Reach}
use Rattle.unit_model.specs.Claims.{claim_at, covers, in_mask, names, same_slot}
use Rattle.unit_model.specs.Commands.{accepted, allocation_of, is_uplink}
use Rattle.unit_model.specs.Proper.{IsAt}
use Rattle.unit_model.specs.Standing.{uplink_of}
use Rattle.unit_model.specs.declared.allocations.Allocation.{Allocation}
use Rattle.unit_laws.specs.Far.{WasLive, IsFar, IsReached, IsHeard, AcceptedAreReached, FarIsUnclaimed, FarHasNoUplink}
use Rattle.unit_laws.specs.Touched.{is_uplink_of}
use Rattle.unit_laws.proofs.ChangeLemmas.{accepted_more, claim_same, either_way}
use Rattle.unit_laws.proofs.LiveLemmas.{command_live}
use Rattle.unit_model.proofs.ClaimLemmas.{same_slot_is as slots_equal, covers_is}
use Rattle.fh_base.proofs.Orders.{beyond}

-- the endpoint with an index
pub endpoints_equal : (es : List EndpointConfig) (i j : ℕ) (e f : EndpointConfig) → IsAt es i e → IsAt es j f → i ≡ j → e ≡ f
endpoints_equal es i j e f at_i at_j same =
    let both : Some e ≡ Some f = sym at_i ∙ ap (slice_get es) same ∙ at_j in
    ap (λ (o : Option EndpointConfig). unwrap_or o e) both

-- a slot that was live is not far
pub not_far : (n : Numerology) (r : Reach) (clock : ℤ) (slot : Slot) → WasLive n r clock slot → IsFar n r clock slot → ⊥
not_far n r clock slot was far = beyond (air_of n slot 0 -ℤ ticks_of_ns r.before) was.when clock was.live.begun was.come far

pub far_other : (es : List EndpointConfig) (r : Reach) (clock : ℤ) (i j : ℕ) (e f : EndpointConfig) (s t : Slot) → IsAt es i e → IsAt es j f → i ≡ j → s ≡ t
    → WasLive e.numerology r clock s → IsFar f.numerology r clock t → ⊥
far_other es r clock i j e f s t at_i at_j same slots was far =
    let was_f : WasLive f.numerology r clock s = subst (λ (x : EndpointConfig). WasLive x.numerology r clock s) (endpoints_equal es i j e f at_i at_j same) was in
    not_far f.numerology r clock t (subst (WasLive f.numerology r clock) slots was_f) far

pub accepted_reached : AcceptedAreReached
unfolding accepted
accepted_reached es d clock [] limits heard = All-nil (IsReached es (ru_reach_of d) clock)
accepted_reached es d clock (c ∷ earlier) limits heard =
    let P = IsReached es (ru_reach_of d) clock in
    let before : All P (accepted d earlier) = accepted_reached es d clock earlier limits (All-tail (IsHeard es clock) c earlier heard) in
    let first : IsHeard es clock c = All-head (IsHeard es clock) c earlier heard in
    elim (accepted_more d c earlier) [
      | inl e ↦ subst (All P) (sym e) before
      | inr is ↦
          let here : P (allocation_of c) = record {
            endpoint = first.endpoint;
            live = record { when = c.at.0; come = first.come; live = command_live d (accepted d earlier) c limits first.start_symbol is.0 };
          } in
          subst (All P) (sym is.1) (All-cons P (allocation_of c) (accepted d earlier) here before)
    ]

pub far_unclaimed : FarIsUnclaimed
unfolding claim_at
far_unclaimed es r clock [] e cell re all at far = refl
far_unclaimed es r clock (a ∷ earlier) e cell re all at far =
    let before : claim_at earlier cell re ≡ None = far_unclaimed es r clock earlier e cell re (All-tail (IsReached es r clock) a earlier all) at far in
    let first : IsReached es r clock a = All-head (IsReached es r clock) a earlier all in
    elim (either_way (names a cell re)) [
      | inl not_named ↦ claim_same a earlier cell re not_named ∙ before
      | inr named ↦
          let is = covers_is a cell (and_parts (covers a cell) (in_mask a.mask re) named).0 in
          absurd (far_other es r clock a.ep cell.ep a.endpoint e a.slot cell.slot first.endpoint at is.ep is.slot first.live far)
    ]

pub uplink_same : (ep : ℕ) (slot : Slot) (a : Allocation) (earlier : List Allocation) → is_uplink_of ep slot a ≡ false
    → uplink_of ep slot (a ∷ earlier) ≡ uplink_of ep slot earlier
uplink_same ep slot a earlier h = ap (λ b. cond b (a ∷ uplink_of ep slot earlier) (uplink_of ep slot earlier)) h

pub far_no_uplink : FarHasNoUplink
far_no_uplink es r clock [] e ep slot all at far = refl
far_no_uplink es r clock (a ∷ earlier) e ep slot all at far =
    let before : uplink_of ep slot earlier ≡ [] = far_no_uplink es r clock earlier e ep slot (All-tail (IsReached es r clock) a earlier all) at far in
    let first : IsReached es r clock a = All-head (IsReached es r clock) a earlier all in
    elim (either_way (is_uplink_of ep slot a)) [
      | inl other ↦ uplink_same ep slot a earlier other ∙ before
      | inr own ↦
          let parts = and_parts (a.ep == ep) (same_slot a.slot slot) (and_parts (is_uplink a) _ own).1 in
          absurd (far_other es r clock a.ep ep a.endpoint e a.slot slot first.endpoint at (eqb-true a.ep ep parts.0) (slots_equal a.slot slot parts.1) first.live far)
    ]
