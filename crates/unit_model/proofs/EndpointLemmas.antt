-- The endpoint that is found by its id.
use Rattle.std.proofs.Common.{◌≡◌, ℕ, suc, ◌+◌, Bool, true, false, List, [], ◌∷◌, Option, Some, ap, subst, arith}
use Rattle.std.specs.Prelude.{◌==◌, if◌then◌else◌, unwrap_or}
use Rattle.window_config.specs.declared.endpoints.EndpointConfig.{EndpointConfig}
use Rattle.unit_model.specs.Meetings.{find_endpoint, find_from}
use Rattle.unit_model.specs.Proper.{IsAt}

-- the endpoint that was found
pub record Found (es : List EndpointConfig) (start ep : ℕ) (e : EndpointConfig) : Type 0 where
  place : ℕ
  ep_is : ep ≡ start + place
  at : IsAt es place e

pub find_at : (start : ℕ) (es : List EndpointConfig) (id ep : ℕ) (e : EndpointConfig) → find_from start es id ≡ Some (ep, e) → Found es start ep e
find_at start [] id ep e h = absurd cc
find_at start (f ∷ fs) id ep e h = go (f.id == id) h (find_at (start + 1) fs id ep e)
  where
    go : (b : Bool) → (if b then Some (start, f) else find_from (start + 1) fs id) ≡ Some (ep, e) → (find_from (start + 1) fs id ≡ Some (ep, e) → Found fs (start + 1) ep e)
        → Found (f ∷ fs) start ep e
    go true found rest =
        let number : start ≡ ep = ap (λ (o : Option (ℕ × EndpointConfig)). (unwrap_or o (start, f)).0) found in
        let same : f ≡ e = ap (λ (o : Option (ℕ × EndpointConfig)). (unwrap_or o (start, f)).1) found in
        record { place = 0; ep_is = omega (arith, number); at = ap (λ (x : EndpointConfig). Some x) same }
    go false found rest = let r = rest found in record { place = suc r.place; ep_is = omega (arith, r.ep_is); at = r.at }

pub found_at : (es : List EndpointConfig) (id ep : ℕ) (e : EndpointConfig) → find_endpoint es id ≡ Some (ep, e) → IsAt es ep e
found_at es id ep e h =
    let found = find_at 0 es id ep e h in
    let same : found.place ≡ ep = omega (arith, found.ep_is) in
    subst (λ (k : ℕ). IsAt es k e) same found.at
