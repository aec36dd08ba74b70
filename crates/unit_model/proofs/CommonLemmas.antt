-- Lemmas that several crates use.
use Rattle.std.proofs.Common.{◌≡◌, ◌≢◌, ℕ, zero, suc, ◌+◌, ◌<◌, Bool, if◌then◌else◌, List, [], ◌∷◌, Option, Some, refl, ap, ◌∙◌, arith}
use Rattle.std.proofs.lemmas.Bool.{eq-eqb, ne_eqb}
use Rattle.window_config.specs.declared.endpoints.EndpointConfig.{EndpointConfig}
use Rattle.unit_model.specs.Meetings.{find_from}
use Rattle.unit_model.specs.Proper.{IsAt}

-- the first of an id
pub first_found : (start : ℕ) (es : List EndpointConfig) (k : ℕ) (e : EndpointConfig) → IsAt es k e → ((i : ℕ) (f : EndpointConfig) → i < k → IsAt es i f → f.id ≢ e.id)
    → find_from start es e.id ≡ Some (start + k, e)
first_found start [] k e at other = absurd cc
first_found start (f ∷ es) zero e at other =
    let same : f ≡ e = cc in
    let here : start ≡ start + 0 = omega arith in
    ap (λ (b : Bool). let o : Option (ℕ × EndpointConfig) = if b then Some (start, f) else find_from (start + 1) es e.id in o) (eq-eqb f.id e.id (ap (λ (x : EndpointConfig). x.id) same))
    ∙ ap (λ (x : EndpointConfig). let o : Option (ℕ × EndpointConfig) = Some (start, x) in o) same ∙ ap (λ n. let o : Option (ℕ × EndpointConfig) = Some (n, e) in o) here
first_found start (f ∷ es) (suc k) e at other =
    let there : start + 1 + k ≡ start + suc k = omega arith in
    ap (λ (b : Bool). let o : Option (ℕ × EndpointConfig) = if b then Some (start, f) else find_from (start + 1) es e.id in o) (ne_eqb f.id e.id (other 0 f (omega arith) refl))
    ∙ first_found (start + 1) es k e at (λ i g below at_g. other (suc i) g (omega (arith, below)) at_g)
    ∙ ap (λ n. let o : Option (ℕ × EndpointConfig) = Some (n, e) in o) there
