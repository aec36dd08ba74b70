-- Each endpoint is found by its id.
use Rattle.std.proofs.Common.{◌≡◌, ℕ, zero, suc, ◌+◌, List, [], ◌∷◌, Option, Some, ap, sym, ◌∙◌, arith}
use Rattle.std.specs.Prelude.{slice_index}
use Rattle.std.specs.List.{slice_get}
use Rattle.window_config.specs.Endpoints.{ids_of}
use Rattle.window_config.specs.declared.endpoints.EndpointConfig.{EndpointConfig}
use Rattle.schedule_laws.specs.Found.{EndpointsAreFound}
use Rattle.fh_base.proofs.RisingLemmas.{below_get, get_map}
use Rattle.unit_model.proofs.CommonLemmas.{first_found}

pub index_is : (xs : List ℕ) (k x : ℕ) → slice_get xs k ≡ Some x → slice_index xs k ≡ x
index_is [] k x h = absurd cc
index_is (y ∷ xs) zero x h = cc
index_is (y ∷ xs) (suc k) x h = index_is xs k x h

pub found : EndpointsAreFound
found es ep e once at =
    let here : 0 + ep ≡ ep = omega arith in
    first_found 0 es ep e at (λ i f below at_f same.
    (let get_i = get_map (λ (x : EndpointConfig). x.id) i f es at_f in
    let get_e = get_map (λ (x : EndpointConfig). x.id) ep e es at in
    let equal : i ≡ ep = once i ep (below_get i f.id (ids_of es) get_i) (below_get ep e.id (ids_of es) get_e) (index_is (ids_of es) i f.id get_i ∙ same ∙ sym (index_is (ids_of es) ep e.id get_e)) in
    omega (arith, below, equal)))
    ∙ ap (λ n. let o : Option (ℕ × EndpointConfig) = Some (n, e) in o) here
