-- Endpoints whose ids follow one another, as the tests make them.
use Rattle.std.proofs.Common.{◌≡◌, ℕ, ◌+◌, ◌<◌, ◌≤◌, List, length, get_or, slice_index, sym, ◌∙◌, arith}
use Rattle.std.proofs.lemmas.List.{get_or-map, length-map}
use Rattle.std.proofs.lemmas.List.Elements.{All-from_get_or}
use Rattle.window_config.specs.Endpoints.{IsEndpoint, AreEndpoints, ids_of, no_endpoint}
use Rattle.window_config.specs.declared.endpoints.EndpointConfig.{EndpointConfig}

pub record IsNumbered (id : ℕ) (e : EndpointConfig) : Type 0 where
  pub endpoint : IsEndpoint e
  pub is : e.id ≡ id

pub numbered_are : (es : List EndpointConfig) (first n : ℕ) → length es ≡ n → n ≤ 16 → ((i : ℕ) → i < n → IsNumbered (first + i) (get_or es i no_endpoint)) → AreEndpoints es
numbered_are es first n count few each = record {
  each = All-from_get_or IsEndpoint es no_endpoint (λ i below. (each i (omega arith)).endpoint);
  few = omega arith;
  differ = λ i j i_below j_below same. let e = sym (id_of i i_below) ∙ same ∙ id_of j j_below in omega (arith, e);
}
  where
    id_of : (i : ℕ) → i < length (ids_of es) → slice_index (ids_of es) i ≡ first + i
    id_of i below =
        let under : i < length es = omega (arith, length-map es (λ (e : EndpointConfig). e.id)) in
        get_or-map (λ (e : EndpointConfig). e.id) es i no_endpoint 0 under ∙ (each i (omega arith)).is
