-- What is in a list, what is so of all of it, and what a filter leaves.
use Rattle.std.proofs.Common.{ℕ, List, subst}
use Rattle.std.specs.Prelude.{All}
use Rattle.std.proofs.lemmas.Option.{get_or_from_slice_get, slice_get_within}
use Rattle.window_config.specs.Endpoints.{IsEndpoint}
use Rattle.window_config.specs.declared.endpoints.EndpointConfig.{EndpointConfig}
use Rattle.unit_model.specs.Proper.{IsAt}

-- ---- what is in a list

-- ---- one that passes a test

-- ---- all of a list

-- ---- what a filter leaves

-- ---- an endpoint by its place

pub endpoint_is : (es : List EndpointConfig) (ep : ℕ) (e : EndpointConfig) → All IsEndpoint es → IsAt es ep e → IsEndpoint e
endpoint_is es ep e all at = subst IsEndpoint (get_or_from_slice_get es ep e e at) (all ep e (slice_get_within es ep e at))

-- ---- lists of which each element may precede those after it
