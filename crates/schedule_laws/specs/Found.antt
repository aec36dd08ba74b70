-- Each endpoint of a configuration is found by its eAxC id.
use Rattle.std.specs.Prelude.{◌≡◌, ℕ, List, Some}
use Rattle.eaxc_map.specs.Endpoints.{AppearOnce}
use Rattle.window_config.specs.Endpoints.{ids_of}
use Rattle.window_config.specs.declared.endpoints.EndpointConfig.{EndpointConfig}
use Rattle.unit_model.specs.Meetings.{find_endpoint}
use Rattle.unit_model.specs.Proper.{IsAt}

abbrev pub EndpointsAreFound : Type 0
EndpointsAreFound = (es : List EndpointConfig) (ep : ℕ) (e : EndpointConfig) → AppearOnce (ids_of es) → IsAt es ep e → find_endpoint es e.id ≡ Some (ep, e)
