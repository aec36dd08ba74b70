-- The table of one of some endpoints.
use Rattle.std.proofs.Common.{◌≡◌, ℕ, ◌<◌, List, length, get_or, sym, ap, ◌∙◌}
use Rattle.std.proofs.lemmas.List.{get_or_default}
use Rattle.window_config.specs.Endpoints.{no_endpoint}
use Rattle.window_config.specs.declared.config.Config.{Config}
use Rattle.window_config.specs.declared.endpoints.EndpointConfig.{EndpointConfig}
use Rattle.air_source.specs.declared.events.AirCell.{AirCell}
use Rattle.idle_spans.specs.Tables.{SpansValue, Stands}
use Rattle.idle_text.specs.Tables.{IsTableOf}

pub table_at : (s : SpansValue) (config : Config) (es : List EndpointConfig) (ep : ℕ) (e : EndpointConfig) (first last : ℕ) (cells : List AirCell) → config.endpoints ≡ es
    → Stands s config first last cells → ep < length es → e ≡ get_or es ep e → IsTableOf s ep e first last cells
table_at s config es ep e first last cells same stands below is = record {
  config = config;
  stands = stands;
  is = is ∙ get_or_default es ep e no_endpoint below ∙ ap (λ (xs : List EndpointConfig). get_or xs ep no_endpoint) (sym same);
}
