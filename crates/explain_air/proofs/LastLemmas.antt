-- What the unit of the last frame judged of it.
use Rattle.std.proofs.Common.{◌≡◌, ℤ, Bool, false, List, [], ◌∷◌, ◌++◌, sym, ap, subst, ◌∙◌}
use Rattle.std.specs.Prelude.{All}
use Rattle.air_source.specs.declared.events.Side.{Side}
use Rattle.explain_heard.specs.Heard.{HearsAll, all_heard}
use Rattle.explain_heard.specs.declared.heard.Heard.{Heard}
use Rattle.explain_units.proofs.FitLemmas.{judged_fit}
use Rattle.explain_units.specs.Fit.{AreFit}
use Rattle.unit_model.specs.Judgements.{Judgement, judgements}
use Rattle.unit_model.specs.Meetings.{Arrival}
use Rattle.unit_model.specs.Proper.{IsTime}
use Rattle.unit_model.specs.Standing.{AreInTime}
use Rattle.window_config.specs.Configs.{IsConfig}
use Rattle.window_config.specs.declared.config.Config.{Config}
use Rattle.window_config.specs.declared.endpoints.EndpointConfig.{EndpointConfig}

-- what heard it had nothing kept, for this unit and these endpoints
module _ (a side x : Side) (es fs ds : List EndpointConfig) (ks new : List Heard) (p is : Bool) (js : List Judgement) (same : a ≡ side) (endpoints : es ≡ fs) (none : ks ≡ [])
    (h : HearsAll a es ks p js x ds new is) where
  pub heard_all : is ≡ false → new ≡ all_heard side fs js
  heard_all fine =
      h.keeps.kept fine ∙ ap (λ (hs : List Heard). hs ++ all_heard a es js) none ∙ ap (λ (s : Side). all_heard s es js) same ∙ ap (λ (xs : List EndpointConfig). all_heard side xs js) endpoints

  pub same_endpoints : ds ≡ fs
  same_endpoints = h.endpoints ∙ endpoints

pub heard_fit : (side at_side : Side) (es : List EndpointConfig) (c : Config) (clock : ℤ) (earlier : List Arrival) (a : Arrival) (new : List Heard)
    → IsConfig c × AreInTime clock (a ∷ earlier) × All (λ a. IsTime a.at) (a ∷ earlier) → new ≡ all_heard side es (judgements at_side c earlier a) → AreFit new
heard_fit side at_side es c clock earlier a new times is = subst AreFit (sym is) (judged_fit side at_side es c clock earlier a times.0 times.1 times.2)
