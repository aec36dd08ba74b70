-- What was written of the text of all endpoints.
use Rattle.std.proofs.Common.{◌≡◌, ◌≢◌, ℕ, List, [], ◌∷◌, ◌++◌, codes, Option, subst}
use Rattle.std.specs.List.{flat_map}
use Rattle.fh_base.specs.Told.{WritesFront, WritesPart}
use Rattle.fh_base.specs.Owed.{Carried}
use Rattle.fh_base.specs.CarriedLaws.{carried_more}
use Rattle.fh_base.proofs.Parts.{front_part, part_behind}
use Rattle.window_config.specs.declared.endpoints.EndpointConfig.{EndpointConfig}
use Rattle.window_config.specs.declared.plan.PlanLine.{PlanLine}
use Rattle.air_source.specs.declared.events.AirCell.{AirCell}
use Rattle.idle_text.specs.Text.{end_text, endpoint_text, idle_text}

some_end : end_text ≢ []
some_end h = absurd (cc h)

module _ (es : List EndpointConfig) (lines : List PlanLine) (first last min : ℕ) (cells : List AirCell) where
  abbrev pub all_text : List ℕ
  all_text = flat_map (endpoint_text first last cells min lines) es

  -- a front of the lines of the endpoints was written
  pub lines_cut : (w v : Option (List ℕ)) (o : List ℕ) → o ≡ [] → WritesFront w v (o ++ all_text) → WritesPart w v (idle_text es lines first last min cells)
  unfolding idle_text
  lines_cut w v o none front = front_part w v all_text end_text some_end (subst (λ (t : List ℕ). WritesFront w v (t ++ all_text)) none front)

  -- all of these, and a part of what follows
  pub end_cut : (w v u : Option (List ℕ)) (o p : List ℕ) → o ≡ [] → Carried w o all_text v p → WritesPart v u (p ++ end_text) → WritesPart w u (idle_text es lines first last min cells)
  unfolding idle_text
  end_cut w v u o p none told part =
      subst (λ (t : List ℕ). WritesPart w u (t ++ (all_text ++ end_text))) none (part_behind w o all_text v p end_text u told part)

  pub all_told : (w v u : Option (List ℕ)) (o p q : List ℕ) → Carried w o all_text v p → Carried v p end_text u q → Carried w o (idle_text es lines first last min cells) u q
  unfolding idle_text
  all_told w v u o p q told end = carried_more w v u o p q all_text end_text told end
