-- The complete texts of six documents, with their reasons: the lines of the plan are in the document's lines with these numbers.
use Rattle.std.specs.Prelude.{◌≡◌, true, false, List, [], ◌∷◌}
use Rattle.window_config.specs.declared.plan.PlanKind.TheVariants.{Down, Up}
use Rattle.window_config.specs.declared.plan.PlanLine.{PlanLine}
use Rattle.plan_model.specs.Examples.{worked_line}
use Rattle.explain_model.specs.Text.{explain_of}
use Rattle.explain_model.specs.Sums.{reasoned}
use Rattle.worked_explanations.specs.OneCommand as one_command
use Rattle.worked_explanations.specs.BothWays as both_ways
use Rattle.worked_explanations.specs.OverlapDocument as overlap
use Rattle.worked_explanations.specs.LostFragment as lost_fragment
use Rattle.worked_explanations.specs.LateUplink as late_uplink
use Rattle.worked_explanations.specs.Corners as corners

abbrev pub plan_of_one_command : List PlanLine
plan_of_one_command = []

abbrev pub plan_of_both_ways : List PlanLine
plan_of_both_ways = worked_line Down 0 1 4095 1 ∷ record (worked_line Up 0 1 4080 2) { symbol = 2 } ∷ record (worked_line Up 105 1 4095 3) { id = 1; symbol = 2; count = 2 } ∷ []

abbrev pub plan_of_overlap : List PlanLine
plan_of_overlap = []

abbrev pub plan_of_lost_fragment : List PlanLine
plan_of_lost_fragment = worked_line Down 0 3 4095 1 ∷ []

abbrev pub plan_of_late_uplink : List PlanLine
plan_of_late_uplink = worked_line Up 0 1 4095 5 ∷ []

abbrev pub plan_of_corners : List PlanLine
plan_of_corners = record (worked_line Down 0 2 4095 3) { symbol = 2 } ∷ []

-- each text is what the events, the configuration, the plan and its line numbers make
pub record TextsAreAsWorked : Type 0 where
  pub one_command_is : explain_of false one_command.config (reasoned one_command.config plan_of_one_command ([]) one_command.events) one_command.events ≡ one_command.text
  pub both_ways_is : explain_of false both_ways.config (reasoned both_ways.config plan_of_both_ways (7 ∷ 8 ∷ 9 ∷ []) both_ways.events) both_ways.events ≡ both_ways.text
  pub overlap_is : explain_of false overlap.config (reasoned overlap.config plan_of_overlap ([]) overlap.events) overlap.events ≡ overlap.text
  pub lost_fragment_is : explain_of true lost_fragment.config (reasoned lost_fragment.config plan_of_lost_fragment (5 ∷ []) lost_fragment.events) lost_fragment.events ≡ lost_fragment.text
  pub late_uplink_is : explain_of false late_uplink.config (reasoned late_uplink.config plan_of_late_uplink (4 ∷ []) late_uplink.events) late_uplink.events ≡ late_uplink.text
  pub corners_is : explain_of false corners.config (reasoned corners.config plan_of_corners (4 ∷ []) corners.events) corners.events ≡ corners.text
