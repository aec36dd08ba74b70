-- The text of a fit (this project's profile): what shows that a relation fails, and the greatest windows that fit.
use Rattle.std.specs.Prelude.{ℕ, ℤ, List, [], ◌++◌, codes, Option, Some, None, Result, Ok, Err}
use Rattle.std.specs.List.{flat_map}
use Rattle.fh_base.specs.Words.{spaced_signed_text}
use Rattle.window_config.specs.declared.delays.Delays.{Delays}
use Rattle.window_config.specs.declared.relations.Relation.{Relation}
use Rattle.window_config.specs.Relations.{relations, name_of}
use Rattle.window_plan.specs.declared.breaches.Breach.{Breach}
use Rattle.window_plan.specs.declared.breaches.Breach.TheVariants.{One, Two}
use Rattle.window_plan.specs.declared.refusals.NoFit.{NoFit}
use Rattle.window_plan.specs.Breaches.{breach_of}
use Rattle.window_plan.specs.Fitting.{fitted}
use Rattle.window_plan.specs.Windows.{range_text}

-- when a frame is sent and how long it takes, each after a space
abbrev pub frame_text : ℤ → ℤ → List ℕ
frame_text sent delay = spaced_signed_text sent ++ spaced_signed_text delay

-- the frames of a breach
abbrev pub frames_text : Breach → List ℕ
frames_text (One sent delay) = frame_text sent delay
frames_text (Two sent delay later later_delay) = frame_text sent delay ++ frame_text later later_delay

-- the line of a relation, where there is something that shows that it fails
unfoldable pub breach_line : Relation → Option Breach → List ℕ
breach_line r None = []
breach_line r (Some b) = codes "breach " ++ name_of r ++ frames_text b ++ codes "\n"

abbrev pub breach_text : Delays → Relation → List ℕ
breach_text d r = breach_line r (breach_of r d)

-- the three lines of the fitted windows
unfoldable pub fitted_text : Delays → List ℕ
fitted_text f = codes "t1a" ++ range_text f.t1a_up ++ range_text f.t1a_cp_ul ++ codes "\nta4" ++ range_text f.ta4 ++ codes "\nhold"
    ++ spaced_signed_text f.hold_dl ++ spaced_signed_text f.hold_ul ++ codes "\n"

-- nothing where a window does not fit
abbrev pub fitted_or_none : Result Delays NoFit → List ℕ
fitted_or_none (Ok f) = fitted_text f
fitted_or_none (Err e) = []

-- the whole text: the relations that fail, in their order, and the fit
unfoldable pub fit_text : Delays → List ℕ
fit_text d = flat_map (breach_text d) relations ++ fitted_or_none (fitted d)
