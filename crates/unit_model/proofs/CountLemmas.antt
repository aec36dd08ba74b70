-- What is counted, one step further.
use Rattle.std.proofs.Common.{◌≡◌, ℕ, ◌+◌, List, [], ◌∷◌, ◌++◌, refl, ap, ◌∙◌, arith}
use Rattle.std.specs.Prelude.{true, false, Option, Some, None, is_some}
use Rattle.fault_counters.specs.declared.kinds.Counter.{Counter}
use Rattle.fault_counters.specs.declared.kinds.Counter.TheVariants as counter
use Rattle.fault_counters.specs.Counts.{capped, once, times}
use Rattle.ecpri_frames.specs.declared.refusals.PduRefusal.{PduRefusal}
use Rattle.air_source.specs.declared.events.Side.{Side}
use Rattle.ecpri_fragments.specs.Generations.{Fragment}
use Rattle.window_config.specs.declared.config.Config.{Config}
use Rattle.unit_model.specs.Commands.{command_verdicts}
use Rattle.unit_model.specs.Blocks.{data_verdicts}
use Rattle.unit_model.specs.Counts.{frames_counted, messages_counted, refusal_counted}
use Rattle.unit_model.specs.Decoding.{data_sections}
use Rattle.unit_model.specs.Meetings.{commands, fragments, meetings}
use Rattle.unit_model.specs.Reports.{arrivals_counted, met}

-- one more of what is counted beside the sections, of the commands, and of the data
pub capped_beside : (x y n o a b : ℕ) → x ≡ capped (n + (a + b)) → y ≡ capped (x + o) → y ≡ capped ((n + o) + (a + b))
capped_beside x y n o a b h g = omega arith

pub capped_command : (x y n o a b : ℕ) → x ≡ capped (n + (a + b)) → y ≡ capped (x + o) → y ≡ capped (n + ((a + o) + b))
capped_command x y n o a b h g = omega arith

pub capped_data : (x y n o a b : ℕ) → x ≡ capped (n + (a + b)) → y ≡ capped (x + o) → y ≡ capped (n + (a + (b + o)))
capped_data x y n o a b h g = omega arith

pub added_as : (x y : ℕ) (a b k : Counter) → a ≡ b → y ≡ capped (x + once a k) → y ≡ capped (x + once b k)
added_as x y a b k e h = h ∙ ap (λ w. capped (x + once w k)) e

-- a frame, and whether it is refused
pub frame_refused : (r : Option PduRefusal) (n : ℕ) (k : Counter) → is_some r ≡ true
    → (n + once counter.Frames k) + once counter.FramesRefused k ≡ n + times (refusal_counted r ++ counter.Frames ∷ []) k
frame_refused None n k h = absurd cc
frame_refused (Some r) n k h = omega arith

pub frame_sound : (r : Option PduRefusal) (n : ℕ) (k : Counter) → is_some r ≡ false → n + once counter.Frames k ≡ n + times (refusal_counted r ++ counter.Frames ∷ []) k
frame_sound None n k h = omega arith
frame_sound (Some r) n k h = absurd cc

pub times-append : (xs ys : List Counter) (k : Counter) → times (xs ++ ys) k ≡ times xs k + times ys k
times-append [] ys k = omega arith
times-append (x ∷ xs) ys k = omega (arith, times-append xs ys k)

pub one_time : (n o : ℕ) → n + o ≡ n + (0 + o)
one_time n o = omega arith

pub no_time : (n : ℕ) → n ≡ n + 0
no_time n = omega arith

-- of no arrivals nothing is counted, and no fragment was received
pub nothing_counted : (side : Side) (c : Config) → arrivals_counted side c [] ≡ []
unfolding frames_counted messages_counted meetings commands command_verdicts data_sections data_verdicts
nothing_counted side c = refl

pub no_fragments : (side : Side) (c : Config) → fragments (met side c []) ≡ (let none : List Fragment = [] in none)
unfolding meetings fragments
no_fragments side c = refl
