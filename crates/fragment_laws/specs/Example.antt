-- Two messages of two fragments whose frames cross on their way, one of them twice, as what the laws are about.
use Rattle.std.specs.Prelude.{◌≡◌, ◌==◌, ℕ, ℤ, pos, ◌+ℤ◌, ◌+◌, ◌*◌, ◌%◌, if◌then◌else◌, List, [], ◌∷◌}
use Rattle.ecpri_fragments.specs.Generations.{Fragment}
use Rattle.ecpri_fragments.specs.declared.verdict.Verdict.{Verdict}
use Rattle.ecpri_fragments.specs.Verdicts.{verdict_on}
use Rattle.ecpri_fragments.specs.declared.verdict.Verdict.TheVariants.{Stored, Whole, Repeat}
use Rattle.fragment_laws.specs.Flow.{Flow, Bounds, sent_at, IsSound, IsDelivered}

abbrev pub example_bounds : Bounds
example_bounds = record { fast = pos 10; slow = pos 30; hold = pos 100 }

abbrev pub example_flow : ℕ → Flow
example_flow ep = record {
  count = if ep == 0 then 2 else 0;
  pieces = λ j. 2;
  low = λ j. pos 1000;
  before = λ j. j + j;
  gap = 5;
  spread = 20;
  text = λ j k. j ∷ k ∷ [];
}

-- so many messages that their ids wrap
abbrev pub long_flow : Flow
long_flow = record {
  count = 1000;
  pieces = λ j. 2;
  low = λ j. pos (j * 10);
  before = λ j. 0;
  gap = 5;
  spread = 20;
  text = λ j k. j ∷ k ∷ [];
}

-- a copy that is so long on its way
abbrev pub frame : ℕ → ℕ → ℕ → Fragment
frame j k delay = record { ep = 0; seq = j % 256; at = sent_at (example_flow 0) j k +ℤ pos delay; last = k + 1 == 2; sub = k; bytes = j ∷ k ∷ [] }

abbrev pub came : List Fragment
came = frame 1 1 25 ∷ frame 1 0 30 ∷ frame 0 1 25 ∷ frame 0 0 28 ∷ frame 1 0 15 ∷ frame 0 1 11 ∷ []

abbrev pub verdicts : ℤ → List Fragment → List Verdict
verdicts hold [] = []
verdicts hold (a ∷ earlier) = verdict_on hold a earlier ∷ verdicts hold earlier

pub record IsExample : Type 0 where
  pub long : IsSound example_bounds long_flow
  pub sound : (ep : ℕ) → IsSound example_bounds (example_flow ep)
  pub delivered : IsDelivered example_bounds example_flow came
  pub are : verdicts example_bounds.hold came ≡ Whole ∷ Repeat ∷ Repeat ∷ Whole ∷ Stored ∷ Stored ∷ []
