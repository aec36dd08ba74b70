-- When delay measurement is over, and when all its times are whole nanoseconds.
use Rattle.std.specs.Prelude.{◌≡◌, ◌==◌, ℕ, ℤ, pos, ◌≤ℤ◌, ◌<ℤ◌, if◌then◌else◌, [], All, ◌⊎◌}
use Rattle.air_source.specs.declared.events.Side.{Side}
use Rattle.delay_laws.specs.Delays.{IsWholeTime}
use Rattle.delay_laws.specs.Ticks.{Setting}

-- how many messages of its id precede one at most: before a Request or its Follow_Up a Remote Request, before a Response both
abbrev pub step_of : ℕ → ℕ
step_of action = if action == 2 then 2 else (if action == 3 then 0 else (if action == 4 then 0 else 1))

-- nothing begins or is received in other frames after a time, and no copy takes longer than so many ticks
pub record EndsBy (w : Setting) (last most : ℤ) : Type 0 where
  pub begins : All (λ b. b.at ≤ℤ last) w.begins
  pub others : (side : Side) (t : ℤ) → last <ℤ t → w.others side t ≡ []
  pub delays : (side : Side) (k : ℕ) → All (λ d. d ≤ℤ most) (w.delays side k)
  pub some : pos 0 ≤ℤ most

-- all that is known before is in whole nanoseconds, but for the compensations
pub record HasWholeTimes (w : Setting) : Type 0 where
  pub begins : All (λ b. IsWholeTime b.at) w.begins
  pub others : (side : Side) (t : ℤ) → IsWholeTime t ⊎ (w.others side t ≡ [])
  pub delays : (side : Side) (k : ℕ) → All (λ d. IsWholeTime d) (w.delays side k)
