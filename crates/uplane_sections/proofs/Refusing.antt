-- Where a message is not refused, each test was passed.
use Rattle.std.proofs.Common.{◌≡◌, ℕ, Bool, true, false, cond, None, refl}
use Rattle.uplane_sections.specs.declared.values.URefusal.{URefusal}
use Rattle.uplane_sections.specs.declared.values.UWhy.{UWhy}
use Rattle.uplane_sections.specs.Messages.{Telling, refused}

-- a test that refuses nothing is false
pub record Passes (t : Bool) (x : Telling) : Type 0 where
  pub passed : t ≡ false
  pub rest : x.refusal ≡ None

pub passes : (t : Bool) (r : URefusal) (x : Telling) → (cond t (refused r) x).refusal ≡ None → Passes t x
passes true r x h = absurd cc
passes false r x h = record { passed = refl; rest = h }

abbrev pub refusal_at : ℕ → UWhy → URefusal
refusal_at place why = record { place = place; why = why }
