-- What holds the same references as what notes and passes on.
use Rattle.std.specs.Prelude.{◌≡◌}
use Rattle.std.proofs.Common.{refl, ◌∙◌}
use Rattle.explain_air.specs.declared.notes.Noting.{Noting}

-- the same references, and what the one to the sink of lines refers to is the same too
pub record IsSameNoting {W : Type 0} (same : W → W → Type 0) (a b : Noting W) : Type 0 where
  pub out : b.out.ghost_name ≡ a.out.ghost_name
  pub notes : b.notes.ghost_name ≡ a.notes.ghost_name
  pub behind : same a.out.now b.out.now

pub same_none : {W : Type 0} (same : W → W → Type 0) → ((a : W) → same a a) → (a : Noting W) → IsSameNoting same a a
same_none same none a = record { out = refl; notes = refl; behind = none a.out.now }

pub same_more : {W : Type 0} (same : W → W → Type 0) → ((a b c : W) → same a b → same b c → same a c) → (a b c : Noting W)
    → IsSameNoting same a b → IsSameNoting same b c → IsSameNoting same a c
same_more same more a b c h k = record {
  out = k.out ∙ h.out;
  notes = k.notes ∙ h.notes;
  behind = more a.out.now b.out.now c.out.now h.behind k.behind;
}
