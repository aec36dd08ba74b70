-- Lists that are ordered by a test.
use Rattle.std.specs.Prelude.{◌≡◌, Bool, false, List}
use Rattle.fh_base.specs.Lists.{AreRelated}

-- none is after one that the order puts after it
abbrev pub AreOrderedBy : {X : Type 0} → (X → X → Bool) → List X → Type 0
AreOrderedBy lt = AreRelated (λ p q. lt q p ≡ false)
