use Rattle.std.proofs.Common.{◌≡◌, ◌+◌, [], ◌∷◌, true, false, Bool, Some, None, cond, refl, sym, ap, ◌∙◌}
use Rattle.bfp_codec.specs.declared.methods.Method.{Method}
use Rattle.uplane_sections.specs.Messages.{Section, Telling, after}
use Rattle.uplane_sections.specs.Phases.{with_method}
use Rattle.uplane_sections.proofs.Told.{compression_step}
use Rattle.uplane_sections.proofs.units.compression.Goals as goal

some_method : (b : Bool) (m n : Method) → cond b (Some m) None ≡ Some n → (b ≡ true) × (m ≡ n)
some_method true m n e = (refl, cc)
some_method false m n e = absurd cc

no_method : (b : Bool) (m : Method) → cond b (Some m) None ≡ None → b ≡ false
no_method true m e = absurd cc
no_method false m e = refl

pub returns-in-None-clause-tells : goal.returns-in-None-clause-tells
returns-in-None-clause-tells c format shape rest =
    let none = no_method _ _ (sym c.method_at.ensures.value ∙ c.in-None.is) in
    compression_step format c.args.prbs shape c.args.at c.args.s c.args.bytes.now rest c.requires.two
    ∙ rw (none, c.refused.ensures.what, c.refused.ensures.phase) refl

pub returns-clause-tells : goal.returns-clause-tells
returns-clause-tells c format shape rest =
    let some = some_method _ _ _ (sym c.method_at.ensures.value ∙ c.in-Some.is) in
    compression_step format c.args.prbs shape c.args.at c.args.s c.args.bytes.now rest c.requires.two
    ∙ rw (some.0, some.1) refl
    ∙ ap (λ (t : Telling). after (Section (with_method c.args.s c.in-Some.method) ∷ []) t) (c.opened.ensures.leads format shape (c.args.at + 2) rest)
