use Rattle.std.proofs.Common.{◌≡◌, ◌∙◌, ℤ, Some, None, true, false, sym, ap}
use Rattle.std.specs.Ordering.{int_eq}
use Rattle.std.proofs.lemmas.Bool.Decides.{Decides-int_eq}
use Rattle.fh_base.specs.declared.values.Ticks.{Ticks}
use Rattle.std.proofs.lemmas.Option.{same_Some}
use Rattle.frame_sending.proofs.due.leaves_at.Goals as goal

pub returns-in-Some-clause-yes : goal.returns-in-Some-clause-yes
returns-in-Some-clause-yes c test e lines left h =
    let same = (Decides-int_eq c.in-Some.at.0 c.args.tick.0).0 (sym c.eq.ensures ∙ test) in
    sym (c.next_time.ensures e lines left h) ∙ c.in-Some.is ∙ ap (λ (z : ℤ). Some (let t : Ticks = record { 0 = z } in t)) same

pub returns-in-Some-clause-no : goal.returns-in-Some-clause-no
returns-in-Some-clause-no c test e lines left h first =
    let same = same_Some _ _ (sym c.in-Some.is ∙ c.next_time.ensures e lines left h ∙ first) in
    let equal : int_eq c.in-Some.at.0 c.args.tick.0 ≡ true = (Decides-int_eq c.in-Some.at.0 c.args.tick.0).1 (ap (λ (t : Ticks). t.0) same) in
    let other : true ≡ false = sym equal ∙ sym c.eq.ensures ∙ test in
    absurd (cc other)

pub returns-in-None-clause-no : goal.returns-in-None-clause-no
returns-in-None-clause-no c test e lines left h first =
    let is : None ≡ Some c.args.tick = sym c.in-None.is ∙ c.next_time.ensures e lines left h ∙ first in absurd (cc is)
