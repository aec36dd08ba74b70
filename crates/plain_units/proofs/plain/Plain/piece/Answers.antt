use Rattle.std.proofs.Common.{◌+◌, ◌∷◌, ℤ, sym, ◌∙◌, subst}
use Rattle.std.specs.Prelude.{Option}
use Rattle.std.proofs.lemmas.Result.{on_ok_weaker}
use Rattle.ecpri_fragments.specs.Generations.{fragment}
use Rattle.fault_counters.specs.declared.kinds.Counter.{Counter}
use Rattle.fault_counters.specs.Counts.{once}
use Rattle.unit_model.specs.Counts.{fragment_counter}
use Rattle.plain_units.specs.Owned.{IsTaken}
use Rattle.plain_units.specs.Plain.{PlainHolds}
use Rattle.unit_model.specs.Reports.{hold_of}
use Rattle.plain_units.specs.declared.taking.OwnedMessage.{OwnedMessage}
use Rattle.plain_units.proofs.PlainLemmas.{taken_holds, piece_none, piece_some}
use Rattle.plain_units.proofs.TimeLemmas.{whole_came}
use Rattle.plain_units.proofs.plain.Plain.piece.Goals as goal

pub whole-requires-clause-unit : goal.whole-requires-clause-unit
whole-requires-clause-unit c =
    let a = c.args in
    let u = c.requires.unit in
    let f = fragment a.receipt.ep a.receipt.at a.seq a.bytes.now in
    let h = taken_holds a.self.now c.take.new.assembly a.side a.config.now u.counted u.fragments u.commands u.sections f c.take.ensures.took c.requires.time u.holds in
    record {
      counted = λ k. u.counted k + once c.fragment_counter.result k;
      fragments = f ∷ u.fragments;
      commands = u.commands;
      sections = u.sections;
      holds = c.count.ensures a.side a.config.now u.counted (f ∷ u.fragments) u.commands u.sections h;
    }

pub whole-requires-clause-first : goal.whole-requires-clause-first
whole-requires-clause-first c =
    let a = c.args in
    let u = c.requires.unit in
    let f = fragment a.receipt.ep a.receipt.at a.seq a.bytes.now in
    let taken = c.in_ok-verdict.ensures.answer u.fragments u.holds.fragments in
    (whole_came _ f u.fragments c.in-Some.message (sym c.in-Some.is ∙ taken.message_is) c.requires.time u.holds.came).first

pub whole-requires-clause-last : goal.whole-requires-clause-last
whole-requires-clause-last c =
    let a = c.args in
    let u = c.requires.unit in
    let f = fragment a.receipt.ep a.receipt.at a.seq a.bytes.now in
    let taken = c.in_ok-verdict.ensures.answer u.fragments u.holds.fragments in
    (whole_came _ f u.fragments c.in-Some.message (sym c.in-Some.is ∙ taken.message_is) c.requires.time u.holds.came).last

pub returns-in-Some : goal.returns-in-Some
returns-in-Some c n fs cs ds h =
    let a = c.args in
    let conf = a.config.now in
    let f = fragment a.receipt.ep a.receipt.at a.seq a.bytes.now in
    let v = c.in_ok-verdict.verdict in
    let held = taken_holds a.self.now c.take.new.assembly a.side conf n fs cs ds f c.take.ensures.took c.requires.time h in
    let counted = c.count.ensures a.side conf n (f ∷ fs) cs ds held in
    let P : Counter → Type 0 = λ (x : Counter). PlainHolds c.count.new.self a.side conf (λ k. n k + once x k) (f ∷ fs) cs ds in
    let told = c.whole.ensures (λ k. n k + once (fragment_counter v) k) (f ∷ fs) cs ds (subst P c.fragment_counter.ensures counted) in
    let T : ℤ → Type 0 = λ (z : ℤ). IsTaken z f fs v c.in_ok-verdict.whole in
    let Q : Option OwnedMessage → Type 0 = λ (m : Option OwnedMessage). IsTaken (hold_of a.side conf.delays) f fs v m in
    let taken = subst Q c.in-Some.is (subst T h.hold (c.in_ok-verdict.ensures.answer fs h.fragments)) in
    on_ok_weaker c.whole.result (piece_some c.whole.new.self a.side conf n fs cs ds a.receipt.endpoint f v c.in-Some.message taken) told

pub returns-in-None : goal.returns-in-None
returns-in-None c n fs cs ds h =
    let a = c.args in
    let conf = a.config.now in
    let f = fragment a.receipt.ep a.receipt.at a.seq a.bytes.now in
    let v = c.in_ok-verdict.verdict in
    let held = taken_holds a.self.now c.take.new.assembly a.side conf n fs cs ds f c.take.ensures.took c.requires.time h in
    let counted = c.count.ensures a.side conf n (f ∷ fs) cs ds held in
    let P : Counter → Type 0 = λ (x : Counter). PlainHolds c.count.new.self a.side conf (λ k. n k + once x k) (f ∷ fs) cs ds in
    let T : ℤ → Type 0 = λ (z : ℤ). IsTaken z f fs v c.in_ok-verdict.whole in
    let Q : Option OwnedMessage → Type 0 = λ (m : Option OwnedMessage). IsTaken (hold_of a.side conf.delays) f fs v m in
    let taken = subst Q c.in-None.is (subst T h.hold (c.in_ok-verdict.ensures.answer fs h.fragments)) in
    piece_none c.count.new.self a.side conf n fs cs ds a.receipt.endpoint f v taken (subst P c.fragment_counter.ensures counted)
