use Rattle.std.proofs.Common.{◌≡◌, ℤ, ◌+◌, ◌∷◌, ◌++◌, refl, ap, ◌∙◌, subst}
use Rattle.ecpri_fragments.specs.Assemblies.{hold_of as assembly_hold}
use Rattle.ecpri_fragments.specs.Generations.{fragment}
use Rattle.ecpri_fragments.specs.Verdicts.{verdict_on}
use Rattle.fault_counters.specs.Counts.{times}
use Rattle.unit_model.specs.Commands.{accepted}
use Rattle.unit_model.specs.Counts.{decoded_counted, fragment_counter, piece_counted}
use Rattle.unit_model.specs.Decoding.{data_now, data_told}
use Rattle.unit_memory.specs.Parts.{HoldsParts}
use Rattle.unit_memory.proofs.StepLemmas.{as_data, counted_piece, of_data, parts_as}
use Rattle.unit_model.specs.Judgements.{judged_piece}
use Rattle.unit_memory.proofs.memory.UnitMemory.piece.Goals as goal

pub returns-clause-holds : goal.returns-clause-holds
returns-clause-holds g c side conf n fs cs ds h =
    let a = c.args in
    let at = a.received.now.at.0 in
    let e = a.received.now.endpoint.now in
    let f = fragment a.received.now.ep a.received.now.at a.received.now.seq a.received.now.bytes.now in
    let hold = assembly_hold a.self.now.assembly in
    let told = data_now side hold e f fs in
    let new = c.assemble-verdict.new in
    let does = c.assemble-verdict.ensures in
    let heard = does.holds side conf _ (accepted conf.delays cs) fs ds h.fragments (as_data side conf at a.self.now n fs cs ds h) in
    let taken = of_data side conf at a.self.now new.assembly new.cells new.counters n (λ k. times (decoded_counted told) k) f fs cs ds (data_told told) c.requires.time refl does.took h heard in
    let counter : c.fragment_counter.result ≡ fragment_counter (verdict_on hold f fs) = c.fragment_counter.ensures ∙ ap fragment_counter (does.verdict fs h.fragments) in
    let counted = c.count.ensures.holds side conf at (λ k. n k + times (decoded_counted told) k) (f ∷ fs) cs (data_told told ++ ds) taken in
    let all = parts_as side conf at c.count.new.self _ _ (f ∷ fs) cs (data_told told ++ ds) (λ k. counted_piece n told c.fragment_counter.result _ k counter) counted in
    let P : ℤ → Type 0 = λ (z : ℤ). HoldsParts side conf at c.count.new.self (λ k. n k + times (piece_counted z f fs (data_now side z e f fs)) k) (f ∷ fs) cs (data_told (data_now side z e f fs) ++ ds) in
    subst P h.hold all

pub returns-clause-told : goal.returns-clause-told
returns-clause-told g c side conf n fs cs ds h =
    let a = c.args in
    let at = a.received.now.at.0 in
    let e = a.received.now.endpoint.now in
    let f = fragment a.received.now.ep a.received.now.at a.received.now.seq a.received.now.bytes.now in
    let told = c.assemble-verdict.ensures.told side conf _ (accepted conf.delays cs) fs ds h.fragments (as_data side conf at a.self.now n fs cs ds h) in
    subst (λ (hold : ℤ). g.L.Listener.heard a.listener.now (judged_piece side conf.delays hold e f fs ds) c.assemble-verdict.new.listener) h.hold told
