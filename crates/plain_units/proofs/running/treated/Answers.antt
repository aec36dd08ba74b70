use Rattle.std.proofs.Common.{ℕ, List, ◌∷◌, take, sym, subst}
use Rattle.unit_model.specs.Meetings.{Arrival, meetings}
use Rattle.plain_units.specs.Plain.{PlainStands, arrivals_after, arrivals_of}
use Rattle.plain_units.proofs.RunLemmas.{arrivals_more}
use Rattle.plain_units.proofs.running.treated.Goals as goal

pub loop-f-init : goal.loop-f-init
unfolding meetings arrivals_after
loop-f-init c = c.in_ok-unit.ensures

pub loop-f-preserved : goal.loop-f-preserved
loop-f-preserved c =
    let side = c.args.side in
    let conf = c.args.config.now in
    let frames = c.args.frames.now in
    let i = c.loop-f.f-index in
    let u = c.frame.new.self in
    let earlier = arrivals_of (take i frames) in
    let arrival : List ℕ → Arrival = λ (xs : List ℕ). record { at = c.f-item.result.at.0; frame = xs } in
    let P : List Arrival → Type 0 = λ (as' : List Arrival). PlainStands u side conf as' (meetings side conf.endpoints as') in
    let Q : List ℕ → Type 0 = λ (xs : List ℕ). P (arrival xs ∷ earlier) in
    subst P (sym (arrivals_more frames i c.f-item.result c.loop-f-test.true c.f-item.is)) (subst Q c.as_slice.ensures (c.in_ok-frame.ensures earlier c.loop-f.invariant))
