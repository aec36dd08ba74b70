use Rattle.std.proofs.Common.{◌≡◌, List, get_or, ap, ◌∙◌}
use Rattle.std.proofs.lemmas.Result.{IfErr-weaker, on_ok_weaker}
use Rattle.du_intake.specs.Rows.{no_claim}
use Rattle.du_intake.specs.declared.claims.PlannedClaim.{PlannedClaim}
use Rattle.du_intake.proofs.CloseLemmas.{goes_told, goes_unplanned, claim_claims, claim_few, own_endpoint, own_slot, stops_here}
use Rattle.du_intake.proofs.unit.Intake.close_cell.Goals as goal

pub planned_cell-requires-clause-at : goal.planned_cell-requires-clause-at
planned_cell-requires-clause-at g c =
    let some = c.requires.unit in
    own_endpoint some.config some.planned c.args.self.now some.history c.args.m.now c.args.prb some.closes c.requires.next

pub planned_cell-requires-clause-slot : goal.planned_cell-requires-clause-slot
planned_cell-requires-clause-slot g c =
    let some = c.requires.unit in
    own_slot some.config some.planned c.args.self.now some.history c.args.m.now c.args.prb some.closes c.requires.next

pub planned_cell-requires-clause-few : goal.planned_cell-requires-clause-few
planned_cell-requires-clause-few g c =
    let some = c.requires.unit in
    let same : c.claim_of_prb-claim.result ≡ get_or c.args.self.now.row.items c.args.prb no_claim =
    c.claim_of_prb-claim.ensures ∙ ap (λ (xs : List PlannedClaim). get_or xs c.args.prb no_claim) c.deref.ensures.value in
    claim_few some.config some.planned c.args.self.now some.history c.args.m.now c.args.prb some.closes c.requires.next c.requires.claims c.claim_of_prb-claim.result same

pub returns-in-None-clause-told : goal.returns-in-None-clause-told
returns-in-None-clause-told g c k planned h to all order =
    let u = c.args.self.now in
    let same : c.claim_of_prb-claim.result ≡ get_or u.row.items c.args.prb no_claim =
    c.claim_of_prb-claim.ensures ∙ ap (λ (xs : List PlannedClaim). get_or xs c.args.prb no_claim) c.deref.ensures.value in
    goes_unplanned k planned u h c.args.m.now c.args.prb all c.requires.next c.claim_of_prb-claim.result c.requires.within
    (claim_claims k planned u h c.args.m.now c.args.prb all c.requires.next c.requires.claims c.claim_of_prb-claim.result same)
    g.A.Air.grew g.met.A.Air.grew_none to c.args.air.now order c.in-None.ensures

pub returns-in-Some-clause-told : goal.returns-in-Some-clause-told
returns-in-Some-clause-told g c k planned h to all order =
    let u = c.args.self.now in
    let same : c.claim_of_prb-claim.result ≡ get_or u.row.items c.args.prb no_claim =
    c.claim_of_prb-claim.ensures ∙ ap (λ (xs : List PlannedClaim). get_or xs c.args.prb no_claim) c.deref.ensures.value in
    on_ok_weaker c.tell.result (λ told.
    goes_told k planned u h c.args.m.now c.args.prb all c.requires.next c.claim_of_prb-claim.result c.requires.within
    (claim_claims k planned u h c.args.m.now c.args.prb all c.requires.next c.requires.claims c.claim_of_prb-claim.result same)
    g.A.Air.grew to c.in-Some.cell c.tell.new.counters c.args.air.now c.tell.new.air order c.in-Some.ensures told.1 told.0) c.tell.ensures.told

pub returns-in-Some-clause-stop : goal.returns-in-Some-clause-stop
returns-in-Some-clause-stop g c k planned h to all order =
    let u = c.args.self.now in
    let same : c.claim_of_prb-claim.result ≡ get_or u.row.items c.args.prb no_claim =
    c.claim_of_prb-claim.ensures ∙ ap (λ (xs : List PlannedClaim). get_or xs c.args.prb no_claim) c.deref.ensures.value in
    IfErr-weaker c.tell.result _ _ (λ f stop.
    stops_here k planned u h c.args.m.now c.args.prb all c.requires.next c.claim_of_prb-claim.result c.requires.within
    (claim_claims k planned u h c.args.m.now c.args.prb all c.requires.next c.requires.claims c.claim_of_prb-claim.result same)
    g.A.Air.grew (g.A.Air.stopped f) g.met.A.Air.grew_none to c.in-Some.cell c.tell.new.counters c.args.air.now c.tell.new.air order c.in-Some.ensures stop.1 stop.0) c.tell.ensures.stop
