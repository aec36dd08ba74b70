use Rattle.std.proofs.lemmas.Bool.{eq-eqb, ne_eqb}
use Rattle.slot_rings.proofs.MaskLemmas.{clashes_own, clashes_other}
use Rattle.slot_rings.proofs.claims.CellClaims.clashes.Goals as goal

pub returns-then-self-id : goal.returns-then-self-id
returns-then-self-id c = clashes_own c.args.self c.args.id c.args.mask (eq-eqb _ _ c.if-self-id.true)

pub returns-else-self-id : goal.returns-else-self-id
returns-else-self-id c = clashes_other c.args.self c.args.id c.args.mask (ne_eqb _ _ c.if-self-id.false)
