use Rattle.std.proofs.lemmas.Bool.{eq-eqb, ne_eqb}
use Rattle.slot_rings.proofs.MaskLemmas.{section_none, section_own}
use Rattle.slot_rings.proofs.claims.CellClaims.section.Goals as goal

pub returns-then-self-eq0 : goal.returns-then-self-eq0
returns-then-self-eq0 c = section_none c.args.self (eq-eqb _ _ c.if-self-eq0.true)

pub returns-else-self-eq0 : goal.returns-else-self-eq0
returns-else-self-eq0 c = section_own c.args.self (ne_eqb _ _ c.if-self-eq0.false)
