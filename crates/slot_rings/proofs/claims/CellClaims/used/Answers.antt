use Rattle.std.proofs.Common.{rules}
use Rattle.slot_rings.proofs.MaskLemmas.{used_is}
use Rattle.slot_rings.proofs.claims.CellClaims.used.Goals as goal

pub returns : goal.returns
returns c = used_is c.args.self (search rules)
