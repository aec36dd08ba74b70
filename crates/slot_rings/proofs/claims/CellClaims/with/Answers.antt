use Rattle.std.proofs.Common.{refl}
use Rattle.slot_rings.proofs.MaskLemmas.{with_idle, with_used}
use Rattle.slot_rings.proofs.claims.CellClaims.with.Goals as goal

pub returns-then-idle : goal.returns-then-idle
returns-then-idle c = let i = c.if-idle.true in rw i (record { each = with_idle c.args.self c.args.id c.args.mask c.requires; reported = refl })

pub returns-else-idle : goal.returns-else-idle
returns-else-idle c = let i = c.if-idle.false in rw i (record { each = with_used c.args.self c.args.id c.args.mask c.ranges.mask.fits c.requires; reported = refl })
