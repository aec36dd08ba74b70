use Rattle.std.proofs.Common.{sym}
use Rattle.ecpri_fragments.proofs.Pieces.{length-pieces_in}
use Rattle.ecpri_fragments.proofs.assembly.Lease.count.Goals as goal

pub returns : goal.returns
returns c = sym (length-pieces_in c.args.self.now.place.now.spans c.args.self.now.place.now.bytes c.args.self.now.count)
