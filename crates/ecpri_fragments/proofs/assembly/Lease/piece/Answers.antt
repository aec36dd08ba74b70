use Rattle.std.proofs.Common.{◌∙◌, sym, arith}
use Rattle.ecpri_fragments.proofs.Pieces.{length-pieces_in, get_or-pieces_in}
use Rattle.ecpri_fragments.proofs.assembly.Lease.piece.Goals as goal

pub piece-requires : goal.piece-requires
piece-requires c =
    let l = c.args.self.now in
    omega (arith, c.requires, l.within, length-pieces_in l.place.now.spans l.place.now.bytes l.count)

pub returns : goal.returns
returns c =
    let l = c.args.self.now in
    let spans = l.place.now.spans in
    let bytes = l.place.now.bytes in
    c.piece.ensures ∙ sym (get_or-pieces_in spans bytes l.count c.args.k (omega (arith, c.requires, length-pieces_in spans bytes l.count)))
