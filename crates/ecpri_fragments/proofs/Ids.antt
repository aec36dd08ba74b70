-- Fragments of one id.
use Rattle.std.proofs.Common.{◌≡◌, true, refl}
use Rattle.std.specs.Prelude.{◌==◌}
use Rattle.std.proofs.lemmas.Bool.{and_from, eq-eqb}
use Rattle.ecpri_fragments.specs.Generations.{Fragment, is_of}

pub same_id : (f : Fragment) → is_of f.ep f.seq f ≡ true
same_id f = and_from (f.ep == f.ep) (f.seq == f.seq) (eq-eqb f.ep f.ep refl) (eq-eqb f.seq f.seq refl)
