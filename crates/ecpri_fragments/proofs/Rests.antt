-- The generations of an id beside the one that a fragment falls in.
use Rattle.std.specs.Prelude.{ℤ, List, [], ◌∷◌, if◌then◌else◌}
use Rattle.ecpri_fragments.specs.Generations.{Fragment, Generation, is_within}

-- those before it
unfoldable pub rest_of : ℤ → Fragment → List Generation → List Generation
rest_of hold f [] = []
rest_of hold f (g ∷ gs) = if is_within hold g.start f.at then gs else g ∷ gs
