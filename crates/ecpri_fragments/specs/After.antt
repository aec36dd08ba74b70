-- What an assembly is once the lease on it is over.
use Rattle.std.specs.Prelude.{⊤}
use Rattle.std.specs.Borrow.{follows_so, MutBor, Fml}
use mathlib.Core.Option.{none}
use Rattle.ecpri_fragments.specs.declared.assembly.Assembly.{Assembly}
use Rattle.ecpri_fragments.specs.contracts.assembly.Assembly.{the_row}
use Rattle.ecpri_fragments.specs.Generations.{Fragment}
use Rattle.ecpri_fragments.specs.Assemblies.{Took}

-- once the answer is done with, the assembly has taken this fragment
abbrev pub EndsWith : MutBor Assembly → Fragment → Fml
EndsWith s a = follows_so the_row the_row s.ghost_name none (λ _ _. ⊤) (λ n. Took s.now n a)
