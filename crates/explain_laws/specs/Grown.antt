-- The generation of a message that stays unfinished is one of those that all fragments form (eCPRI transport header of O-RAN.WG4.CUS; the
-- rest is this project's profile).
use Rattle.std.specs.Prelude.{ℤ, List, ◌∷◌}
use Rattle.ecpri_fragments.specs.Generations.{Fragment, generations_of}
use Rattle.fh_base.specs.Lists.{onto}
use Rattle.explain_model.specs.Fragments.{generation_at, grown}
use Rattle.fh_base.specs.Members.{IsIn}

-- where these were received before a fragment, the newest first, and these after it, in their order: the generation in which it falls,
-- followed to the end, is one of those of its sequence id over the complete list, and the fragment is in it
pub record GrownIsGeneration (hold : ℤ) (earlier : List Fragment) (f : Fragment) (later : List Fragment) : Type 0 where
  pub there : IsIn (grown hold f.ep f.seq (generation_at hold earlier f) later) (generations_of hold f.ep f.seq (onto (f ∷ earlier) later))
  pub has : IsIn f (grown hold f.ep f.seq (generation_at hold earlier f) later).held

abbrev pub GrownAreGenerations : Type 0
GrownAreGenerations = (hold : ℤ) (earlier : List Fragment) (f : Fragment) (later : List Fragment) → GrownIsGeneration hold earlier f later
