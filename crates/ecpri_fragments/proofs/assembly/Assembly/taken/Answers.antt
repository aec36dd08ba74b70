use Rattle.std.proofs.Common.{◌≡◌, ◌+◌, ◌*◌, ◌<◌, length, ◌∷◌, refl, sym, ◌∙◌, arith, subst}
use Rattle.std.proofs.lemmas.Option.{slice_get_read}
use Rattle.ecpri_fragments.specs.declared.verdict.Verdict.TheVariants.{Whole}
use Rattle.ecpri_fragments.specs.Verdicts.{verdict, standing_before}
use Rattle.ecpri_fragments.specs.Places.{Holds, table_of}
use Rattle.ecpri_fragments.specs.Assemblies.{StandsFor}
use Rattle.ecpri_fragments.proofs.Steps.{own_place, whole_placed, shows}
use Rattle.ecpri_fragments.proofs.assembly.Assembly.taken.Goals as goal

pub returns-in-Whole : goal.returns-in-Whole
unfolding StandsFor
returns-in-Whole c arrivals a low served has st v =
    let self = c.args.self.now in
    let place = c.index-place.result.now in
    let s = standing_before self.hold.0 a arrivals in
    let l : c.args.number < length self.pool.places.items = let h = c.requires c.in-Whole.is in omega (arith, h, self.pool.places.ok.0) in
    let g = slice_get_read self.pool.places.items (length self.pool.places.items) c.args.number place refl l c.index-place.ensures in
    let within : a.ep * 256 + a.seq < length self.done.items = omega (arith, low, served, self.done_per_endpoint, self.done.ok.0) in
    let o = own_place self.pool.numbers.items self.done.items self.pool.places.items self.hold.0 arrivals a c.args.number place low within st (has c.in-Whole.is) g in
    let e : verdict s a ≡ Whole = sym v ∙ c.in-Whole.is in
    let w = whole_placed s a e in
    let h : Holds (table_of place) (a ∷ s) = subst (Holds (table_of place)) w.0 o.3 in
    (e, shows (table_of place) (a ∷ s) c.count-count.result h w.1 c.count-count.ensures.value)
