use Rattle.std.proofs.Common.{◌≡◌, refl, sym, ◌∙◌, None, Some, true, false, ◌∷◌}
use Rattle.ecpri_fragments.specs.Generations.{fragment}
use Rattle.ecpri_fragments.specs.Verdicts.{refused, is_whole}
use Rattle.ecpri_fragments.proofs.Tables.{refused_same}
use Rattle.ecpri_fragments.specs.Places.{table_of}
use Rattle.ecpri_fragments.proofs.place.Place.join.Goals as goal

pub returns-in-Some : goal.returns-in-Some
returns-in-Some c ep start s st =
    let a = fragment ep c.args.at c.args.seq c.args.bytes.now in
    let e : Some c.in-Some.why ≡ refused s a = c.in-Some.ensures.refused ∙ sym (refused_same (table_of c.args.self.now) s a st.3 c.requires.sub) in
    rw (← e) (refl, st)

pub returns-then-self : goal.returns-then-self
returns-then-self c ep start s st =
    let a = fragment ep c.args.at c.args.seq c.args.bytes.now in
    let e : None ≡ refused s a = c.in_default.ensures.refused ∙ sym (refused_same (table_of c.args.self.now) s a st.3 c.requires.sub) in
    let h = c.store.ensures.holds ep s st.3 (sym e) in
    let w : is_whole (a ∷ s) ≡ true = sym h.whole ∙ c.if-self.true in
    rw (← e, w) (refl, (st.0, c.store.ensures.same_begun ∙ st.1, st.2, h))

pub returns-else-self : goal.returns-else-self
returns-else-self c ep start s st =
    let a = fragment ep c.args.at c.args.seq c.args.bytes.now in
    let e : None ≡ refused s a = c.in_default.ensures.refused ∙ sym (refused_same (table_of c.args.self.now) s a st.3 c.requires.sub) in
    let h = c.store.ensures.holds ep s st.3 (sym e) in
    let w : is_whole (a ∷ s) ≡ false = sym h.whole ∙ c.if-self.false in
    rw (← e, w) (refl, (st.0, c.store.ensures.same_begun ∙ st.1, st.2, h))
