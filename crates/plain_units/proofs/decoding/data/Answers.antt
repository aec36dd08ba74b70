use Rattle.std.proofs.Common.{◌≡◌, List, ◌∷◌, [], ◌++◌, map, sym, ap, ◌∙◌, append_assoc, refl}
use Rattle.std.specs.Vec.Iter.{into_iter_items}
use Rattle.unit_model.specs.Decoding.{data_with}
use Rattle.plain_units.proofs.decoding.data.Goals as goal

one_more : {A B : Type 0} (f : A → B) (done new : List B) (d : B) (x : A) (rest more : List A) (total : List B) → done ++ map f more ≡ total → more ≡ x ∷ rest → d ≡ f x → new ≡ done ++ d ∷ [] →
    new ++ map f rest ≡ total
one_more f done new d x rest more total i s e n =
    ap (λ ys. ys ++ map f rest) n ∙ append_assoc done (d ∷ []) (map f rest) ∙ ap (λ y. done ++ (y ∷ map f rest)) e ∙ ap (λ xs. done ++ map f xs) (sym s) ∙ i

pub loop-part-preserved : goal.loop-part-preserved
loop-part-preserved c =
    let f = data_with c.args.ep c.args.endpoint.now c.args.first.0 c.args.last.0 c.args.head in
    one_more f c.loop-part.sections.items c.push.new.self.items (f c.in-Some.part) c.in-Some.part (into_iter_items c.next.new.self) (into_iter_items c.loop-part.part-iterator) (map f c.args.parts.items)
    c.loop-part.invariant c.in-Some.ensures.steps.0 refl (c.in_ok-push.ensures.items ∙ ap (λ p. c.loop-part.sections.items ++ f p ∷ []) c.part.view_is)
