use Rattle.std.proofs.Common.{◌≡◌, refl, rules, false, List, Bool, replicate}
use Rattle.std.proofs.lemmas.List.Elements.{same_from_all_zip}
use Rattle.slot_rings.proofs.CountLemmas.{counted_none}
use Rattle.slot_rings.proofs.pending.Flags.make.Goals as goal

pub invariant_of-result : goal.invariant_of-result
invariant_of-result c =
    let row : List Bool = replicate 14 false in
    let symbols : c.in_ok-symbols.symbols.items ≡ replicate c.args.places row = c.in_ok-symbols.ensures.items_if_clones_equal (λ y h. same_from_all_zip _ row y h.whole (λ a b e. e)) in
    let counts : c.in_ok-counts.counts.items ≡ replicate c.args.places 0 = c.in_ok-counts.ensures.items_if_clones_equal (λ y h. search rules) in
    rw (symbols, counts) (counted_none c.args.places row c.requires refl refl)
