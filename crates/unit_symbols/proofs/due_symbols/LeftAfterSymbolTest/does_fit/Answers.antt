use Rattle.std.proofs.Common.{◌≡◌, ◌∙◌, ap, arith, refl, sym, true}
use Rattle.std.specs.Prelude.{int_lt}
use Rattle.std.proofs.lemmas.Int.{ints}
use Rattle.unit_symbols.specs.DueSymbols.{is_left}
use Rattle.unit_symbols.specs.Places.{start_in}
use Rattle.unit_symbols.proofs.DueSearch.{left_is}
use Rattle.unit_symbols.proofs.due_symbols.LeftAfterSymbolTest.does_fit.Goals as goal

pub returns-then-m-self : goal.returns-then-m-self
returns-then-m-self c =
    let v = c.args.cells.now in
    let p = c.args.place.now in
    let m = c.args.m.now in
    let after : int_lt c.args.self.now.after.0 m.start.0 ≡ true = grind (arith, ints) in
    let left : is_left v m ≡ c.is_used.result =
    ap (is_left v) c.requires.is ∙ left_is v p.ring.now (start_in p m.symbol) c.requires.place.there ∙ sym (c.is_used.ensures p.ep) in
    rw (after, left) refl
