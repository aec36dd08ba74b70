-- When two symbols are the same, and what the line of a cell is made of.
use Rattle.std.proofs.Common.{◌≡◌, true, ◌==◌, ◌++◌, sym, ap, ◌∙◌, append_assoc}
use Rattle.std.specs.Prelude.{codes}
use Rattle.std.specs.Cmp.{first_so, second_so}
use Rattle.std.specs.Ordering.{int_eq}
use Rattle.std.proofs.lemmas.Bool.{eqb-true}
use Rattle.fh_base.proofs.Orders.{same_z}
use Rattle.air_source.specs.declared.events.AirCell.{AirCell}
use Rattle.fh_base.specs.Words.{spaced_text, hex3_text}
use Rattle.air_source.specs.declared.symbols.CellSymbol.{CellSymbol}
use Rattle.air_source.specs.CellLines.{cell_text, samples_text}
use Rattle.air_source.specs.SymbolWords.{symbol_of, same_symbol, symbol_text, rest_text}
use Rattle.air_source.proofs.Sides.{side_same}

-- the same symbol is one symbol
pub same_is : (p q : CellSymbol) → same_symbol p q ≡ true → p ≡ q
same_is p q h =
    let symbol = eqb-true p.symbol q.symbol (second_so _ (p.symbol == q.symbol) h) in
    let h1 = first_so _ (p.symbol == q.symbol) h in
    let slot = eqb-true p.slot.slot q.slot.slot (second_so _ (p.slot.slot == q.slot.slot) h1) in
    let h2 = first_so _ (p.slot.slot == q.slot.slot) h1 in
    let subframe = eqb-true p.slot.subframe q.slot.subframe (second_so _ (p.slot.subframe == q.slot.subframe) h2) in
    let h3 = first_so _ (p.slot.subframe == q.slot.subframe) h2 in
    let frame = same_z p.slot.frame q.slot.frame (second_so _ (int_eq p.slot.frame q.slot.frame) h3) in
    let h4 = first_so _ (int_eq p.slot.frame q.slot.frame) h3 in
    let id = eqb-true p.id q.id (second_so _ (p.id == q.id) h4) in
    let h5 = first_so _ (p.id == q.id) h4 in
    let at = same_z p.at.0 q.at.0 (second_so _ (int_eq p.at.0 q.at.0) h5) in
    let side = side_same p.side q.side (first_so _ (int_eq p.at.0 q.at.0) h5) in
    λ i. record { side = side i; at = record { 0 = at i }; id = id i; slot = record { frame = frame i; subframe = subframe i; slot = slot i }; symbol = symbol i }

-- a line is that of its symbol and the rest
pub cell_split : (c : AirCell) → symbol_text (symbol_of c) ++ rest_text c ≡ cell_text c
unfolding symbol_text cell_text
cell_split c =
    let s = symbol_text (symbol_of c) in
    let p = spaced_text c.prb in
    let n = spaced_text c.section in
    let m = hex3_text c.mask in
    let b = samples_text c.mask c.block in
    sym (append_assoc s ((((p ++ n) ++ codes " ") ++ m) ++ b) (codes "\n"))
    ∙ ap (λ t. t ++ codes "\n") (
    sym (append_assoc s (((p ++ n) ++ codes " ") ++ m) b)
    ∙ ap (λ t. t ++ b) (
    sym (append_assoc s ((p ++ n) ++ codes " ") m)
    ∙ ap (λ t. t ++ m) (sym (append_assoc s (p ++ n) (codes " ")) ∙ ap (λ t. t ++ codes " ") (sym (append_assoc s p n)))
    )
    )
