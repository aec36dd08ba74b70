-- The PRBs of a run of silent elements follow one another.
use Rattle.std.specs.Prelude.{◌≡◌, ◌+◌, ◌==◌, ◌&&◌, true}
use Rattle.std.proofs.Common.{sym}
use Rattle.std.proofs.lemmas.Bool.{and_parts, eqb-true}
use Rattle.explain_model.specs.Same.{same_reason}
use Rattle.why_lines.specs.Silent.{silent_related}
use Rattle.why_lines.specs.declared.items.SilentItem.{SilentItem}

pub next_silent : (a b : SilentItem) → silent_related a b ≡ true → b.prb ≡ a.prb + 1
next_silent a b h =
    let in_line = and_parts (a.of.planned.index == b.of.planned.index)
    ((a.of.symbol == b.of.symbol) && ((a.mask == b.mask) && (same_reason a.reason b.reason && (a.prb + 1 == b.prb)))) h in
    let in_symbol = and_parts (a.of.symbol == b.of.symbol) ((a.mask == b.mask) && (same_reason a.reason b.reason && (a.prb + 1 == b.prb))) in_line.1 in
    let alike = and_parts (a.mask == b.mask) (same_reason a.reason b.reason && (a.prb + 1 == b.prb)) in_symbol.1 in
    let next = and_parts (same_reason a.reason b.reason) (a.prb + 1 == b.prb) alike.1 in
    sym (eqb-true (a.prb + 1) b.prb next.1)
