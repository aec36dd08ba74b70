use Rattle.std.proofs.Common.{◌≡◌, ℕ, ◌*◌, ◌/◌, ap, ap₂, ◌∙◌}
use Rattle.fh_base.specs.Numbering.{symbols_of}
use Rattle.fh_base.specs.declared.values.Shape.{Shape}
use Rattle.idle_text.proofs.FreeLemmas.{whole_slots}
use Rattle.idle_text.proofs.endpoints.slots.Goals as goal

pub returns-clause-size : goal.returns-clause-size
returns-clause-size c =
    let s = c.requires.stands in
    let symbols : c.shape-symbols.result.symbols ≡ symbols_of c.args.e.now.numerology = ap (λ (x : Shape). x.symbols) c.shape-symbols.ensures in
    ap₂ (λ (a b : ℕ). a / b * symbols_of c.args.e.now.numerology) c.symbols.ensures.count symbols
    ∙ whole_slots c.args.spans.now c.args.ep c.args.e.now s.0 s.1 s.2 c.requires.ep s.3
