use Rattle.std.proofs.Common.{◌<◌, ℕ, subst, sym}
use Rattle.fh_base.proofs.Order.{slots_few, symbols_few}
use Rattle.fh_base.specs.Numbering.{slots_of, symbols_of}
use Rattle.text_tests.proofs.spans.start_of.Goals as goal

pub returns : goal.returns
returns c n = record {
  subframe = subst (λ (x : ℕ). x < 10) (sym c.place.ensures.subframe) c.requires;
  slot = subst (λ (x : ℕ). x < slots_of n) (sym c.place.ensures.slot) (slots_few n).0;
  symbol = subst (λ (x : ℕ). x < symbols_of n) (sym c.place.ensures.symbol) (symbols_few n).0;
}
