-- The lines of what is kept of a judgement are those of the judgement.
use Rattle.std.proofs.Common.{◌≡◌, ℕ, suc, ℤ, true, false, List, [], ◌∷◌, refl, ap, arith}
use Rattle.std.proofs.Math.Dec.{leb}
use Rattle.std.proofs.lemmas.Bool.{le-leb, lt-leb}
use Rattle.bfp_codec.specs.Field.{field}
use Rattle.std.specs.Prelude.{Option, length}
use Rattle.ecpri_fragments.specs.Pieces.{joined}
use Rattle.ecpri_fragments.specs.Verdicts.{Message as Whole}
use Rattle.explain_heard.specs.Heard.{first_four}
use Rattle.explain_model.specs.declared.values.WholeAnswer.{WholeAnswer}
use Rattle.explain_model.specs.declared.values.WholeLine.{WholeLine}
use Rattle.explain_model.specs.Sections.{symbol_named, whole_line as model_line}
use Rattle.fh_base.specs.declared.numerology.Numerology.{Numerology}
use Rattle.fh_base.specs.declared.values.Slot.{Slot}
use Rattle.explain_heard.specs.Built.{whole_line}
use Rattle.explain_heard.specs.Judged.{whole_judged}
use Rattle.explain_heard.specs.Named.{named_in}
use Rattle.window_config.specs.declared.endpoints.EndpointConfig.{EndpointConfig}

-- four bytes are enough to name a symbol
pub named_is : (n : Numerology) (bytes : List ℕ) (at : ℤ) → named_in n (length bytes) (first_four bytes) at ≡ symbol_named n bytes at
unfolding symbol_named field
named_is n [] at = refl
named_is n (a ∷ []) at = refl
named_is n (a ∷ b ∷ []) at = refl
named_is n (a ∷ b ∷ c ∷ []) at = refl
named_is n (a ∷ b ∷ c ∷ d ∷ rest) at = rw (many, enough) refl
  where
    many : leb (suc (length (a ∷ b ∷ c ∷ d ∷ rest))) 4 ≡ false
    many = lt-leb (suc (length (a ∷ b ∷ c ∷ d ∷ rest))) 4 (omega (arith))

    enough : leb 4 (length (a ∷ b ∷ c ∷ d ∷ rest)) ≡ true
    enough = le-leb 4 (length (a ∷ b ∷ c ∷ d ∷ rest)) (omega (arith))

abbrev line_with : ℕ → EndpointConfig → Whole → WholeAnswer → Option (Slot × ℕ) → WholeLine
line_with number e m answer named = record { number = number; id = e.id; named = named; pieces = length m.pieces; bytes = length (joined m.pieces); answer = answer }

-- a whole message of which no section is read
pub whole_is : (number ep : ℕ) (e : EndpointConfig) (m : Whole) (answer : WholeAnswer)
    → whole_line number (whole_judged (record {
      ep = ep;
      endpoint = e;
      last = record { 0 = m.last };
      pieces = length m.pieces;
      bytes = length (joined m.pieces);
      start = first_four (joined m.pieces);
      answer = answer;
    })) ≡ model_line number e m answer
unfolding model_line
whole_is number ep e m answer =
    ap (line_with number e m answer) (named_is e.numerology (joined m.pieces) m.last)
