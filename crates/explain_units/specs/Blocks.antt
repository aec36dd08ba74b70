-- Which arrival gave a PRB its block, by the sections of data on time in the order in which they were received.
use Rattle.std.specs.Prelude.{unsigned_abs, ℕ, ◌+◌, ◌*◌, ◌%◌, ◌==◌, Bool, ◌&&◌, if◌then◌else◌, List, [], ◌∷◌, pos}
use Rattle.std.specs.Int.{int_rem_euclid}
use Rattle.explain_units.specs.declared.blocks.Given.{Given}
use Rattle.explain_model.specs.Judged.{passing}
use Rattle.fh_base.specs.declared.values.Slot.{Slot}
use Rattle.unit_model.specs.Claims.{is_from, same_slot}

-- it gives a block to this PRB
abbrev pub gives_prb : Given → ℕ → Slot → ℕ → ℕ → Bool
gives_prb g id slot symbol prb = (g.id == id) && (same_slot g.slot slot && ((g.symbol == symbol) && is_from g.first g.count prb))

-- the arrival of the first that gives a block to this PRB, or another number where none does
unfoldable pub giver_or : ℕ → List Given → ℕ → Slot → ℕ → ℕ → ℕ
giver_or none [] id slot symbol prb = none
giver_or none (g ∷ gs) id slot symbol prb = if gives_prb g id slot symbol prb then g.number else giver_or none gs id slot symbol prb

-- 0 where none does: numbers of arrivals begin with 1
abbrev pub giver_of : List Given → ℕ → Slot → ℕ → ℕ → ℕ
giver_of gs id slot symbol prb = giver_or 0 gs id slot symbol prb

-- how many of the PRBs of one have no block
unfoldable pub fresh_count : List Given → Given → ℕ
fresh_count gs g = passing g.first g.count (λ prb. giver_of gs g.id g.slot g.symbol prb == 0)

-- ---- chains

-- the one of 32,768 chains in which what is given for a symbol is kept
abbrev pub chain_of : Slot → ℕ → ℕ
chain_of slot symbol = ((unsigned_abs (int_rem_euclid slot.frame (pos 16)) * 16 + slot.subframe % 16) * 8 + slot.slot % 8) * 16 + symbol % 16

abbrev pub given_chain : Given → ℕ
given_chain g = chain_of g.slot g.symbol
