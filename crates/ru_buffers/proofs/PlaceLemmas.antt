-- The symbols that are gone over, and the slots of those of which a message may be left.
use Rattle.std.proofs.Common.{◌≡◌, ℕ, ℤ, pos, neg_ℤ, ◌+◌, ◌*◌, ◌+ℤ◌, ◌-ℤ◌, ◌*ℤ◌, ◌≤ℤ◌, true, List, [], sym, inl, inr, arith}
use Rattle.std.proofs.lemmas.Bool.{cases_Bool}
use Rattle.std.proofs.lemmas.Int.{ints}
use Rattle.fh_base.specs.Kinds.{kind_start}
use Rattle.fh_base.proofs.Euclid.{frame_floor}
use Rattle.fault_counters.specs.declared.kinds.Counter.{Counter}
use Rattle.air_source.specs.declared.events.Side.TheVariants.{Ru}
use Rattle.window_config.specs.Rings.{ru_reach_of}
use Rattle.window_config.specs.declared.config.Config.{Config}
use Rattle.unit_model.specs.Meetings.{Arrival}
use Rattle.unit_model.specs.Proper.{IsTime}
use Rattle.unit_model.specs.Radiated.{first_clock}
use Rattle.unit_model.specs.Sweeps.{first_swept, frame_of_tick}
use Rattle.unit_model.specs.declared.symbol_start.SymbolStart.{SymbolStart}
use Rattle.unit_cells.specs.Cells.{cells_has, cells_uplink, endpoints_of, ring_of}
use Rattle.unit_cells.proofs.KeepLemmas.{at_config}
use Rattle.unit_cells.proofs.TimeLemmas.{no_uplink_from}
use Rattle.unit_laws.specs.First.{IsSweptIn, told_of}
use Rattle.unit_symbols.specs.Cursors.{jobs_left}
use Rattle.unit_symbols.specs.Symbols.{IsSymbol}
use Rattle.unit_symbols.specs.declared.cursor.JobCursor.{JobCursor}
use Rattle.unit_memory.specs.Memory.{Holds}
use Rattle.unit_memory.specs.declared.memory.UnitMemory.{UnitMemory}
use Rattle.ru_buffers.proofs.LeftLemmas.{left_of_none}
use Rattle.ru_buffers.proofs.SlotLemmas.{frame_least}
use Rattle.fh_base.specs.declared.frames.TheConstants.{FRAME}
use Rattle.unit_laws.proofs.EndLemmas.{reach_small}
use Rattle.fh_base.specs.declared.nanoseconds.TheConstants.{NANOSECOND}
use Rattle.fh_base.specs.declared.symbols.TheConstants.{SUBFRAME}

-- ---- frames whose symbols' times can be told

frame_high : (frame before when since clock : ℤ) (offset : ℕ) → ((frame *ℤ FRAME +ℤ pos offset) -ℤ before *ℤ pos NANOSECOND) ≤ℤ when → when ≤ℤ since
    → since ≤ℤ clock → clock ≤ℤ pos 9007199254740992 → before ≤ℤ pos 4000000 → frame ≤ℤ pos 1000000
frame_high frame before when since clock offset a b c d e = omega (arith, ints)

frame_low : (tick frame : ℤ) → first_clock ≤ℤ tick → first_swept tick ≤ℤ frame → neg_ℤ (pos 1000000) ≤ℤ frame
frame_low tick frame a b = frame_least frame (frame_of_tick tick) tick a (frame_floor tick).1 b

-- ---- the symbols that are gone over

module _ (c : Config) (m : UnitMemory) (arrivals : List Arrival) (beside : List Counter) (since clock : ℤ)
    (holds : Holds Ru c since m arrivals beside) (order : since ≤ℤ clock) (time : IsTime clock) where
  -- those of slots that have a place are symbols of which a message may be left
  pub is_job_symbol : (end : ℤ) (s : SymbolStart) → IsSweptIn (endpoints_of m.cells) first_clock end s → cells_has m.cells s.ep s.slot ≡ true → IsSymbol m.cells s
  is_job_symbol end s is has =
      let swept = is.swept in
      let was = holds.keeps.reached s.endpoint s.ep s.slot (at_config Ru c m.cells s.ep s.endpoint holds.of swept.endpoint) has in
      record {
        at = swept.endpoint;
        slot_is = record {
          low = frame_low s.start.0 s.slot.frame is.low swept.frame_low;
          high = frame_high s.slot.frame (ru_reach_of c.delays).before was.when since clock
              (s.slot.subframe * SUBFRAME + kind_start s.endpoint.numerology.kind s.slot.slot 0)
              was.live.begun was.come order time.high (reach_small c.delays holds.config.delays);
          subframe = swept.slot_is.subframe;
          slot_is = swept.slot_is.slot;
        };
        symbol_is = swept.symbol_is;
        starts = sym swept.starts;
        has = has;
      }

  -- of the others nothing is left
  pub left_of_swept : (cursor : JobCursor) (end : ℤ) (s : SymbolStart) → (IsSymbol m.cells s → told_of (jobs_left (cells_uplink m.cells) cursor) s ≡ [])
      → IsSweptIn (endpoints_of m.cells) first_clock end s → told_of (jobs_left (cells_uplink m.cells) cursor) s ≡ []
  left_of_swept cursor end s none is = elim (cases_Bool (cells_has m.cells s.ep s.slot)) [
    | inl has ↦ none (is_job_symbol end s is has)
    | inr hasnt ↦
        left_of_none (cells_uplink m.cells) cursor s.ep s.endpoint s.slot s.symbol
        (no_uplink_from (ring_of m.cells s.ep) s.slot hasnt)
  ]
