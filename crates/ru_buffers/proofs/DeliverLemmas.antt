-- What is next once a frame was delivered: without commands it is what was kept.
use Rattle.std.proofs.Common.{◌≡◌, ℤ, Bool, true, false, List, ℕ, refl, sym, ◌∙◌, subst, inl, inr, Option}
use Rattle.std.proofs.lemmas.Bool.{cases_Bool}
use Rattle.window_config.specs.declared.config.Config.{Config}
use Rattle.unit_model.specs.Standing.{History, arrived}
use Rattle.unit_model.specs.declared.symbol_start.SymbolStart.{SymbolStart}
use Rattle.unit_symbols.specs.Cursors.{Settled}
use Rattle.unit_symbols.specs.declared.cursor.JobCursor.{JobCursor}
use Rattle.unit_symbols.specs.declared.cursor.NextJob.{NextJob}
use Rattle.unit_memory.specs.declared.memory.UnitMemory.{UnitMemory}
use Rattle.unit_memory.specs.Control.{has_control}
use Rattle.unit_memory.specs.Memory.{arrival_at}
use Rattle.ru_buffers.specs.Calls.{IsNextMessage, IsNextSymbol}
use Rattle.ru_buffers.specs.Units.{IsReady, RadioKeeps}
use Rattle.ru_buffers.proofs.ControlLemmas.{none_accepted}
use Rattle.ru_buffers.proofs.NextLemmas.{message_kept, message_settled, symbol_kept}

pub symbol_then : (c : Config) (old new : UnitMemory) (clock : ℤ) (next : JobCursor) (h : History) (frame : List ℕ) → RadioKeeps c old clock next h
    → RadioKeeps c new clock next (arrived h frame) → (anew : Bool) → anew ≡ has_control frame → (was now : Option SymbolStart) → IsNextSymbol old.cells clock was
    → (anew ≡ true → IsNextSymbol new.cells clock now) → (anew ≡ false → now ≡ was) → IsNextSymbol new.cells clock now
symbol_then c old new clock next h frame before after anew control was now first found kept = elim (cases_Bool anew) [
  | inl given ↦ found given
  | inr not_any ↦
      subst (IsNextSymbol new.cells clock) (sym (kept not_any))
      (symbol_kept c old new clock next h (arrived h frame) before after (none_accepted c (arrival_at h.clock frame) h.arrivals (sym control ∙ not_any)) refl was first)
]

pub message_then : (c : Config) (old new : UnitMemory) (clock : ℤ) (cursor next : JobCursor) (h : History) (frame : List ℕ) → RadioKeeps c old clock cursor h
    → IsReady old clock cursor → Settled clock cursor next → RadioKeeps c old clock next h → RadioKeeps c new clock next (arrived h frame) → (anew : Bool)
    → anew ≡ has_control frame → (was now : Option NextJob) → IsNextMessage old.cells cursor was → (anew ≡ true → IsNextMessage new.cells next now)
    → (anew ≡ false → now ≡ was) → IsNextMessage new.cells next now
message_then c old new clock cursor next h frame keeps ready settled before after anew control was now first found kept = elim (cases_Bool anew) [
  | inl given ↦ found given
  | inr not_any ↦
      subst (IsNextMessage new.cells next) (sym (kept not_any))
      (message_kept c old new clock next h (arrived h frame) before after (none_accepted c (arrival_at h.clock frame) h.arrivals (sym control ∙ not_any)) refl was
      (message_settled c old clock cursor next h keeps ready settled was first))
]
