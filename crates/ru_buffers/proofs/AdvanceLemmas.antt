-- Reports go on symbol by symbol.
use Rattle.std.proofs.Common.{◌≡◌, ℤ, ◌≤ℤ◌, ◌<ℤ◌, List, [], ◌∷◌, ◌++◌, sym, ap, ◌∙◌, subst, append-nil, append_assoc}
use Rattle.std.specs.Int.Signed.{<ℤ-≤ℤ_trans}
use Rattle.air_source.specs.declared.events.AirCell.{AirCell}
use Rattle.window_config.specs.declared.config.Config.{Config}
use Rattle.unit_model.specs.Standing.{History, heard}
use Rattle.unit_model.specs.declared.symbol_start.SymbolStart.{SymbolStart}
use Rattle.unit_laws.specs.Runs.{OffsetsFit}
use Rattle.unit_laws.specs.First.{FirstIsFirst, NothingIsNothing}
use Rattle.unit_laws.proofs.UnitLemmas.{heard_more, heard_none}
use Rattle.unit_symbols.specs.declared.cursor.JobCursor.{JobCursor}
use Rattle.unit_memory.specs.declared.memory.UnitMemory.{UnitMemory}
use Rattle.unit_symbols.specs.DueSymbols.{left_at}
use Rattle.ru_buffers.specs.Reporting.{IsFirstLeft, IsLeftAfter, HasReported, due_of}
use Rattle.ru_buffers.specs.Units.{RadioStands}
use Rattle.ru_buffers.proofs.HistoryLemmas.{stands}
use Rattle.ru_buffers.proofs.ReportedLemmas.{keeps_reported}
use Rattle.ru_buffers.proofs.ReportLemmas.{due_goes_on, first_is_due, nothing_is_due, starts_no_earlier}

-- some of what was due was heard, and the rest is due now
pub record Goes (c : Config) (m : UnitMemory) (clock : ℤ) (cursor : JobCursor) (h : History) (to : ℤ) (told : List AirCell) : Type 0 where
  pub is : due_of c h to ≡ told ++ due_of c (heard h told) to
  pub stands : RadioStands c m clock cursor (heard h told)

-- and these were first of what was due
pub record Begins (c : Config) (m : UnitMemory) (clock : ℤ) (cursor : JobCursor) (h : History) (to : ℤ) (told : List AirCell) (cell : AirCell) : Type 0 where
  pub rest : List AirCell
  pub is : due_of c h to ≡ told ++ cell ∷ rest
  pub stands : RadioStands c m clock cursor (heard h told)

module _ (first_law : FirstIsFirst AirCell) (none_law : NothingIsNothing AirCell) (c : Config) (m : UnitMemory) (clock : ℤ) (cursor : JobCursor) (h : History)
    (all : RadioStands c m clock cursor h) (to : ℤ) where
  pub goes_on : (m2 : UnitMemory) (s : SymbolStart) → OffsetsFit s.endpoint.numerology → IsFirstLeft m.cells clock s → s.start.0 ≤ℤ to
      → HasReported s (left_at m.cells s) m m2 → Goes c m2 clock cursor h to (left_at m.cells s)
  goes_on m2 s fits first order was_reported = record {
    is = due_goes_on c m clock cursor h s (left_at m.cells s) [] to first_law all.kept fits first order (sym (append-nil (left_at m.cells s)));
    stands = stands c m2 clock cursor (heard h (left_at m.cells s)) (keeps_reported c m m2 clock cursor h s (left_at m.cells s) all.kept first.symbol first.after was_reported);
  }

  pub stops : (m2 : UnitMemory) (s : SymbolStart) (told rest : List AirCell) (cell : AirCell) → OffsetsFit s.endpoint.numerology → IsFirstLeft m.cells clock s
      → s.start.0 ≤ℤ to → left_at m.cells s ≡ told ++ cell ∷ rest → HasReported s told m m2 → Begins c m2 clock cursor h to told cell
  stops m2 s told rest cell fits first order is was_reported =
      let due = first_is_due c m clock cursor h s to first_law all.kept fits first order in
      record {
        rest = rest ++ due.rest;
        is = due.is ∙ ap (λ (xs : List AirCell). xs ++ due.rest) is ∙ append_assoc told (cell ∷ rest) due.rest;
        stands = stands c m2 clock cursor (heard h told) (keeps_reported c m m2 clock cursor h s told all.kept first.symbol first.after was_reported);
      }

  pub nothing_left : ((x : SymbolStart) → IsLeftAfter m.cells clock x → to <ℤ x.start.0) → due_of c h to ≡ []
  nothing_left none = nothing_is_due c m clock cursor h to none_law all.kept none

  pub nothing_by : (s : SymbolStart) → IsFirstLeft m.cells clock s → to <ℤ s.start.0 → due_of c h to ≡ []
  nothing_by s first early = nothing_left (λ x left. <ℤ-≤ℤ_trans early (starts_no_earlier x s (first.first x left)))

-- ---- one after the other

pub goes_nowhere : (c : Config) (m : UnitMemory) (clock : ℤ) (cursor : JobCursor) (h : History) (to : ℤ) → RadioStands c m clock cursor h → Goes c m clock cursor h to []
goes_nowhere c m clock cursor h to all = record {
  is = ap (λ (x : History). due_of c x to) (sym (heard_none h));
  stands = subst (RadioStands c m clock cursor) (sym (heard_none h)) all;
}

pub goes_further : (c : Config) (m2 : UnitMemory) (clock : ℤ) (cursor : JobCursor) (h : History) (to : ℤ) (a b : List AirCell)
    → due_of c h to ≡ a ++ due_of c (heard h a) to → Goes c m2 clock cursor (heard h a) to b → Goes c m2 clock cursor h to (a ++ b)
goes_further c m2 clock cursor h to a b one two = record {
  is =
      one ∙ ap (λ (xs : List AirCell). a ++ xs) (two.is ∙ ap (λ (x : History). b ++ due_of c x to) (heard_more h a b))
      ∙ sym (append_assoc a b (due_of c (heard h (a ++ b)) to));
  stands = subst (RadioStands c m2 clock cursor) (heard_more h a b) two.stands;
}

pub begins_further : (c : Config) (m2 : UnitMemory) (clock : ℤ) (cursor : JobCursor) (h : History) (to : ℤ) (a b : List AirCell) (cell : AirCell)
    → due_of c h to ≡ a ++ due_of c (heard h a) to → Begins c m2 clock cursor (heard h a) to b cell → Begins c m2 clock cursor h to (a ++ b) cell
begins_further c m2 clock cursor h to a b cell one two = record {
  rest = two.rest;
  is = one ∙ ap (λ (xs : List AirCell). a ++ xs) two.is ∙ sym (append_assoc a b (cell ∷ two.rest));
  stands = subst (RadioStands c m2 clock cursor) (heard_more h a b) two.stands;
}
