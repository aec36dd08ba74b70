-- What is quiet up to a time is quiet up to each earlier one.
use Rattle.std.proofs.Common.{◌≡◌, ℤ, pos, ◌+ℤ◌, ◌≤ℤ◌, List, [], sym, ◌∙◌}
use Rattle.std.proofs.lemmas.Int.{by_lt_z}
use Rattle.unit_model.specs.Radiated.{first_clock}
use Rattle.unit_model.specs.Sweeps.{OfSymbol, sweep}
use Rattle.unit_model.proofs.SweepLemmas.{sweep-append, sweep-none}
use Rattle.unit_cells.specs.Cells.{CellsValue}
use Rattle.window_config.specs.declared.endpoints.EndpointConfig.{EndpointConfig}
use Rattle.unit_laws.proofs.HistoryLists.{front_empty}
use Rattle.unit_symbols.specs.declared.cursor.JobCursor.{JobCursor}
use Rattle.ru_buffers.specs.Units.{left_up_to}
use Rattle.fh_base.proofs.Orders.{weak, next_order}

pub sweep_less : {A : Type 0} (g : OfSymbol A) (es : List EndpointConfig) (from a b : ℤ) → a ≤ℤ b → sweep g es from b ≡ [] → sweep g es from a ≡ []
sweep_less g es from a b order none =
    by_lt_z a from (λ early. sweep-none g es from a (weak a from early))
    (λ begun. front_empty (sweep g es from a) (sweep g es a b) (sym (sweep-append g es from a b begun order) ∙ none))

pub left_less : (v : CellsValue) (cursor : JobCursor) (a b : ℤ) → a ≤ℤ b → left_up_to v cursor b ≡ [] → left_up_to v cursor a ≡ []
unfolding left_up_to
left_less v cursor a b order none = sweep_less _ _ first_clock (a +ℤ pos 1) (b +ℤ pos 1) (next_order a b order) none
