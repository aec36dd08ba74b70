-- The lines of blocks that no cell shows, of margins, sums and counters: all of them have pictures.
use Rattle.std.proofs.Common.{ℕ, ◌==◌, List, [], ◌∷◌, length, refl}
use Rattle.std.specs.List.{flat_map}
use Rattle.air_source.specs.declared.events.Event.{Event}
use Rattle.air_source.specs.declared.events.Event.TheVariants as event
use Rattle.air_source.specs.declared.events.Side.{Side}
use Rattle.air_source.specs.declared.events.Side.TheVariants.{Du, Ru}
use Rattle.window_config.specs.declared.config.Config.{Config}
use Rattle.window_config.specs.declared.endpoints.EndpointConfig.{EndpointConfig}
use Rattle.explain_model.specs.declared.reasons.ReasonWord.{ReasonWord}
use Rattle.explain_model.specs.declared.values.ExplainLine.TheVariants as line
use Rattle.explain_model.specs.declared.values.MarginClass.{MarginClass}
use Rattle.explain_model.specs.declared.values.MarginClass.TheVariants.{Data, Down, Up}
use Rattle.explain_model.specs.Margins.{Dated, dated, dated_at, margin_line, margin_lines, margin_of, margins_at, margins_of}
use Rattle.explain_model.specs.Pieces.{pieces}
use Rattle.explain_model.specs.Text.{Reasoned, count_line, count_lines, shown_by, shown_count, sum_lines, sums_of}
use Rattle.explain_model.specs.Missing.{MissingCell}
use Rattle.explain_model.specs.Silent.{SilentSymbol}
use Rattle.explain_model.specs.Sums.{missing_count, missing_sum, missing_sums, missing_words, silent_count, silent_sum, silent_sums, silent_words, sums_of as reason_sums}
use Rattle.explain_model.specs.Unused.{UnusedBlock, UnusedSymbol, goes_on_unused, unused_in, unused_line, unused_lines, unused_lines_of, unused_run, unused_symbol_lines}
use Rattle.drawn_laws.proofs.Good.{AreGood, good_any, good_both, good_chosen, good_none, good_one}

module _ (es : List EndpointConfig) where
  -- ---- blocks that no cell shows

  run_good : (u : UnusedSymbol) (xs : List UnusedBlock) → AreGood es (unused_line u xs)
  run_good u [] = good_none es
  run_good u (x ∷ xs) = good_one es (line.Unused (unused_run u x (length (x ∷ xs))) x.number) tt (λ last. refl)

  symbol_good : (u : UnusedSymbol) → AreGood es (unused_symbol_lines u)
  unfolding unused_symbol_lines
  symbol_good u = good_any es (unused_line u) (run_good u) (pieces goes_on_unused u.blocks)

  unused_symbols_good : (us : List UnusedSymbol) → AreGood es (unused_lines_of us)
  unfolding unused_lines_of
  unused_symbols_good us = good_any es unused_symbol_lines symbol_good us

  pub unused_good : (c : Config) (events : List Event) → AreGood es (unused_lines c events)
  unused_good c events = unused_symbols_good (unused_in c events)

  -- ---- margins

  margin_good : (side : Side) (of : MarginClass) (id : ℕ) (ds : List Dated) → AreGood es (margin_line side of id ds)
  margin_good side of id [] = good_none es
  margin_good side of id (d ∷ ds) = good_one es (line.Margin side of id (margin_of (d ∷ ds))) tt (λ last. refl)

  class_good : (side : Side) (of : MarginClass) (endpoints : List EndpointConfig) (ds : List Dated) → AreGood es (margins_of side of endpoints ds)
  class_good side of endpoints ds = good_any es (λ e. margin_line side of e.id (dated_at of e.id ds)) (λ e. margin_good side of e.id (dated_at of e.id ds)) endpoints

  unit_good : (side : Side) (endpoints : List EndpointConfig) (ds : List Dated) → AreGood es (margins_at side endpoints ds)
  unit_good side endpoints ds =
      good_both es (margins_of side Down endpoints ds) _ (class_good side Down endpoints ds)
      (good_both es (margins_of side Up endpoints ds) (margins_of side Data endpoints ds) (class_good side Up endpoints ds) (class_good side Data endpoints ds))

  pub margins_good : (c : Config) (events : List Event) → AreGood es (margin_lines c events)
  unfolding margin_lines
  margins_good c events =
      good_both es (margins_at Ru c.endpoints (dated Ru c events)) (margins_at Du c.endpoints (dated Du c events))
      (unit_good Ru c.endpoints (dated Ru c events)) (unit_good Du c.endpoints (dated Du c events))

  -- ---- sums

  missing_one : (side : Side) (id : ℕ) (word : ReasonWord) (n : ℕ) → AreGood es (missing_sum side id word n)
  missing_one side id word n = good_chosen es (n == 0) [] _ (good_none es) (good_one es (line.MissingCells side id word n) tt (λ last. refl))

  silent_one : (side : Side) (id : ℕ) (word : ReasonWord) (n : ℕ) → AreGood es (silent_sum side id word n)
  silent_one side id word n = good_chosen es (n == 0) [] _ (good_none es) (good_one es (line.SilentPrbs side id word n) tt (λ last. refl))

  missing_all : (xs : List MissingCell) (side : Side) (id : ℕ) → AreGood es (missing_sums xs side id)
  unfolding missing_sums
  missing_all xs side id =
      good_any es (λ word. missing_sum side id word (missing_count xs side id word)) (λ word. missing_one side id word (missing_count xs side id word)) missing_words

  silent_all : (xs : List SilentSymbol) (side : Side) (id : ℕ) → AreGood es (silent_sums xs side id)
  unfolding silent_sums
  silent_all xs Ru id = good_any es (λ word. silent_sum Ru id word (silent_count xs id word)) (λ word. silent_one Ru id word (silent_count xs id word)) silent_words
  silent_all xs Du id = good_none es

  pub reasons_good : (missing : List MissingCell) (silent : List SilentSymbol) (side : Side) (e : EndpointConfig) → AreGood es (reason_sums missing silent side e)
  reasons_good missing silent side e =
      good_both es (missing_sums missing side e.id) (silent_sums silent side e.id) (missing_all missing side e.id) (silent_all silent side e.id)

  shown_good : (side : Side) (id n : ℕ) → AreGood es (shown_by side id n)
  shown_good side id n = good_chosen es (n == 0) [] _ (good_none es) (good_one es (line.ShownCells side id n) tt (λ last. refl))

  module _ (r : Reasoned) (of : (side : Side) (e : EndpointConfig) → AreGood es (r.sums side e)) (events : List Event) where
    endpoint_good : (side : Side) (e : EndpointConfig) → AreGood es (sums_of side r events e)
    endpoint_good side e =
        good_both es (shown_by side e.id (shown_count side e.id events)) (r.sums side e) (shown_good side e.id (shown_count side e.id events)) (of side e)

    pub sums_good : (c : Config) → AreGood es (sum_lines c r events)
    sums_good c =
        good_both es (flat_map (sums_of Ru r events) c.endpoints) (flat_map (sums_of Du r events) c.endpoints)
        (good_any es (sums_of Ru r events) (endpoint_good Ru) c.endpoints) (good_any es (sums_of Du r events) (endpoint_good Du) c.endpoints)

  -- ---- counters

  count_good : (e : Event) → AreGood es (count_line e)
  count_good (event.Count side counter value) = good_one es (line.Count side counter value) tt (λ last. refl)
  count_good (event.Cell a) = good_none es
  count_good (event.Arrival side at frame) = good_none es
  count_good (event.Delay at side id value) = good_none es

  pub counts_good : (events : List Event) → AreGood es (count_lines events)
  counts_good events = good_any es count_line count_good events
