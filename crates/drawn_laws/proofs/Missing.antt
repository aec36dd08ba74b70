-- The lines that say why cells are missing.
use Rattle.std.proofs.Common.{◌≡◌, ℕ, ◌+◌, ◌^◌, ◌<◌, ◌==◌, true, ◌&&◌, List, [], ◌∷◌, length, refl, sym, ap, arith}
use Rattle.std.specs.Prelude.{filter, Some}
use Rattle.std.specs.List.{AllByRecursion}
use Rattle.std.specs.Ordering.{int_eq}
use Rattle.std.proofs.lemmas.Bool.{and_parts, eqb-true}
use Rattle.air_source.specs.Units.{same_side}
use Rattle.air_source.specs.declared.events.Event.{Event}
use Rattle.air_source.specs.declared.events.Event.TheVariants as event
use Rattle.fh_base.specs.Numbering.{symbols_of}
use Rattle.window_config.specs.declared.config.Config.{Config}
use Rattle.window_config.specs.declared.endpoints.EndpointConfig.{EndpointConfig}
use Rattle.unit_model.specs.Meetings.{find_endpoint}
use Rattle.unit_model.specs.Proper.{IsSlot}
use Rattle.drawn_laws.specs.Drawable.{IsDrawnReason, IsNear}
use Rattle.explain_model.specs.declared.values.ExplainLine.TheVariants as line
use Rattle.explain_model.specs.Pieces.{AreLinked}
use Rattle.explain_model.specs.Missing.{MissingCell, alike, goes_on_missing, is_missing, missing_cell, missing_cells, missing_line, missing_lines, missing_of, seen_run, why_lines}
use Rattle.explain_model.specs.SilentReasons.{Kept, kept}
use Rattle.explain_model.specs.Same.{same_reason}
use Rattle.explain_model.specs.Seen.{Seen, seen, seen_key}
use Rattle.drawn_laws.specs.Events.{IsPlacedEvent}
use Rattle.drawn_laws.proofs.Good.{AreGood, good_none, good_one, good_pieces}
use Rattle.drawn_laws.proofs.Lists.{all_kept, all_map}
use Rattle.drawn_laws.proofs.Places.{carrier, piece_within, prbs_found, run_drawn}
use Rattle.drawn_laws.proofs.Reasons.{missing_drawn}
use Rattle.drawn_laws.proofs.Records.{AreShort}
use Rattle.fh_base.proofs.MemberLemmas.{all_map as all_weaker}

pub record IsPlacedSeen (es : List EndpointConfig) (s : Seen) : Type 0 where
  pub at : IsNear s.at.0
  pub section : s.section < 2 ^ 12
  pub ep : ℕ
  pub endpoint : EndpointConfig
  pub named : find_endpoint es s.id ≡ Some (ep, endpoint)
  pub slot : IsSlot endpoint.numerology s.slot
  pub symbol : s.symbol < symbols_of endpoint.numerology
  pub prb : s.prb < endpoint.prbs

seen_placed : (es : List EndpointConfig) (events : List Event) → AllByRecursion (IsPlacedEvent es) events → AllByRecursion (IsPlacedSeen es) (seen events)
unfolding seen
seen_placed es [] h = tt
seen_placed es (event.Cell a ∷ rest) h =
    let cell = h.0 in (
      record {
        at = cell.at;
        section = cell.section;
        ep = cell.ep;
        endpoint = cell.endpoint;
        named = cell.named;
        slot = cell.slot;
        symbol = cell.symbol;
        prb = cell.prb;
      },
      seen_placed es rest h.1,
    )
seen_placed es (event.Arrival side at frame ∷ rest) h = seen_placed es rest h.1
seen_placed es (event.Delay at side id value ∷ rest) h = seen_placed es rest h.1
seen_placed es (event.Count side counter value ∷ rest) h = seen_placed es rest h.1

module _ (es : List EndpointConfig) where
  abbrev IsFineMissing : MissingCell → Type 0
  IsFineMissing x = IsPlacedSeen es x.cell × IsDrawnReason x.reason

  abbrev missing_prb : MissingCell → ℕ
  missing_prb x = x.cell.prb

  abbrev missing_limit : MissingCell → ℕ
  missing_limit x = carrier es x.cell.id

  next_missing : (x y : MissingCell) → goes_on_missing x y ≡ true → (missing_prb y ≡ missing_prb x + 1) × (missing_limit y ≡ missing_limit x)
  next_missing x y h =
      let one = and_parts (alike x.cell y.cell) (same_reason x.reason y.reason && (x.cell.prb + 1 == y.cell.prb)) h in
      let two = and_parts (same_reason x.reason y.reason) (x.cell.prb + 1 == y.cell.prb) one.1 in
      let three = and_parts (same_side x.cell.side y.cell.side) _ one.0 in
      let four = and_parts (int_eq x.cell.at.0 y.cell.at.0) _ three.1 in
      let five = and_parts (x.cell.id == y.cell.id) _ four.1 in
      (sym (eqb-true (x.cell.prb + 1) y.cell.prb two.1), ap (carrier es) (sym (eqb-true x.cell.id y.cell.id five.0)))

  below : (xs : List MissingCell) → AllByRecursion IsFineMissing xs → AllByRecursion (λ x. missing_prb x < missing_limit x) xs
  below xs h =
      all_weaker IsFineMissing (λ x. missing_prb x < missing_limit x)
      (λ x fine. (let prb = fine.0.prb in
      let same : carrier es x.cell.id ≡ fine.0.endpoint.prbs = ap prbs_found fine.0.named in
      omega (arith, prb, same))) xs h

  piece_good : (p : List MissingCell) → AreLinked goes_on_missing p → AllByRecursion IsFineMissing p → AreGood es (missing_line p)
  piece_good [] linked h = good_none es
  piece_good (x ∷ rest) linked h =
      let cell = h.0.0 in
      let same : carrier es x.cell.id ≡ cell.endpoint.prbs = ap prbs_found cell.named in
      let within = piece_within goes_on_missing missing_prb missing_limit next_missing x rest linked (below (x ∷ rest) h) in
      let run = seen_run x.cell (length (x ∷ rest)) in
      good_one es (line.WhyMissing run x.cell.mask x.reason)
      (run_drawn es run cell.ep cell.endpoint cell.named cell.at cell.slot cell.symbol cell.section (omega arith) (omega (arith, within, same)), h.0.1) (λ last. refl)

  lines_good : (xs : List MissingCell) → AllByRecursion IsFineMissing xs → AreGood es (missing_lines xs)
  unfolding missing_lines
  lines_good xs h = good_pieces es goes_on_missing IsFineMissing missing_line piece_good xs h

module _ (c : Config) (all : Kept) (short : AreShort all) where
  cells_fine : (cells : List Seen) → AllByRecursion (IsPlacedSeen c.endpoints) cells → AllByRecursion (IsFineMissing c.endpoints) (missing_cells c all cells)
  unfolding missing_cells
  cells_fine cells h =
      all_map (IsFineMissing c.endpoints) (missing_cell c all) (filter is_missing cells)
      (all_weaker (IsPlacedSeen c.endpoints) (λ s. IsFineMissing c.endpoints (missing_cell c all s)) (λ s placed. (placed, missing_drawn all short (seen_key c s) s.prb)) (filter is_missing cells)
      (all_kept (IsPlacedSeen c.endpoints) is_missing cells h))

pub why_good : (c : Config) (events : List Event) → AreShort (kept c events) → AllByRecursion (IsPlacedEvent c.endpoints) events → AreGood c.endpoints (why_lines c events)
why_good c events short placed =
    lines_good c.endpoints (missing_of c events) (cells_fine c (kept c events) short (seen events) (seen_placed c.endpoints events placed))
