-- The lines of events: arrivals, delays and runs of cells.
use Rattle.std.proofs.Common.{◌≡◌, ℕ, ◌+◌, ◌<◌, ◌==◌, Bool, true, false, ◌&&◌, List, [], ◌∷◌, ◌++◌, length, Option, Some, None, refl, sym, ap, arith}
use Rattle.std.specs.Prelude.{if◌then◌else◌}
use Rattle.std.specs.List.{AllByRecursion}
use Rattle.std.specs.Ordering.{int_eq}
use Rattle.std.proofs.lemmas.Bool.{and_parts, eqb-true}
use Rattle.bfp_codec.specs.declared.samples.Wide.{Wide}
use Rattle.air_source.specs.Units.{same_side}
use Rattle.air_source.specs.declared.events.AirCell.{AirCell}
use Rattle.air_source.specs.declared.events.Event.{Event}
use Rattle.window_config.specs.declared.config.Config.{Config}
use Rattle.window_config.specs.declared.endpoints.EndpointConfig.{EndpointConfig}
use Rattle.drawn_laws.specs.Drawable.{IsDrawnWord, IsShort}
use Rattle.explain_model.specs.declared.values.ExplainLine.TheVariants as line
use Rattle.explain_model.specs.Cells.{Entry, Lines, Of, entries, entries_after, entry_of, event_lines, giver_in, lines_in, piece_lines, run_from, runs_on, same_symbol, same_word, some_gives, word_by}
use Rattle.explain_model.specs.Judged.{judged_before}
use Rattle.explain_model.specs.Pieces.{AreLinked}
use Rattle.explain_model.specs.Stories.{Came, Cell, Count, Delay, Story, Told, stories_in, told}
use Rattle.drawn_laws.specs.Events.{AreDrawnEvents, IsPlacedCell}
use Rattle.drawn_laws.proofs.Good.{AreGood, good_both, good_none, good_one, good_pieces}
use Rattle.drawn_laws.proofs.Judged.{IsFineStory, IsKnown, story_good}
use Rattle.drawn_laws.proofs.Lists.{all_both}
use Rattle.drawn_laws.proofs.Places.{carrier, piece_within, prbs_found, run_drawn}
use Rattle.drawn_laws.proofs.Told.{IsFineTold, stories_fine, told_fine}

-- ---- runs of cells

module _ (es : List EndpointConfig) where
  abbrev IsGoodEntry : Entry → Type 0
  IsGoodEntry (Lines ls) = AreGood es ls
  IsGoodEntry (Of a w) = IsPlacedCell es a × IsDrawnWord w

  abbrev entry_prb : Entry → ℕ
  entry_prb (Lines ls) = 0
  entry_prb (Of a w) = a.prb

  abbrev entry_limit : Entry → ℕ
  entry_limit (Lines ls) = 1
  entry_limit (Of a w) = carrier es a.id

  next_entry : (x y : Entry) → runs_on x y ≡ true → (entry_prb y ≡ entry_prb x + 1) × (entry_limit y ≡ entry_limit x)
  next_entry (Of a v) (Of b w) h =
      let one = and_parts (same_symbol a b) (same_word v w && (a.prb + 1 == b.prb)) h in
      let two = and_parts (same_word v w) (a.prb + 1 == b.prb) one.1 in
      let three = and_parts (same_side a.side b.side) _ one.0 in
      let four = and_parts (int_eq a.at.0 b.at.0) _ three.1 in
      let five = and_parts (a.id == b.id) _ four.1 in
      (sym (eqb-true (a.prb + 1) b.prb two.1), ap (carrier es) (sym (eqb-true a.id b.id five.0)))
  next_entry (Of a v) (Lines ls) h = absurd cc
  next_entry (Lines ls) (Of b w) h = absurd cc
  next_entry (Lines ks) (Lines ls) h = absurd cc

  below_by : (x : Entry) → IsGoodEntry x → entry_prb x < entry_limit x
  below_by (Lines ls) h = omega arith
  below_by (Of a w) h =
      let cell = h.0 in
      let prb = cell.prb in
      let same : carrier es a.id ≡ cell.endpoint.prbs = ap prbs_found cell.named in
      omega (arith, prb, same)

  below : (xs : List Entry) → AllByRecursion IsGoodEntry xs → AllByRecursion (λ x. entry_prb x < entry_limit x) xs
  below [] h = tt
  below (x ∷ xs) h = (below_by x h.0, below xs h.1)

  piece_good : (p : List Entry) → AreLinked runs_on p → AllByRecursion IsGoodEntry p → AreGood es (piece_lines p)
  piece_good [] linked h = good_none es
  piece_good (Lines ls ∷ rest) linked h = good_both es ls [] h.0 (good_none es)
  piece_good (Of a w ∷ rest) linked h =
      let cell = h.0.0 in
      let same : carrier es a.id ≡ cell.endpoint.prbs = ap prbs_found cell.named in
      let within = piece_within runs_on entry_prb entry_limit next_entry (Of a w) rest linked (below (Of a w ∷ rest) h) in
      let r = run_from a w (length (Of a w ∷ rest)) in
      good_one es (line.Cells r.run r.mask r.word)
      (run_drawn es r.run cell.ep cell.endpoint cell.named cell.at cell.slot cell.symbol cell.section (omega arith) (omega (arith, within, same)), h.0.1) (λ last. refl)

  pub lines_good : (xs : List Entry) → AllByRecursion IsGoodEntry xs → AreGood es (lines_in xs)
  unfolding lines_in
  lines_good xs h = good_pieces es runs_on IsGoodEntry piece_lines piece_good xs h

  -- ---- the word of a cell

  number_by : (b : Bool) (m n : ℕ) → IsShort m → IsShort n → IsShort (if b then m else n)
  number_by true m n h k = h
  number_by false m n h k = k

  giver_short : (ss : List Story) (a : AirCell) → AllByRecursion (IsFineStory es) ss → IsShort (giver_in ss a)
  unfolding giver_in
  giver_short [] a h = omega arith
  giver_short (s ∷ later) a h = number_by (same_side s.side a.side && some_gives s.judged a) s.number (giver_in later a) h.0.number (giver_short later a h.1)

  word_short : (earlier : List Told) (a : AirCell) (o : Option (List Wide)) → AllByRecursion (IsFineTold es) earlier → IsDrawnWord (word_by earlier a o)
  word_short earlier a None h = tt
  word_short earlier a (Some samples) h = let small = giver_short (stories_in earlier) a (stories_fine es earlier h) in omega (arith, small)

-- ---- all entries

module _ (c : Config) (known : IsKnown c) where
  entry_good : (earlier : List Told) (t : Told) → AllByRecursion (IsFineTold c.endpoints) earlier → IsFineTold c.endpoints t → IsGoodEntry c.endpoints (entry_of c earlier t)
  entry_good earlier (Came s) h k = story_good c (judged_before s.side earlier) s known k
  entry_good earlier (Cell a) h k = (k, word_short c.endpoints earlier a a.block h)
  entry_good earlier (Delay at side id value) h k = good_one c.endpoints (line.Delay (record { 0 = at }) side id value) tt (λ last. refl)
  entry_good earlier (Count side counter value) h k = good_none c.endpoints

  entries_good : (earlier ts : List Told) → AllByRecursion (IsFineTold c.endpoints) earlier → AllByRecursion (IsFineTold c.endpoints) ts
      → AllByRecursion (IsGoodEntry c.endpoints) (entries_after c earlier ts)
  unfolding entries_after
  entries_good earlier [] h k = tt
  entries_good earlier (t ∷ ts) h k =
      (entry_good earlier t h k.0, entries_good (earlier ++ t ∷ []) ts (all_both (IsFineTold c.endpoints) earlier (t ∷ []) h (k.0, tt)) k.1)

pub events_good : (c : Config) (events : List Event) → IsKnown c → AreDrawnEvents c events → AreGood c.endpoints (event_lines c events)
events_good c events known drawn =
    lines_good c.endpoints (entries c events) (entries_good c known [] (told c events) tt (told_fine c events drawn))
