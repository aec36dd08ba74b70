-- The lines of an explanation are drawable.
use Rattle.std.proofs.Common.{◌≡◌, ℕ, pos, ◌+ℤ◌, ◌≤ℤ◌, ℤ, false, List, [], ◌∷◌, ◌++◌, map, sym, ap, ◌∙◌, arith, append_assoc}
use Rattle.std.specs.Prelude.{None}
use Rattle.std.specs.List.{AllByRecursion}
use Rattle.std.proofs.lemmas.Int.{ints}
use Rattle.std.proofs.lemmas.List.Elements.{All-from_recursion, recursion_from_All}
use Rattle.air_source.specs.declared.events.Event.{Event}
use Rattle.window_config.specs.Configs.{IsConfig}
use Rattle.window_config.specs.Endpoints.{IsEndpoint}
use Rattle.window_config.specs.Limits.{IsWithinLimits}
use Rattle.window_config.specs.Windows.{cp_dl_of}
use Rattle.window_config.specs.declared.config.Config.{Config}
use Rattle.window_config.specs.declared.delays.Delays.{Delays}
use Rattle.window_config.specs.declared.delays.Range.{Range}
use Rattle.window_config.specs.declared.endpoints.EndpointConfig.{EndpointConfig}
use Rattle.drawn_laws.specs.Drawable.{AreDrawnEndpoints, IsDrawable, IsDrawnEndpoint, IsDrawnLine, IsDrawnWindow, windows_of}
use Rattle.explain_model.specs.Subjects.{Subject, reasons_of}
use Rattle.explain_model.specs.declared.values.ExplainLine.{ExplainLine}
use Rattle.explain_model.specs.declared.values.ExplainLine.TheVariants as line
use Rattle.explain_model.specs.declared.values.WindowName.{WindowName}
use Rattle.explain_model.specs.declared.values.WindowName.TheVariants.{T1aCpDl, T1aCpUl, T1aUp, T2aCpDl, T2aCpUl, T2aUp, Ta3, Ta4}
use Rattle.explain_model.specs.Cells.{event_lines}
use Rattle.explain_model.specs.Margins.{margin_lines}
use Rattle.explain_model.specs.Stories.{stories, told}
use Rattle.explain_model.specs.Text.{count_lines, explained, sum_lines, window_lines}
use Rattle.explain_model.specs.Missing.{missing_of, why_lines}
use Rattle.explain_model.specs.SilentReasons.{kept}
use Rattle.explain_model.specs.Silent.{silent_in, silent_lines}
use Rattle.explain_model.specs.Unused.{unused_lines}
use Rattle.drawn_laws.specs.Events.{AreDrawnEvents, EventsAreDrawable, IsDrawnSubject, IsNamed}
use Rattle.drawn_laws.proofs.Ends.{counts_good, margins_good, reasons_good, sums_good, unused_good}
use Rattle.drawn_laws.proofs.Entries.{events_good}
use Rattle.drawn_laws.proofs.Good.{AreGood, good_both}
use Rattle.drawn_laws.proofs.Judged.{IsKnown}
use Rattle.drawn_laws.proofs.Missing.{why_good}
use Rattle.drawn_laws.proofs.Records.{AreShort, kept_short}
use Rattle.drawn_laws.proofs.Silent.{silent_good}
use Rattle.drawn_laws.proofs.Told.{stories_fine, told_fine}

-- ---- windows

abbrev range_of : Delays → WindowName → Range
range_of d T1aUp = d.t1a_up
range_of d T1aCpDl = cp_dl_of d.t1a_up d.advance
range_of d T1aCpUl = d.t1a_cp_ul
range_of d T2aUp = d.t2a_up
range_of d T2aCpDl = cp_dl_of d.t2a_up d.advance
range_of d T2aCpUl = d.t2a_cp_ul
range_of d Ta3 = d.ta3
range_of d Ta4 = d.ta4

window_by : (k : ℕ) (low high : ℤ) → pos k ≤ℤ low → low ≤ℤ high → high ≤ℤ pos 2000000 → (pos 0 ≤ℤ low) × (high ≤ℤ pos 4000000)
window_by k low high p q r = (omega (arith, ints, p), omega (arith, ints, r))

window_drawn : (k : ℕ) (r : Range) → pos k ≤ℤ r.min → r.min ≤ℤ r.max → r.max ≤ℤ pos 2000000 → IsDrawnWindow r
window_drawn k r p q s = let both = window_by k r.min r.max p q s in record { low = both.0; order = q; high = both.1 }

sum_by : (k : ℕ) (low high more : ℤ) → pos k ≤ℤ low → low ≤ℤ high → high ≤ℤ pos 2000000 → pos 0 ≤ℤ more → more ≤ℤ pos 2000000
    → (pos 0 ≤ℤ (low +ℤ more)) × ((low +ℤ more) ≤ℤ (high +ℤ more)) × ((high +ℤ more) ≤ℤ pos 4000000)
sum_by k low high more p q r s t = (omega (arith, ints, p, s), omega (arith, ints, q), omega (arith, ints, r, t))

sum_drawn : (k : ℕ) (r : Range) (advance : ℤ) → pos k ≤ℤ r.min → r.min ≤ℤ r.max → r.max ≤ℤ pos 2000000 → pos 0 ≤ℤ advance → advance ≤ℤ pos 2000000 → IsDrawnWindow (cp_dl_of r advance)
sum_drawn k r advance p q s t u = let all = sum_by k r.min r.max advance p q s t u in record { low = all.0; order = all.1; high = all.2 }

all_windows : (d : Delays) → IsWithinLimits d → (name : WindowName) → IsDrawnWindow (range_of d name)
all_windows d w T1aUp = window_drawn 0 d.t1a_up w.t1a_up.low w.t1a_up.order w.t1a_up.high
all_windows d w T1aCpDl = sum_drawn 0 d.t1a_up d.advance w.t1a_up.low w.t1a_up.order w.t1a_up.high w.advance.low w.advance.high
all_windows d w T1aCpUl = window_drawn 0 d.t1a_cp_ul w.t1a_cp_ul.low w.t1a_cp_ul.order w.t1a_cp_ul.high
all_windows d w T2aUp = window_drawn 1 d.t2a_up w.t2a_up.low w.t2a_up.order w.t2a_up.high
all_windows d w T2aCpDl = sum_drawn 1 d.t2a_up d.advance w.t2a_up.low w.t2a_up.order w.t2a_up.high w.advance.low w.advance.high
all_windows d w T2aCpUl = window_drawn 1 d.t2a_cp_ul w.t2a_cp_ul.low w.t2a_cp_ul.order w.t2a_cp_ul.high
all_windows d w Ta3 = window_drawn 0 d.ta3 w.ta3.low w.ta3.order w.ta3.high
all_windows d w Ta4 = window_drawn 0 d.ta4 w.ta4.low w.ta4.order w.ta4.high

-- ---- endpoints

each_endpoint : (es : List EndpointConfig) → AllByRecursion IsEndpoint es → AllByRecursion IsNamed es → AllByRecursion IsDrawnEndpoint es
each_endpoint [] h k = tt
each_endpoint (e ∷ es) h k =
    let most = h.0.most in
    (record { id = k.0.id; some = h.0.some; most = omega (arith, most); width = h.0.width; spacing = k.0.spacing }, each_endpoint es h.1 k.1)

all_endpoints : (c : Config) → IsConfig c → AllByRecursion IsNamed c.endpoints → AreDrawnEndpoints c.endpoints
all_endpoints c config named = record {
  each = All-from_recursion IsDrawnEndpoint c.endpoints (each_endpoint c.endpoints (recursion_from_All IsEndpoint c.endpoints config.endpoints.each) named);
  few = config.endpoints.few;
  differ = config.endpoints.differ;
}

-- ---- all lines

five : (a b c d e t : List ExplainLine) → a ++ (b ++ (c ++ (d ++ (e ++ t)))) ≡ (a ++ (b ++ (c ++ (d ++ e)))) ++ t
five a b c d e t =
    sym (append_assoc a (b ++ (c ++ (d ++ e))) t
    ∙ ap (λ (x : List ExplainLine). a ++ x) (append_assoc b (c ++ (d ++ e)) t
    ∙ ap (λ (x : List ExplainLine). b ++ x) (append_assoc c (d ++ e) t
    ∙ ap (λ (x : List ExplainLine). c ++ x) (append_assoc d e t))))

module _ (s : Subject) (events : List Event) (subject : IsDrawnSubject s) (drawn : AreDrawnEvents s.config events) where
  known : IsKnown s.config
  known = record { limits = subject.config.delays; endpoints = recursion_from_All IsEndpoint s.config.endpoints subject.config.endpoints.each }

  short : AreShort (kept s.config events)
  short = kept_short s.config (stories s.config events) known (stories_fine s.config.endpoints (told s.config events) (told_fine s.config events drawn))

  whys_good : AreGood s.config.endpoints ((reasons_of s events).whys)
  whys_good =
      good_both s.config.endpoints (why_lines s.config events) _ (why_good s.config events short drawn.cells)
      (good_both s.config.endpoints (silent_lines s.config s.plan s.numbers events) (unused_lines s.config events)
      (silent_good s.config s.plan s.numbers events short subject.numbers subject.plan) (unused_good s.config.endpoints s.config events))

  abbrev others : List ExplainLine
  others = event_lines s.config events ++ ((reasons_of s events).whys ++ (margin_lines s.config events ++ (sum_lines s.config (reasons_of s events) events ++ count_lines events)))

  others_good : AreGood s.config.endpoints others
  others_good =
      let es = s.config.endpoints in
      let r = reasons_of s events in
      good_both es (event_lines s.config events) _ (events_good s.config events known drawn)
      (good_both es r.whys _ whys_good
      (good_both es (margin_lines s.config events) _ (margins_good es s.config events)
      (good_both es (sum_lines s.config r events) (count_lines events)
      (sums_good es r (reasons_good es (missing_of s.config events) (silent_in s.config s.plan s.numbers events)) events s.config) (counts_good es events))))

  lines_are : explained false s.config (reasons_of s events) events
      ≡ line.Head false ∷ (windows_of (range_of s.config.delays) ++ (map line.Endpoint s.config.endpoints ++ (others ++ line.End ∷ [])))
  lines_are =
      let r = reasons_of s events in
      ap (λ (x : List ExplainLine). line.Head false ∷ x)
      (append_assoc (window_lines s.config.delays) (map line.Endpoint s.config.endpoints) _
      ∙ ap (λ (x : List ExplainLine). windows_of (range_of s.config.delays) ++ (map line.Endpoint s.config.endpoints ++ x))
      (five (event_lines s.config events) r.whys (margin_lines s.config events) (sum_lines s.config r events) (count_lines events) (line.End ∷ [])))

  all_drawable : IsDrawable (explained false s.config (reasons_of s events) events)
  all_drawable = record {
    range = range_of s.config.delays;
    endpoints = s.config.endpoints;
    others = others;
    is = lines_are;
    windows = all_windows s.config.delays subject.config.delays;
    are_endpoints = all_endpoints s.config subject.config subject.named;
    each = All-from_recursion (IsDrawnLine s.config.endpoints) others others_good.each;
    frames = others_good.frames None;
  }

pub events_are_drawable : EventsAreDrawable
events_are_drawable s events subject drawn = all_drawable s events subject drawn
