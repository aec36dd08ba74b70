-- The lines so far are the front of the complete text.
use Rattle.std.proofs.Common.{◌≡◌, ℕ, true, false, List, [], ◌∷◌, ◌++◌, refl, sym, ap, ap₂, subst, ◌∙◌, append_assoc, append-nil}
use Rattle.air_source.specs.declared.events.Event.{Event}
use Rattle.air_source.specs.declared.events.Event.TheVariants as event
use Rattle.air_source.specs.declared.events.Side.{Side}
use Rattle.explain_model.proofs.Counts.{count_lines_both, last_stay, lines_stay, no_count_lines}
use Rattle.explain_model.proofs.Steps.{closed_more}
use Rattle.explain_model.specs.Laws.{LinesGrow}
use Rattle.explain_model.specs.Subjects.{StandsBefore, Subject, added, are_counts, counted_lines, ending, has_count, open_lines, reason_lines, reasons_of}
use Rattle.explain_model.specs.declared.values.ExplainLine.{ExplainLine}
use Rattle.explain_model.specs.declared.values.ExplainLine.TheVariants as line
use Rattle.explain_model.proofs.GrowLemmas.{entries_both, lines_go_on}
use Rattle.explain_model.proofs.StoryLemmas.{after_both}
use Rattle.explain_model.specs.Cells.{IsFrontOf, closed_in, closed_lines, entries, entries_after, event_lines, open_run, run_lines}
use Rattle.explain_model.specs.Stories.{told, told_after}
use Rattle.explain_model.specs.Text.{count_lines, first_lines, lines_of}
use Rattle.fault_counters.specs.declared.kinds.Counter.{Counter}
use Rattle.window_config.specs.declared.config.Config.{Config}

module _ (s : Subject) (events : List Event) where
  one_more : (e : Event) → open_lines s (events ++ e ∷ []) ≡ open_lines s events ++ added s.config events e
  one_more e =
      ap (λ (ls : List ExplainLine). first_lines s.config ++ ls) (closed_more s.config events e)
      ∙ sym (append_assoc (first_lines s.config) (closed_lines s.config events) (added s.config events e))

  -- what is before the first counter
  ended : open_lines s events ++ ending s events ≡ first_lines s.config ++ (event_lines s.config events ++ reason_lines s events)
  ended =
      let c = s.config in
      let closed = closed_lines c events in
      let run = run_lines (open_run c events) in
      append_assoc (first_lines c) closed (ending s events)
      ∙ ap (λ (ls : List ExplainLine). first_lines c ++ ls)
      (sym (append_assoc closed run (reason_lines s events)) ∙ ap (λ (ls : List ExplainLine). ls ++ reason_lines s events) (sym (lines_go_on.all (entries c events))))

  -- a counter after that
  module _ (side : Side) (n : Counter) (value : ℕ) where
    abbrev x : Event
    x = event.Count side n value

    abbrev own : List ExplainLine
    own = line.Count side n value ∷ []

    counted_more : (counts : List ExplainLine) → counts ≡ count_lines events
        → (first_lines s.config ++ (event_lines s.config events ++ (reason_lines s events ++ counts))) ++ own ≡ counted_lines s (events ++ x ∷ [])
    counted_more counts are =
        let c = s.config in
        append_assoc (first_lines c) (event_lines c events ++ (reason_lines s events ++ counts)) own
        ∙ ap (λ (ls : List ExplainLine). first_lines c ++ ls)
        (append_assoc (event_lines c events) (reason_lines s events ++ counts) own
        ∙ ap₂ (λ (a b : List ExplainLine). a ++ b) (sym (lines_stay c events (x ∷ []) refl))
        (append_assoc (reason_lines s events) counts own
        ∙ ap₂ (λ (a b : List ExplainLine). a ++ b) (sym (last_stay s events (x ∷ []) refl))
        (ap (λ (ls : List ExplainLine). ls ++ own) are ∙ sym (count_lines_both events (x ∷ [])))))

    first_more : has_count events ≡ false → counted_lines s (events ++ x ∷ []) ≡ (open_lines s events ++ ending s events) ++ own
    first_more none =
        sym (ap (λ (ls : List ExplainLine). ls ++ own) ended
        ∙ ap (λ (ls : List ExplainLine). (first_lines s.config ++ (event_lines s.config events ++ ls)) ++ own) (sym (append-nil (reason_lines s events)))
        ∙ counted_more [] (sym (no_count_lines events none)))

-- ---- stopped

-- what no further event changes is the front of all lines
front_of_all : (c : Config) (xs ys : List Event) → IsFrontOf (closed_lines c xs) (event_lines c (xs ++ ys))
front_of_all c xs ys =
    let all = xs ++ ys in
    let more = entries_after c (told c xs) (told_after c xs ys) in
    let split : entries c all ≡ entries c xs ++ more =
    ap (entries_after c []) (after_both c [] xs ys) ∙ entries_both c [] (told c xs) (told_after c xs ys) in
    let front = lines_go_on.stays (entries c xs) more in
    record {
      back = front.back ++ run_lines (open_run c all);
      is =
          lines_go_on.all (entries c all)
          ∙ ap (λ (ls : List ExplainLine). ls ++ run_lines (open_run c all)) (ap closed_in split ∙ front.is)
          ∙ append_assoc (closed_lines c xs) front.back (run_lines (open_run c all));
    }

module _ (s : Subject) (all : List Event) where
  abbrev tail : List ExplainLine
  tail = reason_lines s all ++ (count_lines all ++ line.End ∷ [])

  last_of : lines_of s.config (reasons_of s all) all ≡ first_lines s.config ++ (event_lines s.config all ++ tail)
  last_of =
      let r = reasons_of s all in
      ap (λ (ls : List ExplainLine). first_lines s.config ++ (event_lines s.config all ++ ls))
      (ap (λ (ls : List ExplainLine). r.whys ++ ls) (sym (append_assoc _ _ (count_lines all ++ line.End ∷ [])))
      ∙ sym (append_assoc r.whys _ (count_lines all ++ line.End ∷ [])))

  -- the lines of events that no further event changes
  pub open_stands : (xs ys : List Event) → all ≡ xs ++ ys → StandsBefore (open_lines s xs) (lines_of s.config (reasons_of s all) all)
  open_stands xs ys is =
      let c = s.config in
      let front = subst (λ (es : List Event). IsFrontOf (closed_lines c xs) (event_lines c es)) (sym is) (front_of_all c xs ys) in
      record {
        rest = front.back ++ (reason_lines s all ++ count_lines all);
        is =
            last_of
            ∙ ap (λ (ls : List ExplainLine). first_lines c ++ (ls ++ tail)) front.is
            ∙ ap (λ (ls : List ExplainLine). first_lines c ++ ls) (append_assoc (closed_lines c xs) front.back tail)
            ∙ sym (append_assoc (first_lines c) (closed_lines c xs) (front.back ++ tail))
            ∙ ap (λ (ls : List ExplainLine). open_lines s xs ++ ls)
            (ap (λ (ls : List ExplainLine). front.back ++ ls) (sym (append_assoc (reason_lines s all) (count_lines all) (line.End ∷ [])))
            ∙ sym (append_assoc front.back (reason_lines s all ++ count_lines all) (line.End ∷ [])));
      }

  -- the lines up to some of the counters
  pub counted_stands : (xs ys : List Event) → all ≡ xs ++ ys → are_counts ys ≡ true → StandsBefore (counted_lines s xs) (lines_of s.config (reasons_of s all) all)
  counted_stands xs ys is counts =
      let c = s.config in
      record {
        rest = count_lines ys;
        is =
            last_of
            ∙ ap (λ (ls : List ExplainLine). first_lines c ++ ls)
            (ap₂ (λ (a b : List ExplainLine). a ++ b) (ap (event_lines c) is ∙ lines_stay c xs ys counts)
            (ap₂ (λ (a b : List ExplainLine). a ++ (b ++ line.End ∷ [])) (ap (reason_lines s) is ∙ last_stay s xs ys counts) (ap count_lines is ∙ count_lines_both xs ys)))
            ∙ ap (λ (ls : List ExplainLine). first_lines c ++ (event_lines c xs ++ (reason_lines s xs ++ ls))) (append_assoc (count_lines xs) (count_lines ys) (line.End ∷ []))
            ∙ ap (λ (ls : List ExplainLine). first_lines c ++ (event_lines c xs ++ ls)) (sym (append_assoc (reason_lines s xs) (count_lines xs) (count_lines ys ++ line.End ∷ [])))
            ∙ ap (λ (ls : List ExplainLine). first_lines c ++ ls) (sym (append_assoc (event_lines c xs) (reason_lines s xs ++ count_lines xs) (count_lines ys ++ line.End ∷ [])))
            ∙ sym (append_assoc (first_lines c) (event_lines c xs ++ (reason_lines s xs ++ count_lines xs)) (count_lines ys ++ line.End ∷ []));
      }

pub lines_grow : LinesGrow
lines_grow = record {
  one = one_more;
  first_count = first_more;
  next_count = λ s events side k value. sym (counted_more s events side k value (count_lines events) refl);
  going_on = λ s xs ys. open_stands s (xs ++ ys) xs ys refl;
  counted = λ s xs ys counts. counted_stands s (xs ++ ys) xs ys refl counts;
}
