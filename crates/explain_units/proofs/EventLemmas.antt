-- One more event, and what is kept of a unit.
use Rattle.std.proofs.Common.{◌≡◌, ℕ, suc, ◌<◌, Bool, List, [], ◌∷◌, ◌++◌, refl, sym, ap, subst, ◌∙◌, append-nil, arith}
use Rattle.std.specs.Prelude.{All, Option, if◌then◌else◌, length}
use Rattle.std.specs.List.{flat_map}
use Rattle.std.proofs.lemmas.Grind.{flat_map-append}
use Rattle.air_source.specs.declared.events.AirCell.{AirCell}
use Rattle.air_source.specs.declared.events.Event.{Event}
use Rattle.air_source.specs.declared.events.Event.TheVariants as event
use Rattle.air_source.specs.declared.events.Side.{Side}
use Rattle.explain_units.proofs.GiverLemmas.{givers_are_kept}
use Rattle.explain_units.specs.Blocks.{giver_of}
use Rattle.explain_units.specs.Laws.{kept_by, kept_from, kept_in}
use Rattle.explain_units.specs.declared.blocks.Given.{Given as Kept}
use Rattle.ecpri_frames.specs.Messages.{pdu}
use Rattle.ecpri_frames.specs.declared.refusals.PduRefusal.{PduRefusal}
use Rattle.explain_heard.specs.Heard.{all_heard}
use Rattle.explain_heard.specs.Judged.{all_judged}
use Rattle.explain_heard.specs.declared.judged.Judged.{Judged}
use Rattle.explain_units.specs.declared.kept_margins.EndpointMargins.{EndpointMargins}
use Rattle.explain_model.specs.declared.values.ExplainLine.{ExplainLine}
use Rattle.explain_model.specs.declared.values.ExplainLine.TheVariants as line
use Rattle.explain_model.proofs.MarginLemmas.{after_both, judged_go_on}
use Rattle.explain_model.proofs.StoryLemmas.{one, stories_both}
use Rattle.explain_model.specs.Cells.{giver_in}
use Rattle.explain_model.specs.Judged.{judged_after, judged_before}
use Rattle.explain_model.specs.Margins.{Dated, dated, dated_in, dated_of, margins_at}
use Rattle.explain_model.specs.Sections.{frame_line, story_lines}
use Rattle.explain_model.specs.Stories.{Came, Story, Told, arrival_count, arrival_with, stories, stories_in, story, told, told_after, told_of}
use Rattle.explain_units.proofs.KnownLemmas.{all_known, all_lines, none_known}
use Rattle.explain_units.proofs.MarginLemmas.{margins_are_told}
use Rattle.explain_units.specs.Frames.{IsFrame, judged_next, line_of}
use Rattle.explain_units.specs.declared.frames.FrameHeard.{FrameHeard}
use Rattle.explain_units.specs.Known.{IsKnown, Known, after_all, all_said, nothing_known}
use Rattle.explain_units.specs.MarginLines.{margins_said}
use Rattle.explain_units.specs.Knowing.{known_of}
use Rattle.explain_units.specs.Units.{IsElsewhere, IsUnitAfter, frame_lines}
use Rattle.explain_units.specs.declared.units.UnitLines.{UnitLines}
use Rattle.fh_base.specs.declared.values.Ticks.{Ticks}
use Rattle.unit_laws.specs.Sound.{IsSoundJudgement}
use Rattle.unit_model.specs.Heard.{arrivals_heard}
use Rattle.unit_model.specs.Judgements.{Judgement}
use Rattle.fh_base.specs.Lists.{onto}
use Rattle.window_config.specs.Configs.{IsConfig}
use Rattle.window_config.specs.declared.config.Config.{Config}
use Rattle.air_source.proofs.Sides.{side_self}

-- ---- an arrival at the unit

module _ (side : Side) (c : Config) (events : List Event) (at : Ticks) (frame : List ℕ) where
  abbrev now_told : Story
  now_told = story c (suc (arrival_count events)) side (arrivals_heard side [] events) (arrival_with at.0 frame)

  pub judged_own : judged_before side (told c (events ++ event.Arrival side at frame ∷ [])) ≡ onto (judged_before side (told c events)) (judged_next side c events at.0 frame)
  judged_own =
      ap (judged_before side) (one c events (event.Arrival side at frame)) ∙ judged_go_on.on_arrival side (told c events) now_told
      ∙ ap (λ (b : Bool). let js : List Judgement = if b then onto (judged_before side (told c events)) (judged_next side c events at.0 frame) else judged_before side (told c events) in js) (side_self side)

  stories_own : stories c (events ++ event.Arrival side at frame ∷ []) ≡ stories c events ++ now_told ∷ []
  unfolding stories_in
  stories_own = ap stories_in (one c events (event.Arrival side at frame)) ∙ stories_both (told c events) (Came now_told ∷ [])

  kept_now : kept_from side (now_told ∷ []) ≡ flat_map (kept_by (suc (arrival_count events))) (judged_next side c events at.0 frame)
  kept_now =
      append-nil (kept_in side now_told)
      ∙ ap (λ (b : Bool). let gs : List Kept = if b then flat_map (kept_by (suc (arrival_count events))) (judged_next side c events at.0 frame) else [] in gs) (side_self side)

  pub kept_own : kept_from side (stories c (events ++ event.Arrival side at frame ∷ []))
      ≡ kept_from side (stories c events) ++ flat_map (kept_by (suc (arrival_count events))) (judged_next side c events at.0 frame)
  kept_own =
      ap (kept_from side) stories_own ∙ flat_map-append (kept_in side) (stories c events) (now_told ∷ [])
      ∙ ap (λ (gs : List Kept). kept_from side (stories c events) ++ gs) kept_now

  dated_now : flat_map (dated_in side c.delays) (now_told ∷ []) ≡ flat_map (dated_of side c.delays) (judged_next side c events at.0 frame)
  dated_now =
      append-nil (dated_in side c.delays now_told)
      ∙ ap (λ (b : Bool). let ds : List Dated = if b then flat_map (dated_of side c.delays) (judged_next side c events at.0 frame) else [] in ds) (side_self side)

  pub dated_own : dated side c (events ++ event.Arrival side at frame ∷ []) ≡ dated side c events ++ flat_map (dated_of side c.delays) (judged_next side c events at.0 frame)
  unfolding stories_in
  dated_own = judged_go_on.on_dated side c events (event.Arrival side at frame) ∙ ap (λ (ds : List Dated). dated side c events ++ ds) dated_now

  -- what is known then
  pub known_own : (number : ℕ) (k : Known) → number ≡ suc (arrival_count events) → IsConfig c → All (IsSoundJudgement c.endpoints) (judged_next side c events at.0 frame)
      → IsKnown c (kept_from side (stories c events)) (judged_before side (told c events)) (dated side c events) k
      → IsKnown c (kept_from side (stories c (events ++ event.Arrival side at frame ∷ []))) (judged_before side (told c (events ++ event.Arrival side at frame ∷ [])))
      (dated side c (events ++ event.Arrival side at frame ∷ [])) (after_all number (all_judged side c.delays (all_heard side c.endpoints (judged_next side c events at.0 frame))) k)
  known_own number k is config sound h =
      let some_number : 0 < number = omega (arith, is) in
      let new = after_all number (all_judged side c.delays (all_heard side c.endpoints (judged_next side c events at.0 frame))) k in
      let all = all_known side c number (judged_next side c events at.0 frame) (kept_from side (stories c events)) (judged_before side (told c events)) (dated side c events) k some_number config.endpoints sound h in
      let gs = kept_from side (stories c (events ++ event.Arrival side at frame ∷ [])) in
      let js = judged_before side (told c (events ++ event.Arrival side at frame ∷ [])) in
      subst (λ (ds : List Dated). IsKnown c gs js ds new) (sym dated_own)
      (subst (λ (xs : List Judgement). IsKnown c gs xs (dated side c events ++ flat_map (dated_of side c.delays) (judged_next side c events at.0 frame)) new) (sym judged_own)
      (subst (λ (xs : List Kept). IsKnown c xs (onto (judged_before side (told c events)) (judged_next side c events at.0 frame))
      (dated side c events ++ flat_map (dated_of side c.delays) (judged_next side c events at.0 frame)) new) (kept_is number is) all))
    where
      kept_is : (number : ℕ) → number ≡ suc (arrival_count events)
          → kept_from side (stories c events) ++ flat_map (kept_by number) (judged_next side c events at.0 frame) ≡ kept_from side (stories c (events ++ event.Arrival side at frame ∷ []))
      kept_is number is = ap (λ (n : ℕ). kept_from side (stories c events) ++ flat_map (kept_by n) (judged_next side c events at.0 frame)) is ∙ sym kept_own

  -- the lines
  pub lines_own : (number : ℕ) (k : Known) → number ≡ suc (arrival_count events) → IsConfig c → All (IsSoundJudgement c.endpoints) (judged_next side c events at.0 frame)
      → IsKnown c (kept_from side (stories c events)) (judged_before side (told c events)) (dated side c events) k
      → frame_line (story c number side (arrivals_heard side [] events) (arrival_with at.0 frame)) ∷ all_said number (all_judged side c.delays (all_heard side c.endpoints (judged_next side c events at.0 frame))) k
      ≡ frame_lines side c events number at.0 frame
  unfolding story_lines
  lines_own number k is config sound h =
      let some_number : 0 < number = omega (arith, is) in
      ap (λ (ls : List ExplainLine). frame_line (story c number side (arrivals_heard side [] events) (arrival_with at.0 frame)) ∷ ls)
      (all_lines side c number (judged_next side c events at.0 frame) (kept_from side (stories c events)) (judged_before side (told c events)) (dated side c events) k some_number config.endpoints sound h)

module _ (c : Config) (events : List Event) (bytes : List ℕ) (f : FrameHeard) (judged : List Judged) (u : UnitLines) (h : IsUnitAfter f.side c events u)
    (is : IsFrame c events bytes f judged) where
  -- the unit after it
  pub unit_heard : (v : UnitLines) → v.side ≡ u.side → known_of v.earlier ≡ after_all f.number judged (known_of u.earlier) → IsUnitAfter f.side c (events ++ event.Arrival f.side f.at bytes ∷ []) v
  unit_heard v same known_is =
      let all = events ++ event.Arrival f.side f.at bytes ∷ [] in
      record {
        side_is = same ∙ h.side_is;
        earlier =
            subst (λ (k : Known). IsKnown c (kept_from f.side (stories c all)) (judged_before f.side (told c all)) (dated f.side c all) k)
            (sym (known_is ∙ ap (λ (hs : List Judged). after_all f.number hs (known_of u.earlier)) is.judged_is))
            (known_own f.side c events f.at bytes f.number (known_of u.earlier) is.number_is is.config is.sound h.earlier);
      }

  -- its lines, as they are told
  pub frame_said : line_of f ∷ all_said f.number judged (known_of u.earlier) ≡ frame_lines f.side c events f.number f.at.0 bytes
  frame_said =
      ap (λ (n : ℕ). line.Frame f.number f.side f.at n f.refusal ∷ all_said f.number judged (known_of u.earlier)) is.bytes_are
      ∙ ap (λ (r : Option PduRefusal). line.Frame f.number f.side f.at (length bytes) r ∷ all_said f.number judged (known_of u.earlier)) is.refusal_is
      ∙ ap (λ (hs : List Judged). line.Frame f.number f.side f.at (length bytes) (pdu bytes).refusal ∷ all_said f.number hs (known_of u.earlier)) is.judged_is
      ∙ lines_own f.side c events f.at bytes f.number (known_of u.earlier) is.number_is is.config is.sound h.earlier

-- ---- any other event

module _ (side : Side) (c : Config) (events : List Event) where
  -- it adds nothing to these
  record IsQuiet (e : Event) : Type 0 where
    pub judged : judged_after side (judged_before side (told c events)) (told_of c events e ∷ []) ≡ judged_before side (told c events)
    pub kept : kept_from side (stories_in (told_of c events e ∷ [])) ≡ []
    pub sections : flat_map (dated_in side c.delays) (stories_in (told_of c events e ∷ [])) ≡ []

  quiet : (e : Event) → IsElsewhere side e → IsQuiet e
  unfolding judged_after stories_in
  quiet (event.Cell a) h = record { judged = refl; kept = refl; sections = refl }
  quiet (event.Delay at at_side id value) h = record { judged = refl; kept = refl; sections = refl }
  quiet (event.Count at_side counter value) h = record { judged = refl; kept = refl; sections = refl }
  quiet (event.Arrival at_side at frame) h =
      let s : Story = story c (suc (arrival_count events)) at_side (arrivals_heard at_side [] events) (arrival_with at.0 frame) in
      record {
        judged = ap (λ (b : Bool). let js : List Judgement = if b then onto (judged_before side (told c events)) s.judged else judged_before side (told c events) in js) h;
        kept = append-nil (kept_in side s) ∙ ap (λ (b : Bool). let gs : List Kept = if b then flat_map (kept_by s.number) s.judged else [] in gs) h;
        sections = append-nil (dated_in side c.delays s) ∙ ap (λ (b : Bool). let ds : List Dated = if b then flat_map (dated_of side c.delays) s.judged else [] in ds) h;
      }

  judged_quiet : (e : Event) → IsQuiet e → judged_before side (told c (events ++ e ∷ [])) ≡ judged_before side (told c events)
  judged_quiet e q = ap (judged_before side) (one c events e) ∙ after_both side [] (told c events) (told_of c events e ∷ []) ∙ q.judged

  kept_quiet : (e : Event) → IsQuiet e → kept_from side (stories c (events ++ e ∷ [])) ≡ kept_from side (stories c events)
  kept_quiet e q =
      ap (λ (ts : List Told). kept_from side (stories_in ts)) (one c events e) ∙ ap (kept_from side) (stories_both (told c events) (told_of c events e ∷ []))
      ∙ flat_map-append (kept_in side) (stories c events) (stories_in (told_of c events e ∷ []))
      ∙ ap (λ (gs : List Kept). kept_from side (stories c events) ++ gs) q.kept ∙ append-nil (kept_from side (stories c events))

  dated_quiet : (e : Event) → IsQuiet e → dated side c (events ++ e ∷ []) ≡ dated side c events
  dated_quiet e q = judged_go_on.on_dated side c events e ∙ ap (λ (ds : List Dated). dated side c events ++ ds) q.sections ∙ append-nil (dated side c events)

  leaves : (e : Event) (u : UnitLines) → IsQuiet e → IsUnitAfter side c events u → IsUnitAfter side c (events ++ e ∷ []) u
  leaves e u q h = record {
    side_is = h.side_is;
    earlier =
        subst (λ (ds : List Dated). IsKnown c (kept_from side (stories c (events ++ e ∷ []))) (judged_before side (told c (events ++ e ∷ []))) ds (known_of u.earlier)) (sym (dated_quiet e q))
        (subst (λ (js : List Judgement). IsKnown c (kept_from side (stories c (events ++ e ∷ []))) js (dated side c events) (known_of u.earlier)) (sym (judged_quiet e q))
        (subst (λ (gs : List Kept). IsKnown c gs (judged_before side (told c events)) (dated side c events) (known_of u.earlier)) (sym (kept_quiet e q)) h.earlier));
  }

-- it changes nothing of what is kept of the unit
pub others_leave_it : (side : Side) (c : Config) (events : List Event) (e : Event) (u : UnitLines) → IsElsewhere side e → IsUnitAfter side c events u → IsUnitAfter side c (events ++ e ∷ []) u
others_leave_it side c events e u elsewhere h = leaves side c events e u (quiet side c events e elsewhere) h

-- ---- no event

pub made : (side : Side) (c : Config) (u : UnitLines) → u.side ≡ side → known_of u.earlier ≡ nothing_known c → IsUnitAfter side c [] u
unfolding told_after judged_after stories_in dated
made side c u same known = record { side_is = same; earlier = subst (λ (k : Known). IsKnown c [] [] [] k) (sym known) (none_known c) }

-- ---- after some events

pub giver_after : (side : Side) (c : Config) (events : List Event) (u : UnitLines) (a : AirCell) → IsUnitAfter side c events u → a.side ≡ side
    → giver_of u.earlier.blocks a.id a.slot a.symbol a.prb ≡ giver_in (stories c events) a
giver_after side c events u a h same =
    ap (λ (gs : List Kept). giver_of gs a.id a.slot a.symbol a.prb) (h.earlier.blocks ∙ ap (λ (s : Side). kept_from s (stories c events)) (sym same))
    ∙ givers_are_kept (stories c events) a

pub margins_after_events : (side : Side) (c : Config) (events : List Event) (u : UnitLines) (ms : List EndpointMargins) → IsUnitAfter side c events u → ms ≡ u.earlier.margins.all.items
    → margins_said u.side ms ≡ margins_at side c.endpoints (dated side c events)
margins_after_events side c events u ms h is =
    ap (λ (s : Side). margins_said s ms) h.side_is ∙ ap (margins_said side) (is ∙ h.earlier.margins) ∙ margins_are_told side c.endpoints (dated side c events)
