-- What is kept of one event more.
use Rattle.std.specs.Prelude.{All, Result, Ok, Err}
use Rattle.std.proofs.Common.{◌≡◌, ◌<◌, ◌^◌, ℕ, ℤ, suc, false, length, List, [], ◌∷◌, ◌++◌, Option, Some, None, OnOk, refl, sym, ap, ap₂, subst, ◌∙◌, arith}
use Rattle.air_source.specs.declared.events.AirCell.{AirCell}
use Rattle.air_source.specs.declared.events.Event.{Event}
use Rattle.air_source.specs.declared.events.Event.TheVariants as event
use Rattle.air_source.specs.declared.events.Side.{Side}
use Rattle.air_source.specs.declared.events.Side.TheVariants.{Ru, Du}
use Rattle.explain_air.specs.Closing.{IsLast}
use Rattle.explain_air.specs.Heard.{HasEnded, HasHeard, HasPending, IsLastOf, lines_at}
use Rattle.explain_air.specs.LastFrames.{LastHeard, with_judged, with_none}
use Rattle.explain_air.specs.NoteLaws.{noted_more, notes_more}
use Rattle.explain_air.specs.Notes.{AreNotes, HasNoted}
use Rattle.explain_air.specs.Runs.{open_of}
use Rattle.explain_air.specs.declared.kept.Kept.{Kept}
use Rattle.explain_air.specs.declared.notes.Notes.{Notes}
use Rattle.explain_air.specs.declared.runs.RunLines.{RunLines}
use Rattle.ecpri_frames.specs.Messages.{pdu}
use Rattle.explain_heard.specs.Heard.{all_heard}
use Rattle.explain_heard.specs.Judged.{all_judged}
use Rattle.explain_heard.specs.declared.judged.Judged.{Judged}
use Rattle.explain_model.proofs.GrowLemmas.{lines_go_on}
use Rattle.explain_model.proofs.Steps.{cell_run, cell_stories, closed_more, count_none, count_one, delay_stories, no_run, no_stories, none_closed, none_counted, none_open}
use Rattle.explain_model.specs.Subjects.{Subject, added, ending, reason_lines}
use Rattle.explain_model.specs.declared.values.CellWord.{CellWord}
use Rattle.explain_model.specs.declared.values.ExplainLine.{ExplainLine}
use Rattle.explain_model.specs.declared.values.ExplainLine.TheVariants as line
use Rattle.explain_model.specs.Cells.{CellRun, closed_lines, closing, entries, run_lines, run_with, word_of}
use Rattle.explain_model.specs.Stories.{Story, arrival_count, stories, told}
use Rattle.explain_units.proofs.EventLemmas.{others_leave_it}
use Rattle.explain_units.specs.Frames.{IsFrame, judged_next}
use Rattle.explain_units.specs.Units.{IsUnitAfter, frame_lines}
use Rattle.explain_units.specs.declared.frames.FrameHeard.{FrameHeard}
use Rattle.explain_units.specs.declared.units.UnitLines.{UnitLines}
use Rattle.explain_records.specs.declared.heard_records.HeardRecords.{HeardRecords}
use Rattle.fh_base.specs.declared.values.Ticks.{Ticks}
use Rattle.explain_records.specs.Records.{HaveHeard}
use Rattle.plan_model.specs.Lines.{planned}
use Rattle.unit_laws.specs.Sound.{IsSoundJudgement}
use Rattle.window_config.specs.Configs.{IsConfig}
use Rattle.window_config.specs.declared.config.Config.{Config}
use Rattle.window_config.specs.declared.delays.Delays.{Delays}
use Rattle.window_config.specs.declared.endpoints.EndpointConfig.{EndpointConfig}

-- a number of 32 bits
pub few_as : (m n : ℕ) → m ≡ n → n < 2 ^ 32 → m < 2 ^ 32
few_as m n same few = subst (λ (k : ℕ). k < 2 ^ 32) (sym same) few

-- ---- a cell

module _ (s : Subject) (events : List Event) (k : Kept) (h : HasHeard s events k) where
  abbrev c : Config
  c = s.config

  -- the lines that a cell adds, by the run that is kept
  pub cell_lines : (a : AirCell) (w : CellWord) → w ≡ word_of (told c events) a → closing (open_of k.runs) a w ≡ added c events (event.Cell a)
  cell_lines a w is = ap₂ (λ (o : Option CellRun) (x : CellWord). closing o a x) h.run is

  pub after_cell : (a : AirCell) (w : CellWord) (r : RunLines) → w ≡ word_of (told c events) a → open_of r ≡ Some (run_with (open_of k.runs) a w)
      → HasNoted k.runs.notes (closing (open_of k.runs) a w) r.notes → HasHeard s (events ++ event.Cell a ∷ []) (record k { runs = r })
  after_cell a w r is run noted = record {
    config = h.config;
    number = h.number ∙ sym (count_none events (event.Cell a) refl);
    few = few_as _ (arrival_count events) (count_none events (event.Cell a) refl) h.few;
    ru = others_leave_it Ru c events (event.Cell a) k.ru tt h.ru;
    du = others_leave_it Du c events (event.Cell a) k.du tt h.du;
    run = run ∙ ap₂ (λ (o : Option CellRun) (x : CellWord). Some (run_with o a x)) h.run is ∙ sym (cell_run c events a);
    notes =
        subst (λ (ls : List ExplainLine). AreNotes c.endpoints ls r.notes)
        (ap (λ (ls : List ExplainLine). closed_lines c events ++ ls) (cell_lines a w is) ∙ sym (closed_more c events (event.Cell a)))
        (notes_more c.endpoints (closed_lines c events) (closing (open_of k.runs) a w) k.runs.notes r.notes h.notes noted);
    records = subst (λ (ss : List Story). HaveHeard c ss k.records) (sym (cell_stories c events a)) h.records;
    planned = h.planned;
    numbers = h.numbers;
    told = h.told;
    endpoints = h.endpoints;
    delays = h.delays;
  }

  -- ---- a delay

  pub delay_lines : (at : Ticks) (side : Side) (id : ℕ) (value : ℤ) (l : ExplainLine) → l ≡ line.Delay at side id value → run_lines (open_of k.runs) ++ l ∷ [] ≡ added c events (event.Delay at side id value)
  delay_lines at side id value l is = ap₂ (λ (o : Option CellRun) (x : ExplainLine). run_lines o ++ x ∷ []) h.run is

  pub after_delay : (at : Ticks) (side : Side) (id : ℕ) (value : ℤ) (l : ExplainLine) → l ≡ line.Delay at side id value → (r : RunLines) → open_of r ≡ None
      → HasNoted k.runs.notes (run_lines (open_of k.runs) ++ l ∷ []) r.notes
      → HasHeard s (events ++ event.Delay at side id value ∷ []) (record k { runs = r })
  after_delay at side id value l is r run noted =
      let e = event.Delay at side id value in
      record {
        config = h.config;
        number = h.number ∙ sym (count_none events e refl);
        few = few_as _ (arrival_count events) (count_none events e refl) h.few;
        ru = others_leave_it Ru c events e k.ru tt h.ru;
        du = others_leave_it Du c events e k.du tt h.du;
        run = run ∙ sym (no_run c events e (line.Delay at side id value ∷ []) refl);
        notes =
            subst (λ (ls : List ExplainLine). AreNotes c.endpoints ls r.notes)
            (ap (λ (ls : List ExplainLine). closed_lines c events ++ ls) (delay_lines at side id value l is) ∙ sym (closed_more c events e))
            (notes_more c.endpoints (closed_lines c events) (run_lines (open_of k.runs) ++ l ∷ []) k.runs.notes r.notes h.notes noted);
        records = subst (λ (ss : List Story). HaveHeard c ss k.records) (sym (delay_stories c events at side id value)) h.records;
        planned = h.planned;
        numbers = h.numbers;
        told = h.told;
        endpoints = h.endpoints;
        delays = h.delays;
      }

  -- ---- a frame

  module _ (at : Ticks) (frame : List ℕ) (n : ℕ) (number : n ≡ suc (arrival_count events)) (low : n < 2 ^ 32) (r : RunLines) (run : open_of r ≡ None) where
    abbrev at_unit : Side → Event
    at_unit side = event.Arrival side at frame

    few_more : (side : Side) → arrival_count (events ++ at_unit side ∷ []) < 2 ^ 32
    few_more side = few_as _ n (count_one events side at frame ∙ sym number) low

    pub frame_lines_are : (side : Side) → run_lines (open_of k.runs) ++ frame_lines side c events n at.0 frame ≡ added c events (at_unit side)
    frame_lines_are side =
        ap₂ (λ (o : Option CellRun) (m : ℕ). run_lines o ++ frame_lines side c events m at.0 frame) h.run number

    notes_are : (side : Side) → HasNoted k.runs.notes (run_lines (open_of k.runs) ++ frame_lines side c events n at.0 frame) r.notes
        → AreNotes c.endpoints (closed_lines c (events ++ at_unit side ∷ [])) r.notes
    notes_are side noted =
        subst (λ (ls : List ExplainLine). AreNotes c.endpoints ls r.notes)
        (ap (λ (ls : List ExplainLine). closed_lines c events ++ ls) (frame_lines_are side) ∙ sym (closed_more c events (at_unit side)))
        (notes_more c.endpoints (closed_lines c events) (run_lines (open_of k.runs) ++ frame_lines side c events n at.0 frame) k.runs.notes r.notes h.notes noted)

    pub after_radio : (u : UnitLines) (x : HeardRecords) → HasNoted k.runs.notes (run_lines (open_of k.runs) ++ frame_lines Ru c events n at.0 frame) r.notes
        → IsUnitAfter Ru c (events ++ at_unit Ru ∷ []) u → HaveHeard c (stories c (events ++ at_unit Ru ∷ [])) x
        → HasHeard s (events ++ at_unit Ru ∷ []) (record { number = n; ru = u; du = k.du; runs = r; records = x; plan = k.plan; last = k.last })
    after_radio u x noted unit kept = record {
      config = h.config;
      number = number ∙ sym (count_one events Ru at frame);
      few = few_more Ru;
      ru = unit;
      du = others_leave_it Du c events (at_unit Ru) k.du refl h.du;
      run = run ∙ sym (no_run c events (at_unit Ru) _ refl);
      notes = notes_are Ru noted;
      records = kept;
      planned = h.planned;
      numbers = h.numbers;
      told = h.told;
      endpoints = h.endpoints;
      delays = h.delays;
    }

    pub after_distributed : (u : UnitLines) (x : HeardRecords) → HasNoted k.runs.notes (run_lines (open_of k.runs) ++ frame_lines Du c events n at.0 frame) r.notes
        → IsUnitAfter Du c (events ++ at_unit Du ∷ []) u → HaveHeard c (stories c (events ++ at_unit Du ∷ [])) x
        → HasHeard s (events ++ at_unit Du ∷ []) (record { number = n; ru = k.ru; du = u; runs = r; records = x; plan = k.plan; last = k.last })
    after_distributed u x noted unit kept = record {
      config = h.config;
      number = number ∙ sym (count_one events Du at frame);
      few = few_more Du;
      ru = others_leave_it Ru c events (at_unit Du) k.ru refl h.ru;
      du = unit;
      run = run ∙ sym (no_run c events (at_unit Du) _ refl);
      notes = notes_are Du noted;
      records = kept;
      planned = h.planned;
      numbers = h.numbers;
      told = h.told;
      endpoints = h.endpoints;
      delays = h.delays;
    }

-- ---- no event

pub before_all : (s : Subject) (k : Kept) → IsConfig s.config → k.number ≡ 0 → IsUnitAfter Ru s.config [] k.ru → IsUnitAfter Du s.config [] k.du → open_of k.runs ≡ None
    → AreNotes s.config.endpoints [] k.runs.notes → HaveHeard s.config [] k.records → k.plan.planned ≡ planned s.config.endpoints s.plan → k.plan.numbers ≡ s.numbers
    → k.last.frame ≡ None → k.last.endpoints ≡ s.config.endpoints → k.last.delays ≡ s.config.delays → HasHeard s [] k
before_all s k config number ru du run notes records plan numbers told endpoints delays = record {
  config = config;
  number = number ∙ sym none_counted;
  few = few_as _ 0 none_counted (omega arith);
  ru = ru;
  du = du;
  run = run ∙ sym (none_open s.config);
  notes = subst (λ (ls : List ExplainLine). AreNotes s.config.endpoints ls k.runs.notes) (sym (none_closed s.config)) notes;
  records = subst (λ (ss : List Story). HaveHeard s.config ss k.records) (sym (no_stories s.config)) records;
  planned = plan;
  numbers = numbers;
  told = told;
  endpoints = endpoints;
  delays = delays;
}

-- ---- a frame, where the run was ended before

module _ (s : Subject) (events : List Event) (k : Kept) (e : HasEnded s events k) (at : Ticks) (frame : List ℕ) (n : ℕ) (number : n ≡ suc (arrival_count events)) (low : n < 2 ^ 32) where
  noted_all : (side : Side) (r : RunLines) → HasNoted k.runs.notes (frame_lines side s.config events n at.0 frame) r.notes
      → HasNoted e.before.notes (run_lines (open_of e.before) ++ frame_lines side s.config events n at.0 frame) r.notes
  noted_all side r noted = noted_more e.before.notes k.runs.notes r.notes (run_lines (open_of e.before)) (frame_lines side s.config events n at.0 frame) e.noted noted

  pub ended_radio : (r : RunLines) (u : UnitLines) (x : HeardRecords) → open_of r ≡ None → HasNoted k.runs.notes (frame_lines Ru s.config events n at.0 frame) r.notes
      → IsUnitAfter Ru s.config (events ++ event.Arrival Ru at frame ∷ []) u → HaveHeard s.config (stories s.config (events ++ event.Arrival Ru at frame ∷ [])) x
      → HasHeard s (events ++ event.Arrival Ru at frame ∷ []) (record { number = n; ru = u; du = k.du; runs = r; records = x; plan = k.plan; last = k.last })
  ended_radio r u x none noted unit kept = after_radio s events (record k { runs = e.before }) e.heard at frame n number low r none u x (noted_all Ru r noted) unit kept

  pub ended_distributed : (r : RunLines) (u : UnitLines) (x : HeardRecords) → open_of r ≡ None → HasNoted k.runs.notes (frame_lines Du s.config events n at.0 frame) r.notes
      → IsUnitAfter Du s.config (events ++ event.Arrival Du at frame ∷ []) u → HaveHeard s.config (stories s.config (events ++ event.Arrival Du at frame ∷ [])) x
      → HasHeard s (events ++ event.Arrival Du at frame ∷ []) (record { number = n; ru = k.ru; du = u; runs = r; records = x; plan = k.plan; last = k.last })
  ended_distributed r u x none noted unit kept = after_distributed s events (record k { runs = e.before }) e.heard at frame n number low r none u x (noted_all Du r noted) unit kept

  -- at either unit
  pub ended_at_ru : (side : Side) → side ≡ Ru → (r : RunLines) (u : UnitLines) (x : HeardRecords) → open_of r ≡ None → HasNoted k.runs.notes (frame_lines side s.config events n at.0 frame) r.notes
      → IsUnitAfter side s.config (events ++ event.Arrival side at frame ∷ []) u → HaveHeard s.config (stories s.config (events ++ event.Arrival side at frame ∷ [])) x
      → HasHeard s (events ++ event.Arrival side at frame ∷ []) (record { number = n; ru = u; du = k.du; runs = r; records = x; plan = k.plan; last = k.last })
  ended_at_ru Ru is r u x none noted unit kept = ended_radio r u x none noted unit kept
  ended_at_ru Du is r u x none noted unit kept = absurd cc

  pub ended_at_du : (side : Side) → side ≡ Du → (r : RunLines) (u : UnitLines) (x : HeardRecords) → open_of r ≡ None → HasNoted k.runs.notes (frame_lines side s.config events n at.0 frame) r.notes
      → IsUnitAfter side s.config (events ++ event.Arrival side at frame ∷ []) u → HaveHeard s.config (stories s.config (events ++ event.Arrival side at frame ∷ [])) x
      → HasHeard s (events ++ event.Arrival side at frame ∷ []) (record { number = n; ru = k.ru; du = u; runs = r; records = x; plan = k.plan; last = k.last })
  ended_at_du Ru is r u x none noted unit kept = absurd cc
  ended_at_du Du is r u x none noted unit kept = ended_distributed r u x none noted unit kept

-- ---- after the last event

pub last_of : (s : Subject) (events : List Event) (k : Kept) (n : Notes) → HasHeard s events k → HasNoted k.runs.notes (run_lines (open_of k.runs)) n → IsLast s events k.ru k.du n k.records k.plan
last_of s events k n h noted = record {
  config = h.config;
  ru = h.ru;
  du = h.du;
  notes =
      subst (λ (ls : List ExplainLine). AreNotes s.config.endpoints ls n)
      (ap (λ (o : Option CellRun). closed_lines s.config events ++ run_lines o) h.run ∙ sym (lines_go_on.all (entries s.config events)))
      (notes_more s.config.endpoints (closed_lines s.config events) (run_lines (open_of k.runs)) k.runs.notes n h.notes noted);
  records = h.records;
  planned_are = h.planned;
  numbers_are = h.numbers;
}

pub ending_lines : (s : Subject) (events : List Event) (k : Kept) → HasHeard s events k → run_lines (open_of k.runs) ++ reason_lines s events ≡ ending s events
ending_lines s events k h = ap (λ (o : Option CellRun). run_lines o ++ reason_lines s events) h.run

-- ---- a frame, where a run may be open

pub ended_of : (s : Subject) (events : List Event) (k : Kept) (r : RunLines) → HasHeard s events k → open_of r ≡ None → HasNoted k.runs.notes (run_lines (open_of k.runs)) r.notes
    → HasEnded s events (record k { runs = r })
ended_of s events k r h none noted = record { before = k.runs; heard = h; none = none; noted = noted }

pub arrival_lines : (s : Subject) (events : List Event) (k : Kept) (side : Side) (at : Ticks) (frame : List ℕ) → HasHeard s events k
    → run_lines (open_of k.runs) ++ lines_at s events side at frame ≡ added s.config events (event.Arrival side at frame)
arrival_lines s events k side at frame h = ap (λ (o : Option CellRun). run_lines o ++ lines_at s events side at frame) h.run

-- ---- another last frame

with_last : (s : Subject) (events : List Event) (k : Kept) (l : LastHeard) → HasHeard s events k → l.frame ≡ None → l.endpoints ≡ s.config.endpoints → l.delays ≡ s.config.delays
    → HasHeard s events (record k { last = l })
with_last s events k l h told endpoints delays = record {
  config = h.config;
  number = h.number;
  few = h.few;
  ru = h.ru;
  du = h.du;
  run = h.run;
  notes = h.notes;
  records = h.records;
  planned = h.planned;
  numbers = h.numbers;
  told = told;
  endpoints = endpoints;
  delays = delays;
}

-- one that arrives, whose lines are left to tell
pub pending_of : (s : Subject) (events : List Event) (k : Kept) (side : Side) (at : Ticks) (bytes : List ℕ) (n : ℕ) (l : LastHeard) → HasHeard s events k → n ≡ suc k.number
    → l.frame ≡ Some (record { number = n; side = side; at = at; bytes = length bytes; refusal = (pdu bytes).refusal }) → l.endpoints ≡ k.last.endpoints → l.delays ≡ k.last.delays
    → (l.wanting ≡ false → l.heard ≡ all_heard side k.last.endpoints (judged_next side s.config events at.0 bytes)) → n < 2 ^ 32
    → All (IsSoundJudgement s.config.endpoints) (judged_next side s.config events at.0 bytes) → HasPending s events (event.Arrival side at bytes) (record k { last = l })
pending_of s events k side at bytes n l h number frame endpoints delays heard few sound = record {
  frame = record { number = n; side = side; at = at; bytes = length bytes; refusal = (pdu bytes).refusal };
  bytes = bytes;
  event_is = refl;
  frame_is = frame;
  last = record {
    few = few;
    judged = λ fine. record {
      config = h.config;
      sound = sound;
      number_is = number ∙ ap suc h.number;
      bytes_are = refl;
      refusal_is = refl;
      judged_is = ap (all_judged side s.config.delays) (heard fine ∙ ap (λ (es : List EndpointConfig). all_heard side es (judged_next side s.config events at.0 bytes)) h.endpoints);
    };
  };
  heard = with_last s events k (with_none l) h refl (endpoints ∙ h.endpoints) (delays ∙ h.delays);
}

-- what is known of some things at Ok
pub on_ok_two : {T E A B D : Type 0} (r : Result T E) → (A → B → D) → OnOk r A → OnOk r B → OnOk r D
on_ok_two (Ok x) f a b = f a b
on_ok_two (Err x) f a b = tt

pub on_ok_three : {T E A B C D : Type 0} (r : Result T E) → (A → B → C → D) → OnOk r A → OnOk r B → OnOk r C → OnOk r D
on_ok_three (Ok x) f a b c = f a b c
on_ok_three (Err x) f a b c = tt

-- one that is judged
judged_of : (s : Subject) (events : List Event) (k : Kept) (js : List Judged) → HasEnded s events k → HasEnded s events (record k { last = with_judged k.last js })
judged_of s events k js e = record {
  before = e.before;
  heard = with_last s events (record k { runs = e.before }) (with_judged k.last js) e.heard e.heard.told e.heard.endpoints e.heard.delays;
  none = e.none;
  noted = e.noted;
}

module _ (s : Subject) (events : List Event) (bytes : List ℕ) (k : Kept) (f : FrameHeard) (l : LastHeard) (js : List Judged) (e : HasEnded s events k) (last : IsLastOf s.config events bytes f k.last)
    (fine : k.last.wanting ≡ false) (is : l ≡ with_judged k.last (all_judged f.side k.last.delays k.last.heard)) (judged : js ≡ l.judged) where
  pub frame_is : IsFrame s.config events bytes f js
  frame_is =
      subst (λ (xs : List Judged). IsFrame s.config events bytes f xs)
      (sym (judged ∙ ap (λ (x : LastHeard). x.judged) is ∙ ap (λ (d : Delays). all_judged f.side d k.last.heard) e.heard.delays)) (last.judged fine)

pub judged_ended : (s : Subject) (events : List Event) (k : Kept) (l : LastHeard) {js : List Judged} → HasEnded s events k → l ≡ with_judged k.last js → HasEnded s events (record k { last = l })
judged_ended s events k l {js = js} e is = subst (λ (x : LastHeard). HasEnded s events (record k { last = x })) (sym is) (judged_of s events k js e)
