-- Nothing heard yet, and all that was kept in the end.
use Rattle.std.proofs.Common.{◌≡◌, ℤ, List, [], ◌++◌, refl, ap, ap₂, ◌∙◌, subst}
use Rattle.std.specs.Prelude.{Result, Ok, Err, IfOk}
use Rattle.air_source.specs.declared.events.Side.{Side}
use Rattle.air_source.specs.declared.events.Side.TheVariants.{Ru, Du}
use Rattle.explain_model.specs.Stories.{Story}
use Rattle.explain_model.specs.Fragments.{NumberedFragment, beginning_records, beginnings_after, repeated_after, repeated_records, unit_fragments}
use Rattle.explain_model.specs.SilentReasons.{Kept, kept_of}
use Rattle.explain_model.specs.Records.{command_records, data_records, header_records}
use Rattle.explain_records.specs.Stored.{SameBySymbol, nothing_kept}
use Rattle.explain_records.specs.Units.{AreRecordsOf}
use Rattle.explain_records.specs.declared.fragment_records.FragmentRecords.{FragmentRecords}
use Rattle.explain_records.specs.Records.{HaveHeard, section_records}
use Rattle.explain_records.specs.declared.heard_records.HeardRecords.{HeardRecords}
use Rattle.explain_model.specs.declared.headers.BeginningRecord.{BeginningRecord}
use Rattle.explain_model.specs.declared.headers.RepeatedRecord.{RepeatedRecord}
use Rattle.fh_base.specs.Lists.{onto}
use Rattle.unit_model.specs.Meetings.{fragments, meetings}
use Rattle.unit_model.specs.Reports.{hold_of}
use Rattle.window_config.specs.declared.config.Config.{Config}

pub starts : (c : Config) (r : HeardRecords) → r.kept ≡ nothing_kept → AreRecordsOf Ru (hold_of Ru c.delays) [] r.ru → AreRecordsOf Du (hold_of Du c.delays) [] r.du → HaveHeard c [] r
unfolding data_records command_records header_records unit_fragments fragments meetings onto
starts c r k ru du = record {
  kept = record { kept_is = k; ru_is = ru; du_is = du };
  fragments_are = λ side. refl;
}

abbrev pub TellsRepeated : FragmentRecords → List RepeatedRecord → Type 0
TellsRepeated r rs = (side : Side) (hold : ℤ) (xs : List NumberedFragment) → AreRecordsOf side hold xs r → rs ≡ repeated_after side hold [] xs

abbrev pub TellsUnfinished : FragmentRecords → List BeginningRecord → Type 0
TellsUnfinished r rs = (side : Side) (hold : ℤ) (xs : List NumberedFragment) → AreRecordsOf side hold xs r → rs ≡ beginnings_after side hold [] xs

abbrev repeated_also : Kept → List RepeatedRecord → Kept
repeated_also k rs = record k { repeated = k.repeated ++ rs }

abbrev begun_also : Kept → List BeginningRecord → Kept
begun_also k rs = record k { begun = k.begun ++ rs }

module _ (c : Config) (ss : List Story) (r : HeardRecords) (h : HaveHeard c ss r) where
  all_kept : (a b : List RepeatedRecord) (d e : List BeginningRecord) → TellsRepeated r.ru a → TellsRepeated r.du b → TellsUnfinished r.ru d → TellsUnfinished r.du e
      → begun_also (begun_also (repeated_also (repeated_also r.kept a) b) d) e ≡ kept_of c ss
  unfolding repeated_records beginning_records
  all_kept a b d e ta tb td te =
      ap (λ (k : Kept). begun_also (begun_also (repeated_also (repeated_also k a) b) d) e) h.kept.kept_is
      ∙ ap₂ (λ (x y : List RepeatedRecord). begun_also (begun_also (repeated_also (repeated_also (section_records c ss) x) y) d) e)
      (ta Ru (hold_of Ru c.delays) (unit_fragments Ru ss) h.kept.ru_is) (tb Du (hold_of Du c.delays) (unit_fragments Du ss) h.kept.du_is)
      ∙ ap₂ (λ (x y : List BeginningRecord). let k : Kept = record { given = data_records c ss; commanded = command_records c ss; headers = header_records ss; repeated = repeated_records c ss; begun = x ++ y } in k)
      (td Ru (hold_of Ru c.delays) (unit_fragments Ru ss) h.kept.ru_is) (te Du (hold_of Du c.delays) (unit_fragments Du ss) h.kept.du_is)

pub ordered_is : (r : HeardRecords) (k1 k2 k3 k4 ordered : Kept) (a b : List RepeatedRecord) (d e : List BeginningRecord)
    → TellsRepeated r.ru a → TellsRepeated r.du b → TellsUnfinished r.ru d → TellsUnfinished r.du e
    → k1 ≡ record r.kept { repeated = r.kept.repeated ++ a } → k2 ≡ record k1 { repeated = k1.repeated ++ b }
    → k3 ≡ record k2 { begun = k2.begun ++ d } → k4 ≡ record k3 { begun = k3.begun ++ e } → SameBySymbol k4 ordered
    → (c : Config) (ss : List Story) → HaveHeard c ss r → SameBySymbol (kept_of c ss) ordered
ordered_is r k1 k2 k3 k4 ordered a b d e ta tb td te p1 p2 p3 p4 same c ss h =
    subst (λ (k : Kept). SameBySymbol k ordered)
    (p4 ∙ ap (λ (k : Kept). begun_also k e) (p3 ∙ ap (λ (k : Kept). begun_also k d) (p2 ∙ ap (λ (k : Kept). repeated_also k b) p1)) ∙ all_kept c ss r h a b d e ta tb td te)
    same

pub answers_order : {E : Type 0} (r : HeardRecords) (k1 k2 k3 k4 : Kept) (a b : List RepeatedRecord) (d e : List BeginningRecord) (res : Result Kept E)
    → TellsRepeated r.ru a → TellsRepeated r.du b → TellsUnfinished r.ru d → TellsUnfinished r.du e
    → k1 ≡ record r.kept { repeated = r.kept.repeated ++ a } → k2 ≡ record k1 { repeated = k1.repeated ++ b }
    → k3 ≡ record k2 { begun = k2.begun ++ d } → k4 ≡ record k3 { begun = k3.begun ++ e } → IfOk res (λ o. SameBySymbol k4 o)
    → IfOk res (λ o. (c : Config) (ss : List Story) → HaveHeard c ss r → SameBySymbol (kept_of c ss) o)
answers_order r k1 k2 k3 k4 a b d e (Ok o) ta tb td te p1 p2 p3 p4 same = ordered_is r k1 k2 k3 k4 o a b d e ta tb td te p1 p2 p3 p4 same
answers_order r k1 k2 k3 k4 a b d e (Err x) ta tb td te p1 p2 p3 p4 same = tt
