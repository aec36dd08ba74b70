-- The fragments that a unit judges of a frame are those that were received, each with its verdict.
use Rattle.std.proofs.Common.{◌≡◌, ℕ, ℤ, List, [], ◌∷◌, ◌++◌, refl, sym, ap, ◌∙◌, subst}
use Rattle.std.specs.Prelude.{Option, Some, None}
use Rattle.fh_base.specs.Numbering.{shape_of}
use Rattle.ecpri_frames.specs.Messages.{Message}
use Rattle.ecpri_fragments.specs.Generations.{Fragment}
use Rattle.ecpri_fragments.specs.Pieces.{joined}
use Rattle.ecpri_fragments.specs.Verdicts.{Message as Whole, whole_now}
use Rattle.air_source.specs.declared.events.Side.{Side}
use Rattle.uplane_sections.specs.Messages.{told}
use Rattle.uplane_sections.specs.declared.values.URefusal.{URefusal}
use Rattle.unit_model.specs.Decoding.{Backwards, Decoded, Refused, Sections, data_sections, decode_message}
use Rattle.fh_base.specs.Lists.{onto}
use Rattle.unit_model.specs.Meetings.{Commands, Ignored, Meeting, Piece, commands, fragments, meet, met_in}
use Rattle.unit_model.specs.Reports.{hold_of}
use Rattle.unit_model.specs.declared.decoded.ControlSection.{ControlSection}
use Rattle.unit_model.specs.declared.decoded.UserSection.{UserSection}
use Rattle.unit_model.specs.Judgements.{Judgement, judged_by, judged_commands, judged_data, judged_decoded, judged_in, judged_meeting, judged_message, judged_now, judged_whole}
use Rattle.window_config.specs.declared.config.Config.{Config}
use Rattle.window_config.specs.declared.endpoints.EndpointConfig.{EndpointConfig}
use Rattle.explain_records.specs.Records.{AreVerdicts, entered}

-- with all of these
abbrev pub all_entered : List Fragment → List Judgement → List Fragment
all_entered fs [] = fs
all_entered fs (j ∷ js) = all_entered (entered fs j) js

pub entered_both : (js : List Judgement) (fs : List Fragment) (ks : List Judgement) → all_entered fs (js ++ ks) ≡ all_entered (all_entered fs js) ks
entered_both [] fs ks = refl
entered_both (j ∷ js) fs ks = entered_both js (entered fs j) ks

verdicts_both : (hold : ℤ) (js : List Judgement) (fs : List Fragment) (ks : List Judgement) → AreVerdicts hold fs js → AreVerdicts hold (all_entered fs js) ks → AreVerdicts hold fs (js ++ ks)
verdicts_both hold [] fs ks h k = k
verdicts_both hold (j ∷ js) fs ks h k = (h.0, verdicts_both hold js (entered fs j) ks h.1 k)

-- from these fragments to those
pub record Walks (hold : ℤ) (fs : List Fragment) (js : List Judgement) (gs : List Fragment) : Type 0 where
  pub verdicts : AreVerdicts hold fs js
  pub after : all_entered fs js ≡ gs

walks_both : (hold : ℤ) (fs gs hs : List Fragment) (js ks : List Judgement) → Walks hold fs js gs → Walks hold gs ks hs → Walks hold fs (js ++ ks) hs
walks_both hold fs gs hs js ks h k = record {
  verdicts = verdicts_both hold js fs ks h.verdicts (subst (λ (es : List Fragment). AreVerdicts hold es ks) (sym h.after) k.verdicts);
  after = entered_both js fs ks ∙ ap (λ (es : List Fragment). all_entered es ks) h.after ∙ k.after;
}

module _ (side : Side) (c : Config) where
  abbrev hold : ℤ
  hold = hold_of side c.delays

  none : (fs : List Fragment) → Walks hold fs [] fs
  none fs = record { verdicts = tt; after = refl }

  of_commands : (cs earlier : List ControlSection) (fs : List Fragment) → Walks hold fs (judged_commands c.delays earlier cs) fs
  unfolding judged_commands
  of_commands [] earlier fs = none fs
  of_commands (x ∷ cs) earlier fs = let w = of_commands cs (x ∷ earlier) fs in record { verdicts = (tt, w.verdicts); after = w.after }

  of_data : (ss earlier : List UserSection) (fs : List Fragment) → Walks hold fs (judged_data side c.delays earlier ss) fs
  unfolding judged_data
  of_data [] earlier fs = none fs
  of_data (s ∷ ss) earlier fs = walks_both hold fs fs fs _ _ (of_data ss earlier fs) (record { verdicts = (tt, tt); after = refl })

  of_decoded : (ep : ℕ) (e : EndpointConfig) (m : Whole) (ds : List UserSection) (fs : List Fragment) (x : Decoded) → Walks hold fs (judged_decoded side c.delays ep e m ds x) fs
  of_decoded ep e m ds fs Refused = none fs
  of_decoded ep e m ds fs Backwards = record { verdicts = (tt, tt); after = refl }
  of_decoded ep e m ds fs (Sections ss) = of_data ss ds fs

  of_read : (ep : ℕ) (e : EndpointConfig) (m : Whole) (ds : List UserSection) (fs : List Fragment) (o : Option URefusal) → Walks hold fs (judged_by side c.delays ep e m ds o) fs
  of_read ep e m ds fs (Some why) = record { verdicts = (tt, tt); after = refl }
  of_read ep e m ds fs None = of_decoded ep e m ds fs (decode_message side ep e m)

  of_now : (ep : ℕ) (e : EndpointConfig) (ds : List UserSection) (fs : List Fragment) (o : Option Whole) → Walks hold fs (judged_now side c.delays ep e ds o) fs
  unfolding judged_whole
  of_now ep e ds fs None = none fs
  of_now ep e ds fs (Some m) = of_read ep e m ds fs (told e.format e.prbs (shape_of e.numerology) (joined m.pieces)).refusal

  of_meeting : (ms : List Meeting) (x : Meeting) → Walks hold (fragments ms) (judged_meeting side c ms x) (fragments (x ∷ ms))
  unfolding fragments
  of_meeting ms (Ignored k) = none (fragments ms)
  of_meeting ms (Commands cs) = of_commands cs (commands ms) (fragments ms)
  of_meeting ms (Piece e f) =
      let w = of_now f.ep e (data_sections side hold ms) (f ∷ fragments ms) (whole_now hold f (fragments ms)) in
      record { verdicts = (refl, w.verdicts); after = w.after }

  of_message : (at : ℤ) (ms : List Meeting) (m : Message) → Walks hold (fragments ms) (judged_message side c at ms m) (fragments (meet side c.endpoints at m ∷ ms))
  of_message at ms m = let w = of_meeting ms (meet side c.endpoints at m) in record { verdicts = (tt, w.verdicts); after = w.after }

  pub of_frame : (at : ℤ) (messages : List Message) (ms : List Meeting) → Walks hold (fragments ms) (judged_in side c at ms messages) (fragments (onto ms (met_in side c.endpoints at messages)))
  unfolding onto judged_in
  of_frame at [] ms = none (fragments ms)
  of_frame at (m ∷ rest) ms =
      let x = meet side c.endpoints at m in
      walks_both hold (fragments ms) (fragments (x ∷ ms)) (fragments (onto (x ∷ ms) (met_in side c.endpoints at rest))) (judged_message side c at ms m) (judged_in side c at (x ∷ ms) rest)
      (of_message at ms m) (of_frame at rest (x ∷ ms))
