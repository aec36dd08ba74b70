-- What the radio unit decodes of a plan's data.
use Rattle.std.proofs.Common.{◌≡◌, ℤ, ◌⊎◌, inl, inr, List, [], ◌∷◌, ◌++◌, refl, ap, sym, ◌∙◌, subst}
use Rattle.air_source.specs.declared.events.Side.TheVariants.{Ru}
use Rattle.ecpri_fragments.specs.Generations.{Fragment}
use Rattle.ecpri_fragments.specs.Verdicts.{message, whole_of}
use Rattle.ecpri_fragments.specs.declared.verdict.Verdict.{Verdict}
use Rattle.ecpri_fragments.specs.declared.verdict.Verdict.TheVariants.{Stored, Whole, Repeat, Stray, TooLong}
use Rattle.window_config.specs.declared.config.Config.{Config}
use Rattle.window_config.specs.declared.endpoints.EndpointConfig.{EndpointConfig}
use Rattle.unit_model.specs.Decoding.{data_now, data_sections, data_told, decode_message, decoded_now, sections_of}
use Rattle.fh_base.specs.Lists.{onto}
use Rattle.unit_model.specs.Meetings.{Arrival, Commands, Meeting, Piece, fragments, meetings}
use Rattle.unit_model.specs.Proper.{IsAt}
use Rattle.unit_model.specs.declared.decoded.ControlSection.{ControlSection}
use Rattle.unit_model.specs.declared.decoded.UserSection.{UserSection}
use Rattle.unit_laws.proofs.FarLemmas.{endpoints_equal}
use Rattle.plan_model.specs.Sent.{SentFrame}
use Rattle.schedule_laws.specs.Premise.{Texts, fragment_at}
use Rattle.schedule_laws.proofs.FlowLemmas.{here}
use Rattle.schedule_laws.proofs.FragmentLemmas.{fragments_command, fragments_piece}
use Rattle.schedule_laws.proofs.ReadingLemmas.{AreCopies, a_command, a_piece, read_of, reading}
use Rattle.air_source.specs.declared.events.Side.{Side}
use Rattle.fh_base.specs.Members.{IsIn}
use Rattle.fh_base.proofs.MemberLemmas.{in_left, in_right, in_either}

-- ---- the sections that a fragment makes

pub told_whole : (side : Side) (v : Verdict) (e : EndpointConfig) (x : Fragment) (s : List Fragment) (d : UserSection) → IsIn d (data_told (decoded_now side e x (whole_of v x s)))
    → (v ≡ Whole) × IsIn d (sections_of (decode_message side x.ep e (message (x ∷ s))))
told_whole side Stored e x s d m = absurd m
told_whole side Whole e x s d m = (refl, m)
told_whole side Repeat e x s d m = absurd m
told_whole side Stray e x s d m = absurd m
told_whole side TooLong e x s d m = absurd m

pub whole_told : (side : Side) (v : Verdict) (e : EndpointConfig) (x : Fragment) (s : List Fragment) (d : UserSection) → v ≡ Whole → IsIn d (sections_of (decode_message side x.ep e (message (x ∷ s))))
    → IsIn d (data_told (decoded_now side e x (whole_of v x s)))
whole_told side Whole e x s d h m = m
whole_told side Stored e x s d h m = absurd cc
whole_told side Repeat e x s d h m = absurd cc
whole_told side Stray e x s d h m = absurd cc
whole_told side TooLong e x s d h m = absurd cc

sections_command : (c : Config) (hold : ℤ) (a : Arrival) (earlier : List Arrival) (d : ControlSection) → read_of c a ≡ Commands (d ∷ []) ∷ []
    → data_sections Ru hold (meetings Ru c.endpoints (a ∷ earlier)) ≡ data_sections Ru hold (meetings Ru c.endpoints earlier)
unfolding meetings onto data_sections
sections_command c hold a earlier d e = ap (λ (ms : List Meeting). data_sections Ru hold (onto (meetings Ru c.endpoints earlier) ms)) e

sections_piece : (c : Config) (hold : ℤ) (a : Arrival) (earlier : List Arrival) (e : EndpointConfig) (x : Fragment) → read_of c a ≡ Piece e x ∷ []
    → data_sections Ru hold (meetings Ru c.endpoints (a ∷ earlier)) ≡ data_told (data_now Ru hold e x (fragments (meetings Ru c.endpoints earlier))) ++ data_sections Ru hold (meetings Ru c.endpoints earlier)
unfolding meetings onto data_sections
sections_piece c hold a earlier e x h = ap (λ (ms : List Meeting). data_sections Ru hold (onto (meetings Ru c.endpoints earlier) ms)) h

-- a section is one of what a fragment makes whole
pub record IsTold (c : Config) (text : Texts) (frames : List SentFrame) (arrivals : List Arrival) (hold : ℤ) (d : UserSection) : Type 0 where
  pub later : List Fragment
  pub x : Fragment
  pub earlier : List Fragment
  pub is : fragments (meetings Ru c.endpoints arrivals) ≡ later ++ x ∷ earlier
  pub f : SentFrame
  pub sent_is : IsIn f frames
  pub ep_is : x.ep ≡ f.ep
  pub told : IsIn d (data_told (data_now Ru hold f.endpoint x earlier))

module _ (c : Config) (text : Texts) (frames : List SentFrame) (hold : ℤ) where
  pub told_in : (arrivals : List Arrival) → AreCopies c text frames arrivals → (d : UserSection) → IsIn d (data_sections Ru hold (meetings Ru c.endpoints arrivals)) → IsTold c text frames arrivals hold d
  unfolding meetings data_sections
  told_in [] came d m = absurd m
  told_in (a ∷ earlier) came d m =
      let w = came a (inl refl) in
      let rest = told_in earlier (λ b n. came b (inr n)) d in
      elim (reading c text w.0 a w.2) [
        | a_command stream r ↦
            let t = rest (subst (λ (xs : List UserSection). IsIn d xs) (sections_command c hold a earlier r.command r.is) m) in
            record { later = t.later; x = t.x; earlier = t.earlier; is = fragments_command c a earlier r.command r.is ∙ t.is; f = t.f; sent_is = t.sent_is; ep_is = t.ep_is; told = t.told }
        | a_piece e r ↦
            let x = fragment_at c text w.0 a.at in
            elim (in_either d (data_told (data_now Ru hold w.0.endpoint x (fragments (meetings Ru c.endpoints earlier)))) (data_sections Ru hold (meetings Ru c.endpoints earlier))
            (subst (λ (xs : List UserSection). IsIn d xs) (sections_piece c hold a earlier w.0.endpoint x r) m)) [
              | inl here ↦ record {
                later = [];
                x = x;
                earlier = fragments (meetings Ru c.endpoints earlier);
                is = fragments_piece c a earlier w.0.endpoint x r;
                f = w.0;
                sent_is = w.1;
                ep_is = refl;
                told = here;
              }
              | inr there ↦
                  let t = rest there in
                  record {
                    later = x ∷ t.later;
                    x = t.x;
                    earlier = t.earlier;
                    is = fragments_piece c a earlier w.0.endpoint x r ∙ ap (λ (xs : List Fragment). x ∷ xs) t.is;
                    f = t.f;
                    sent_is = t.sent_is;
                    ep_is = t.ep_is;
                    told = t.told;
                  }
            ]
      ]

  cons_same : (x y : Fragment) (xs ys : List Fragment) → x ∷ xs ≡ y ∷ ys → (x ≡ y) × (xs ≡ ys)
  cons_same x y xs ys e = (cc, cc)

  not_none : (later earlier : List Fragment) (x : Fragment) → [] ≡ later ++ x ∷ earlier → ⊥
  not_none [] earlier x e = cc
  not_none (y ∷ later) earlier x e = cc

  split_of : (later earlier all : List Fragment) (x y : Fragment) → y ∷ all ≡ later ++ x ∷ earlier → ((y ≡ x) × (all ≡ earlier)) ⊎ ((rest : List Fragment) × (all ≡ rest ++ x ∷ earlier))
  split_of [] earlier all x y e = inl (cons_same y x all earlier e)
  split_of (z ∷ later) earlier all x y e = inr (later, (cons_same y z all (later ++ x ∷ earlier) e).1)

  -- and all of that is told
  pub told_there : (at : (f : SentFrame) → IsIn f frames → IsAt c.endpoints f.ep f.endpoint) (arrivals : List Arrival) → AreCopies c text frames arrivals → (later earlier : List Fragment) (x : Fragment)
      (e : EndpointConfig) (d : UserSection) → IsAt c.endpoints x.ep e → fragments (meetings Ru c.endpoints arrivals) ≡ later ++ x ∷ earlier → IsIn d (data_told (data_now Ru hold e x earlier))
      → IsIn d (data_sections Ru hold (meetings Ru c.endpoints arrivals))
  unfolding meetings fragments
  told_there at [] came later earlier x e d at_x is m = absurd (not_none later earlier x is)
  told_there at (a ∷ before) came later earlier x e d at_x is m =
      let w = came a (inl refl) in
      let came_before = λ (b : Arrival) (n : IsIn b before). came b (inr n) in
      elim (reading c text w.0 a w.2) [
        | a_command stream r ↦
            subst (λ (xs : List UserSection). IsIn d xs) (sym (sections_command c hold a before r.command r.is))
            (told_there at before came_before later earlier x e d at_x (sym (fragments_command c a before r.command r.is) ∙ is) m)
        | a_piece s r ↦
            let y = fragment_at c text w.0 a.at in
            let all = fragments (meetings Ru c.endpoints before) in
            let old = data_sections Ru hold (meetings Ru c.endpoints before) in
            subst (λ (xs : List UserSection). IsIn d xs) (sym (sections_piece c hold a before w.0.endpoint y r))
            (elim (split_of later earlier all x y (sym (fragments_piece c a before w.0.endpoint y r) ∙ is)) [
              | inl now ↦
                  let same = endpoints_equal c.endpoints x.ep w.0.ep e w.0.endpoint at_x (at w.0 w.1) (ap (λ (z : Fragment). z.ep) (sym now.0)) in
                  in_left d (data_told (data_now Ru hold w.0.endpoint y all)) old
                  (subst (λ (z : Fragment). IsIn d (data_told (data_now Ru hold w.0.endpoint z all))) (sym now.0)
                  (subst (λ (g : EndpointConfig). IsIn d (data_told (data_now Ru hold g x all))) same
                  (subst (λ (xs : List Fragment). IsIn d (data_told (data_now Ru hold e x xs))) (sym now.1) m)))
              | inr rest ↦ in_right d (data_told (data_now Ru hold w.0.endpoint y all)) old (told_there at before came_before rest.0 earlier x e d at_x rest.1 m)
            ])
      ]
