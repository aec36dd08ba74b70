-- An accepted section is among all that the radio unit decoded, and each of its elements stays claimed.
use Rattle.std.proofs.Common.{◌≡◌, ℕ, ◌<◌, true, List, [], ◌∷◌, ◌++◌, refl, sym, ap, ◌∙◌, subst, inl, inr}
use Rattle.std.specs.Prelude.{Some}
use Rattle.air_source.specs.Units.{same_side}
use Rattle.air_source.specs.declared.events.Event.{Event}
use Rattle.air_source.specs.declared.events.Side.{Side}
use Rattle.air_source.specs.declared.events.Side.TheVariants.{Ru}
use Rattle.window_config.specs.declared.config.Config.{Config}
use Rattle.window_config.specs.declared.delays.Delays.{Delays}
use Rattle.unit_model.specs.Claims.{claim_at, claim_of, names}
use Rattle.unit_model.specs.Commands.{accepted, allocation_of, command_verdict, with_accepted}
use Rattle.unit_model.specs.Reports.{commands_of}
use Rattle.unit_model.specs.declared.allocations.Allocation.{Allocation}
use Rattle.unit_model.specs.declared.cells.Cell.{Cell}
use Rattle.unit_model.specs.declared.decoded.ControlSection.{ControlSection}
use Rattle.unit_model.specs.declared.verdicts.CommandVerdict.{CommandVerdict}
use Rattle.unit_model.specs.declared.verdicts.CommandVerdict.TheVariants.{Accepted}
use Rattle.unit_laws.proofs.ChangeLemmas.{accepted-cons, claim_stays}
use Rattle.unit_model.specs.Judgements.{Commanded, Judgement}
use Rattle.unit_model.specs.Heard.{arrivals_heard}
use Rattle.explain_model.specs.Stories.{Story, stories}
use Rattle.explain_laws.specs.Decoded.{CommandedSection, commanded_in, commanded_sections, judged_of, of_unit}
use Rattle.explain_laws.proofs.DecodedLemmas.{are_decoded}
use Rattle.explain_laws.proofs.StoryLemmas.{are_judged}
use Rattle.explain_laws.specs.Silent.{IsAccepted}
use Rattle.explain_laws.proofs.ListLemmas.{in_both, in_some}
use Rattle.fh_base.specs.Members.{IsIn}
use Rattle.fh_base.proofs.MemberLemmas.{in_filter}
use Rattle.replay_laws.proofs.GivenLemmas.{claim_named as named_claim}

-- it was accepted over what these that precede it left
pub record Stands (d : Delays) (cs : List ControlSection) (k : ControlSection) : Type 0 where
  pub later : List ControlSection
  pub earlier : List ControlSection
  pub is : cs ≡ later ++ k ∷ earlier
  pub verdict : command_verdict d (accepted d earlier) k ≡ Accepted

abbrev as_accepted : ControlSection → CommandedSection
as_accepted k = record { section = k; verdict = Accepted }

module _ (d : Delays) (k : ControlSection) where
  stands_first : (s : ControlSection) (earlier : List ControlSection) (v : CommandVerdict) → command_verdict d (accepted d earlier) s ≡ v
      → ◌≡◌ {A = CommandedSection} (as_accepted k) (record { section = s; verdict = v }) → Stands d (s ∷ earlier) k
  stands_first s earlier v is same =
      let section : k ≡ s = ap (λ (x : CommandedSection). x.section) same in
      let verdict : Accepted ≡ v = ap (λ (x : CommandedSection). x.verdict) same in
      record {
        later = [];
        earlier = earlier;
        is = ap (λ (x : ControlSection). x ∷ earlier) (sym section);
        verdict = ap (command_verdict d (accepted d earlier)) section ∙ is ∙ sym verdict;
      }

  stands_later : (s : ControlSection) (earlier : List ControlSection) → Stands d earlier k → Stands d (s ∷ earlier) k
  stands_later s earlier h = record { later = s ∷ h.later; earlier = h.earlier; is = ap (λ (xs : List ControlSection). s ∷ xs) h.is; verdict = h.verdict }

  stands : (cs : List ControlSection) → IsIn (as_accepted k) (commanded_sections d cs) → Stands d cs k
  unfolding commanded_sections
  stands [] m = absurd m
  stands (s ∷ earlier) m =
      elim (in_both (as_accepted k) (commanded_sections d earlier) (record { section = s; verdict = command_verdict d (accepted d earlier) s } ∷ []) m) [
        | inl before ↦ stands_later s earlier (stands earlier before)
        | inr (inl here) ↦ stands_first s earlier (command_verdict d (accepted d earlier) s) refl here
        | inr (inr none) ↦ absurd none
      ]

pub accepted_stands : (c : Config) (events : List Event) (k : ControlSection) → IsAccepted c events k → Stands c.delays (commands_of Ru c (arrivals_heard Ru [] events)) k
accepted_stands c events k h =
    let arrivals = arrivals_heard Ru [] events in
    let own : same_side h.story.side Ru ≡ true = ap (λ (s : Side). same_side s Ru) h.radio in
    let story : IsIn h.story (of_unit Ru (stories c events)) = in_filter (λ (s : Story). same_side s.side Ru) h.story (stories c events) h.told own in
    let judged : IsIn (Commanded k Accepted) (judged_of Ru c arrivals) =
    subst (λ (js : List Judgement). IsIn (Commanded k Accepted) js) (are_judged Ru c events)
    (in_some (Commanded k Accepted) (λ (s : Story). s.judged) h.story (of_unit Ru (stories c events)) story h.judged) in
    let commanded : IsIn (as_accepted k) (commanded_sections c.delays (commands_of Ru c arrivals)) =
    subst (λ (xs : List CommandedSection). IsIn (as_accepted k) xs) ((are_decoded Ru c arrivals).commanded)
    (in_some (as_accepted k) commanded_in (Commanded k Accepted) (judged_of Ru c arrivals) judged (inl refl)) in
    stands c.delays k (commands_of Ru c arrivals) commanded

-- ---- its claims

pub stays_claimed : (d : Delays) (cs : List ControlSection) (k : ControlSection) (cell : Cell) (re : ℕ) → Stands d cs k → re < 12 → names (allocation_of k) cell re ≡ true
    → claim_at (accepted d cs) cell re ≡ Some (claim_of (allocation_of k))
stays_claimed d cs k cell re h small named =
    let a = allocation_of k in
    let now : accepted d (k ∷ h.earlier) ≡ a ∷ accepted d h.earlier =
    accepted-cons d k h.earlier ∙ ap (λ (v : CommandVerdict). with_accepted v a (accepted d h.earlier)) h.verdict in
    let claimed : claim_at (accepted d (k ∷ h.earlier)) cell re ≡ Some (claim_of a) =
    ap (λ (xs : List Allocation). claim_at xs cell re) now ∙ named_claim a (accepted d h.earlier) cell re named in
    ap (λ (xs : List ControlSection). claim_at (accepted d xs) cell re) h.is ∙ claim_stays d h.later (k ∷ h.earlier) cell re (claim_of a) small claimed
