-- A message of data that says nothing, and what is received later within its generation, may as well not have been received.
use Rattle.std.proofs.Common.{◌≡◌, ℕ, ℤ, pos, ◌+ℤ◌, ◌-ℤ◌, ◌≤ℤ◌, Bool, true, false, ◌&&◌, List, [], ◌∷◌, ◌++◌, ◌⊎◌, inl, inr, refl, sym, ap, ap₂, ◌∙◌, subst}
use Rattle.std.specs.Prelude.{◌==◌, if◌then◌else◌}
use Rattle.std.proofs.lemmas.Bool.{and_parts, eqb-true}
use Rattle.air_source.specs.declared.events.Side.{Side}
use Rattle.ecpri_fragments.specs.Generations.{Fragment, Generation, begins, begun, generations_of, held_in, is_of, is_within, joined, start_in, with_fragment}
use Rattle.ecpri_fragments.specs.Verdicts.{standing, standing_before, verdict, whole_of}
use Rattle.ecpri_fragments.specs.declared.verdict.Verdict.{Verdict}
use Rattle.window_config.specs.declared.config.Config.{Config}
use Rattle.window_config.specs.declared.endpoints.EndpointConfig.{EndpointConfig}
use Rattle.unit_model.specs.Decoding.{data_now, data_sections, data_told, decoded_now}
use Rattle.fh_base.specs.Lists.{onto}
use Rattle.unit_model.specs.Meetings.{Arrival, Meeting, Ignored, Commands, Piece, commands, fragments}
use Rattle.unit_model.specs.Reports.{hold_of, met}
use Rattle.unit_model.specs.Standing.{AreInTime}
use Rattle.unit_model.specs.declared.decoded.ControlSection.{ControlSection}
use Rattle.unit_model.specs.declared.decoded.UserSection.{UserSection}
use Rattle.unit_laws.proofs.ChangeLemmas.{either_way}
use Rattle.replay_laws.specs.Moments.{all_arrivals, end_of_time}
use Rattle.replay_laws.proofs.CameLemmas.{arrivals_in_time}
use Rattle.replay_laws.specs.Silent.{EachSilentChangesNothing, IsSilent, SilentChangesNothing, began, is_with, without}
use Rattle.replay_laws.proofs.FallingLemmas.{AreFalling, falling_behind, met_falling}
use Rattle.replay_laws.proofs.RefusedLemmas.{AreAlike, alike_more, alike_standing}
use Rattle.replay_laws.proofs.SilentLemmas.{IsKept, commands_skip, counted_skip, is_then_whole, kept_behind, kept_now, kept_on, none_now, other_more, own_more, past_by, repeat_on}
use Rattle.fh_base.proofs.Orders.{at_most}
use Rattle.ecpri_fragments.proofs.Ids.{same_id}

-- ---- of one endpoint and sequence id

of_same_id : (f h : Fragment) → is_of f.ep f.seq h ≡ true → (P : ℕ → ℕ → Type 0) → P f.ep f.seq → P h.ep h.seq
of_same_id f h is P p =
    let same = and_parts (h.ep == f.ep) (h.seq == f.seq) is in
    subst (λ (s : ℕ). P h.ep s) (sym (eqb-true h.seq f.seq same.1)) (subst (λ (k : ℕ). P k f.seq) (sym (eqb-true h.ep f.ep same.0)) p)

not_turned : (h f : Fragment) → is_of f.ep f.seq h ≡ false → is_of h.ep h.seq f ≡ false
not_turned h f other = elim (either_way (is_of h.ep h.seq f)) [
  | inl is ↦ is
  | inr is ↦ absurd (differ (sym (of_same_id h f is (λ (ep seq : ℕ). is_of ep seq h ≡ true) (same_id h)) ∙ other))
]
  where
    differ : true ≡ false → ⊥
    differ h = cc

-- ---- a generation that begins

begins_new : (hold : ℤ) (h : Fragment) (gs : List Generation) → begins hold h.at gs ≡ true → (with_fragment hold h gs ≡ begun h ∷ gs) × (held_in hold h.at gs ≡ [])
begins_new hold h [] first = (refl, refl)
begins_new hold h (g ∷ gs) first = go (is_within hold g.start h.at) first
  where
    go : (w : Bool) → (if w then false else true) ≡ true
        → ((if w then joined h g ∷ gs else begun h ∷ g ∷ gs) ≡ begun h ∷ g ∷ gs) × ((let held : List Fragment = if w then g.held else [] in held) ≡ [])
    go true first = absurd cc
    go false first = (refl, refl)

kept_over : (hold start at : ℤ) (gs : List Generation) → is_within hold start at ≡ false → IsKept start gs → begins hold at gs ≡ true
kept_over hold start at [] past kept = absurd kept
kept_over hold start at (g ∷ gs) past kept =
    ap (λ (t : ℤ). if is_within hold t at then false else true) kept.0 ∙ ap (λ (w : Bool). if w then false else true) past

-- what is received after a fragment and past its generation begins another, whether the fragment was received or not
over_without : (hold from at : ℤ) (gs : List Generation) → from ≤ℤ at → is_within hold (start_in hold from gs) at ≡ false → begins hold at gs ≡ true
over_without hold from at [] order past = refl
over_without hold from at (g ∷ gs) order past = ap (λ (w : Bool). if w then false else true) (go (is_within hold g.start from) refl past)
  where
    go : (w : Bool) → is_within hold g.start from ≡ w → is_within hold (if w then g.start else from) at ≡ false → is_within hold g.start at ≡ false
    go true is past = past
    go false is past = past_by hold g.start from at order is

-- ---- what was received of the message's endpoint and sequence id, with its last fragment and without

-- all that was received later fell in its generation; or something was received past it, and since then no fragment can tell the two apart
record IsWaiting (hold start from : ℤ) (gs hs : List Generation) : Type 0 where
  kept : IsKept start gs
  over : (at : ℤ) → from ≤ℤ at → is_within hold start at ≡ false → begins hold at hs ≡ true

record IsPast (hold start clock : ℤ) (gs hs : List Generation) : Type 0 where
  when : ℤ
  come : when ≤ℤ clock
  past : is_within hold start when ≡ false
  alike : AreAlike gs hs

abbrev AreOwn : ℤ → ℤ → ℤ → ℤ → List Generation → List Generation → Type 0
AreOwn hold start from clock gs hs = IsWaiting hold start from gs hs ⊎ IsPast hold start clock gs hs

own_later : (hold start from clock later : ℤ) (gs hs : List Generation) → clock ≤ℤ later → AreOwn hold start from clock gs hs → AreOwn hold start from later gs hs
own_later hold start from clock later gs hs order (inl w) = inl w
own_later hold start from clock later gs hs order (inr p) = inr (record { when = p.when; come = at_most p.when clock later p.come order; past = p.past; alike = p.alike })

-- a fragment past the generation: the same is stored before it, and no later one can tell the two apart
record AreMet (hold : ℤ) (h : Fragment) (gs hs : List Generation) : Type 0 where
  alike : AreAlike (with_fragment hold h gs) (with_fragment hold h hs)
  stood : standing (held_in hold h.at gs) ≡ standing (held_in hold h.at hs)

past_met : (hold start from clock : ℤ) (h : Fragment) (gs hs : List Generation) → from ≤ℤ h.at → is_within hold start h.at ≡ false
    → AreOwn hold start from clock gs hs → AreMet hold h gs hs
past_met hold start from clock h gs hs order past (inr p) =
    record { alike = alike_more hold h gs hs p.alike; stood = alike_standing hold h.at gs hs p.alike }
past_met hold start from clock h gs hs order past (inl w) =
    let with = begins_new hold h gs (kept_over hold start h.at gs past w.kept) in
    let but = begins_new hold h hs (w.over h.at order past) in
    record {
      alike =
          subst (λ (xs : List Generation). AreAlike xs (with_fragment hold h hs)) (sym with.0)
          (subst (λ (xs : List Generation). AreAlike (begun h ∷ gs) xs) (sym but.0) (refl, refl));
      stood = ap standing (with.1 ∙ sym but.1);
    }

-- ---- all that was received

-- a fragment tells the same where the same is stored before it
told_same : (side : Side) (hold : ℤ) (e : EndpointConfig) (h : Fragment) (fs gs : List Fragment) → standing_before hold h fs ≡ standing_before hold h gs
    → data_told (data_now side hold e h fs) ≡ data_told (data_now side hold e h gs)
told_same side hold e h fs gs same = ap (λ (s : List Fragment). data_told (decoded_now side e h (whole_of (verdict s h) h s))) same

module _ (side : Side) (hold : ℤ) (e : EndpointConfig) (f : Fragment) (earlier : List Meeting) (silent : IsSilent (data_now side hold e f (fragments earlier))) where
  abbrev start : ℤ
  start = began hold f (fragments earlier)

  abbrev those : Fragment → Bool
  those = is_with hold f (fragments earlier)

  abbrev own_of : List Meeting → List Generation
  own_of ms = generations_of hold f.ep f.seq (fragments ms)

  -- with it and without
  record AreSame (clock : ℤ) (ms ns : List Meeting) : Type 0 where
    told : data_sections side hold ms ≡ data_sections side hold ns
    own : AreOwn hold start f.at clock (own_of ms) (own_of ns)
    others : (ep seq : ℕ) → is_of ep seq f ≡ false → generations_of hold ep seq (fragments ms) ≡ generations_of hold ep seq (fragments ns)

  same_at_once : (clock : ℤ) → AreSame clock (Piece e f ∷ earlier) earlier
  unfolding fragments
  same_at_once clock = record {
    told = none_now side hold e f earlier silent;
    own = inl (record {
      kept = kept_now hold f (fragments earlier) (is_then_whole side hold e f (fragments earlier) silent);
      over = λ at order past. over_without hold f.at at (own_of earlier) order past;
    });
    others = λ ep seq other. other_more hold ep seq f (fragments earlier) other;
  }

  others_more : (ep seq : ℕ) (h : Fragment) (fs gs : List Fragment) → generations_of hold ep seq fs ≡ generations_of hold ep seq gs
      → generations_of hold ep seq (h ∷ fs) ≡ generations_of hold ep seq (h ∷ gs)
  others_more ep seq h fs gs same = elim (either_way (is_of ep seq h)) [
    | inl other ↦ other_more hold ep seq h fs other ∙ same ∙ sym (other_more hold ep seq h gs other)
    | inr own ↦ own_more hold ep seq h fs own ∙ ap (with_fragment hold h) same ∙ sym (own_more hold ep seq h gs own)
  ]

  -- one of another endpoint or sequence id
  one_other : (clock : ℤ) (d : EndpointConfig) (h : Fragment) (ms ns : List Meeting) → h.at ≤ℤ clock → is_of f.ep f.seq h ≡ false → AreSame h.at ms ns
      → AreSame clock (Piece d h ∷ ms) (Piece d h ∷ ns)
  unfolding fragments data_sections
  one_other clock d h ms ns order other same = record {
    told =
        ap₂ (λ (xs ys : List UserSection). xs ++ ys)
        (told_same side hold d h (fragments ms) (fragments ns)
        (ap (λ (gs : List Generation). standing (held_in hold h.at gs)) (same.others h.ep h.seq (not_turned h f other)))) same.told;
    own =
        subst (λ (gs : List Generation). AreOwn hold start f.at clock gs (own_of (Piece d h ∷ ns))) (sym (other_more hold f.ep f.seq h (fragments ms) other))
        (subst (λ (hs : List Generation). AreOwn hold start f.at clock (own_of ms) hs) (sym (other_more hold f.ep f.seq h (fragments ns) other))
        (own_later hold start f.at h.at clock (own_of ms) (own_of ns) order same.own));
    others = λ ep seq apart. others_more ep seq h (fragments ms) (fragments ns) (same.others ep seq apart);
  }

  -- one past the generation
  one_past : (clock : ℤ) (d : EndpointConfig) (h : Fragment) (ms ns : List Meeting) → h.at ≤ℤ clock → f.at ≤ℤ h.at → is_of f.ep f.seq h ≡ true
      → is_within hold start h.at ≡ false → AreSame h.at ms ns → AreSame clock (Piece d h ∷ ms) (Piece d h ∷ ns)
  unfolding fragments data_sections
  one_past clock d h ms ns order behind is past same =
      let m = past_met hold start f.at h.at h (own_of ms) (own_of ns) behind past same.own in
      record {
        told =
            ap₂ (λ (xs ys : List UserSection). xs ++ ys)
            (told_same side hold d h (fragments ms) (fragments ns) (of_same_id f h is (λ (ep seq : ℕ). standing (held_in hold h.at (generations_of hold ep seq (fragments ms)))
            ≡ standing (held_in hold h.at (generations_of hold ep seq (fragments ns)))) m.stood)) same.told;
        own = inr (record {
          when = h.at;
          come = order;
          past = past;
          alike =
              subst (λ (gs : List Generation). AreAlike gs (own_of (Piece d h ∷ ns))) (sym (own_more hold f.ep f.seq h (fragments ms) is))
              (subst (λ (hs : List Generation). AreAlike (with_fragment hold h (own_of ms)) hs) (sym (own_more hold f.ep f.seq h (fragments ns) is)) m.alike);
        });
        others = λ ep seq apart. others_more ep seq h (fragments ms) (fragments ns) (same.others ep seq apart);
      }

  waiting_still : (clock : ℤ) (gs hs : List Generation) → is_within hold start clock ≡ true → AreOwn hold start f.at clock gs hs → IsWaiting hold start f.at gs hs
  waiting_still clock gs hs within (inl w) = w
  waiting_still clock gs hs within (inr p) = absurd (differ (sym within ∙ past_by hold start p.when clock p.come p.past))
    where
      differ : true ≡ false → ⊥
      differ h = cc

  -- one within it
  one_within : (clock : ℤ) (d : EndpointConfig) (h : Fragment) (ms ns : List Meeting) → is_of f.ep f.seq h ≡ true → is_within hold start h.at ≡ true
      → AreSame h.at ms ns → AreSame clock (Piece d h ∷ ms) ns
  unfolding fragments data_sections
  one_within clock d h ms ns is within same =
      let w = waiting_still h.at (own_of ms) (own_of ns) within same.own in
      record {
        told =
            ap (λ (v : Verdict). data_told (decoded_now side d h (whole_of v h (standing_before hold h (fragments ms)))) ++ data_sections side hold ms)
            (repeat_on hold start f.ep f.seq h (fragments ms) is within w.kept)
            ∙ same.told;
        own = inl (record {
          kept = subst (IsKept start) (sym (own_more hold f.ep f.seq h (fragments ms) is)) (kept_on hold start h (own_of ms) within w.kept);
          over = w.over;
        });
        others = λ ep seq apart. other_more hold ep seq h (fragments ms) (of_same_id f h is (λ (p s : ℕ). is_of ep seq (let x : Fragment = record h { ep = p; seq = s } in x) ≡ false) apart) ∙ same.others ep seq apart;
      }

  all_same : (clock : ℤ) (later : List Meeting) → AreFalling clock (fragments (later ++ Piece e f ∷ earlier))
      → AreSame clock (later ++ Piece e f ∷ earlier) (without those later ++ earlier)
  unfolding fragments data_sections
  all_same clock [] falling = same_at_once clock
  all_same clock (Ignored k ∷ later) falling =
      let same = all_same clock later falling in record { told = same.told; own = same.own; others = same.others }
  all_same clock (Commands cs ∷ later) falling =
      let same = all_same clock later falling in record { told = same.told; own = same.own; others = same.others }
  all_same clock (Piece d h ∷ later) falling = go (those h) refl (all_same h.at later falling.1)
    where
      behind : f.at ≤ℤ h.at
      behind = (falling_behind h.at later (Piece e f ∷ earlier) falling.1).0

      go : (b : Bool) → those h ≡ b → AreSame h.at (later ++ Piece e f ∷ earlier) (without those later ++ earlier)
          → AreSame clock (Piece d h ∷ (later ++ Piece e f ∷ earlier)) ((if b then without those later else Piece d h ∷ without those later) ++ earlier)
      go true is same =
          let parts = and_parts (is_of f.ep f.seq h) (is_within hold start h.at) is in
          one_within clock d h (later ++ Piece e f ∷ earlier) (without those later ++ earlier) parts.0 parts.1 same
      go false is same = elim (either_way (is_of f.ep f.seq h)) [
        | inl other ↦ one_other clock d h (later ++ Piece e f ∷ earlier) (without those later ++ earlier) falling.0 other same
        | inr own ↦
            one_past clock d h (later ++ Piece e f ∷ earlier) (without those later ++ earlier) falling.0 behind own (sym (ap (λ (b : Bool). b && is_within hold start h.at) own) ∙ is) same
      ]

-- commands are left as they are
commands_but : (some : Fragment → Bool) (later : List Meeting) (e : EndpointConfig) (f : Fragment) (earlier : List Meeting)
    → commands (without some later ++ earlier) ≡ commands (later ++ Piece e f ∷ earlier)
unfolding commands
commands_but some [] e f earlier = refl
commands_but some (Ignored k ∷ later) e f earlier = commands_but some later e f earlier
commands_but some (Commands cs ∷ later) e f earlier = ap (λ (xs : List ControlSection). onto xs cs) (commands_but some later e f earlier)
commands_but some (Piece d h ∷ later) e f earlier = go (some h) (commands_but some later e f earlier)
  where
    go : (b : Bool) → commands (without some later ++ earlier) ≡ commands (later ++ Piece e f ∷ earlier)
        → commands ((if b then without some later else Piece d h ∷ without some later) ++ earlier) ≡ commands (later ++ Piece e f ∷ earlier)
    go true same = same
    go false same = same

-- ---- the law

pub silent_changes_nothing : (side : Side) (c : Config) (clock : ℤ) (arrivals : List Arrival) → AreInTime clock arrivals → SilentChangesNothing side c arrivals
unfolding fragments
silent_changes_nothing side c clock arrivals came = record {
  silent_rests = λ later e f earlier parts silent. (
    commands_but (is_with hold f (fragments earlier)) later e f earlier ∙ ap commands (sym parts),
    (sym (all_same side hold e f earlier silent clock later (subst (λ (ms : List Meeting). AreFalling clock (fragments ms)) parts falling)).told)
        ∙ ap (data_sections side hold) (sym parts),
  );
  none_told = λ later e f earlier parts silent.
      (commands_skip later e f earlier ∙ ap commands (sym parts), none_now side hold e f earlier silent, is_then_whole side hold e f (fragments earlier) silent);
  places_kept = λ later d g between e f earlier parts whole is.
      let now = falling_behind clock later (Piece d g ∷ (between ++ Piece e f ∷ earlier)) (subst (λ (ms : List Meeting). AreFalling clock (fragments ms)) parts falling) in
      let within = and_parts (is_of f.ep f.seq g) (is_within hold (began hold f (fragments earlier)) g.at) is in
      repeat_on hold (began hold f (fragments earlier)) f.ep f.seq g (fragments (between ++ Piece e f ∷ earlier)) within.0 within.1
      (kept_behind hold (began hold f (fragments earlier)) g.at f.ep f.seq between (Piece e f ∷ earlier) within.1 now.1 (kept_now hold f (fragments earlier) whole));
  counted_begins_none = λ later k earlier parts. counted_skip later k earlier ∙ ap fragments (sym parts);
}
  where
    hold : ℤ
    hold = hold_of side c.delays

    falling : AreFalling clock (fragments (met side c arrivals))
    falling = met_falling side c.endpoints clock arrivals came

pub each_silent_changes_nothing : EachSilentChangesNothing
each_silent_changes_nothing side c landings are =
    let end = end_of_time +ℤ pos 1 in
    silent_changes_nothing side c (end -ℤ pos 1) (all_arrivals landings) (arrivals_in_time landings end are).0
