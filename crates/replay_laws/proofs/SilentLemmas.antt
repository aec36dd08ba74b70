-- A message of data that says nothing changes nothing but counters, and its fragments keep their places.
use Rattle.std.proofs.Common.{◌≡◌, ℕ, ℤ, ◌+◌, ◌≤ℤ◌, Bool, true, false, ◌||◌, List, [], ◌∷◌, ◌++◌, inl, inr, refl, sym, ap, ◌∙◌, subst, arith}
use Rattle.std.specs.Prelude.{◌==◌, if◌then◌else◌, Option, Some, None, length, nat_lt}
use Rattle.std.proofs.lemmas.Bool.{and_parts, eqb-true}
use Rattle.std.proofs.lemmas.Int.{ints}
use Rattle.air_source.specs.declared.events.Side.{Side}
use Rattle.ecpri_fragments.specs.Generations.{Fragment, Generation, begun, generations, generations_of, held_in, is_of, is_within, joined, of_id, start_in, with_fragment}
use Rattle.ecpri_fragments.specs.Verdicts.{answer, is_stray, is_whole, refused, size, standing, standing_before, stands, verdict, verdict_on, with_one, whole_of}
use Rattle.ecpri_fragments.specs.declared.verdict.Verdict.{Verdict}
use Rattle.ecpri_fragments.specs.declared.verdict.Verdict.TheVariants as fragment
use Rattle.ecpri_fragments.proofs.Steps.{whole_placed}
use Rattle.fault_counters.specs.declared.kinds.Counter.{Counter}
use Rattle.window_config.specs.declared.endpoints.EndpointConfig.{EndpointConfig}
use Rattle.unit_model.specs.Decoding.{Backwards, Decoded, Refused, Sections, data_now, data_sections, data_told, decoded_now}
use Rattle.unit_model.specs.Meetings.{Meeting, Ignored, Commands, Piece, commands, fragments}
use Rattle.fh_base.specs.Lists.{onto}
use Rattle.unit_model.specs.declared.decoded.ControlSection.{ControlSection}
use Rattle.unit_model.specs.declared.decoded.UserSection.{UserSection}
use Rattle.unit_laws.proofs.ChangeLemmas.{either_way}
use Rattle.replay_laws.specs.Silent.{IsSilent, began}
use Rattle.replay_laws.proofs.FallingLemmas.{AreFalling}
use Rattle.ecpri_fragments.proofs.Ids.{same_id}
use Rattle.ecpri_fragments.specs.declared.place.TheConstants.{MESSAGE_BYTES}

-- ---- times

within_by : (hold start at top : ℤ) → at ≤ℤ top → is_within hold start top ≡ true → is_within hold start at ≡ true
within_by hold start at top order h = grind (arith, ints)

pub past_by : (hold start low at : ℤ) → low ≤ℤ at → is_within hold start low ≡ false → is_within hold start at ≡ false
past_by hold start low at order h = grind (arith, ints)

-- ---- a whole message keeps its generation to itself

-- the last generation began then, and a complete message is stored in it
abbrev pub IsKept : ℤ → List Generation → Type 0
IsKept start [] = ⊥
IsKept start (g ∷ gs) = (g.start ≡ start) × (is_whole (standing g.held) ≡ true)

-- what is received where a complete message is stored is a repeat
repeats : (s : List Fragment) (a : Fragment) → is_whole s ≡ true → refused s a ≡ Some fragment.Repeat
repeats s a whole =
    ap (λ (w : Bool). if w || stands s a.sub then Some fragment.Repeat else if is_stray s a then Some fragment.Stray
    else if nat_lt MESSAGE_BYTES (size s + length a.bytes) then Some fragment.TooLong else None) whole

kept_begins : (hold : ℤ) (f : Fragment) (gs : List Generation) → verdict (standing (held_in hold f.at gs)) f ≡ fragment.Whole
    → IsKept (start_in hold f.at gs) (with_fragment hold f gs)
kept_begins hold f [] whole = (refl, let w = whole_placed [] f whole in ap is_whole w.0 ∙ w.1)
kept_begins hold f (g ∷ gs) whole = go (is_within hold g.start f.at) whole
  where
    go : (w : Bool) → verdict (standing (if w then g.held else [])) f ≡ fragment.Whole
        → IsKept (if w then g.start else f.at) (if w then joined f g ∷ gs else begun f ∷ g ∷ gs)
    go true whole = (refl, let w = whole_placed (standing g.held) f whole in ap is_whole w.0 ∙ w.1)
    go false whole = (refl, let w = whole_placed [] f whole in ap is_whole w.0 ∙ w.1)

pub kept_on : (hold start : ℤ) (h : Fragment) (gs : List Generation) → is_within hold start h.at ≡ true → IsKept start gs → IsKept start (with_fragment hold h gs)
kept_on hold start h [] within kept = absurd kept
kept_on hold start h (g ∷ gs) within kept = go (is_within hold g.start h.at) (ap (λ (t : ℤ). is_within hold t h.at) kept.0 ∙ within)
  where
    go : (w : Bool) → w ≡ true → IsKept start (if w then joined h g ∷ gs else begun h ∷ g ∷ gs)
    go true is = (kept.0, ap (λ (o : Option Verdict). is_whole (with_one o h (standing g.held))) (repeats (standing g.held) h kept.1) ∙ kept.1)
    go false is = absurd cc

kept_repeats : (hold start : ℤ) (g : Fragment) (gs : List Generation) → is_within hold start g.at ≡ true → IsKept start gs
    → verdict (standing (held_in hold g.at gs)) g ≡ fragment.Repeat
kept_repeats hold start g [] within kept = absurd kept
kept_repeats hold start g (h ∷ gs) within kept = go (is_within hold h.start g.at) (ap (λ (t : ℤ). is_within hold t g.at) kept.0 ∙ within)
  where
    go : (w : Bool) → w ≡ true → verdict (standing (if w then h.held else [])) g ≡ fragment.Repeat
    go true is = ap (λ (o : Option Verdict). answer o (is_whole (g ∷ standing h.held))) (repeats (standing h.held) g kept.1)
    go false is = absurd cc

-- ---- one fragment more, by its endpoint and sequence id

pub own_more : (hold : ℤ) (ep seq : ℕ) (h : Fragment) (fs : List Fragment) → is_of ep seq h ≡ true
    → generations_of hold ep seq (h ∷ fs) ≡ with_fragment hold h (generations_of hold ep seq fs)
own_more hold ep seq h fs own = ap (λ (b : Bool). generations hold (if b then h ∷ of_id ep seq fs else of_id ep seq fs)) own

pub other_more : (hold : ℤ) (ep seq : ℕ) (h : Fragment) (fs : List Fragment) → is_of ep seq h ≡ false
    → generations_of hold ep seq (h ∷ fs) ≡ generations_of hold ep seq fs
other_more hold ep seq h fs other = ap (λ (b : Bool). generations hold (if b then h ∷ of_id ep seq fs else of_id ep seq fs)) other

pub kept_behind : (hold start top : ℤ) (ep seq : ℕ) (between ms : List Meeting) → is_within hold start top ≡ true → AreFalling top (fragments (between ++ ms))
    → IsKept start (generations_of hold ep seq (fragments ms)) → IsKept start (generations_of hold ep seq (fragments (between ++ ms)))
unfolding fragments
kept_behind hold start top ep seq [] ms within falling kept = kept
kept_behind hold start top ep seq (Ignored k ∷ between) ms within falling kept = kept_behind hold start top ep seq between ms within falling kept
kept_behind hold start top ep seq (Commands cs ∷ between) ms within falling kept = kept_behind hold start top ep seq between ms within falling kept
kept_behind hold start top ep seq (Piece e h ∷ between) ms within falling kept =
    let now = within_by hold start h.at top falling.0 within in
    let before = kept_behind hold start h.at ep seq between ms now falling.1 kept in
    elim (either_way (is_of ep seq h)) [
      | inl other ↦ subst (IsKept start) (sym (other_more hold ep seq h (fragments (between ++ ms)) other)) before
      | inr own ↦
          subst (IsKept start) (sym (own_more hold ep seq h (fragments (between ++ ms)) own))
          (kept_on hold start h (generations_of hold ep seq (fragments (between ++ ms))) now before)
    ]

-- a fragment that makes its message whole leaves it so
pub kept_now : (hold : ℤ) (f : Fragment) (earlier : List Fragment) → verdict_on hold f earlier ≡ fragment.Whole
    → IsKept (began hold f earlier) (generations_of hold f.ep f.seq (f ∷ earlier))
kept_now hold f earlier whole =
    subst (IsKept (began hold f earlier)) (sym (own_more hold f.ep f.seq f earlier (same_id f))) (kept_begins hold f (generations_of hold f.ep f.seq earlier) whole)

-- the generation of a fragment with this id
pub repeat_on : (hold start : ℤ) (ep seq : ℕ) (g : Fragment) (fs : List Fragment) → is_of ep seq g ≡ true → is_within hold start g.at ≡ true
    → IsKept start (generations_of hold ep seq fs) → verdict_on hold g fs ≡ fragment.Repeat
repeat_on hold start ep seq g fs own within kept =
    let same = and_parts (g.ep == ep) (g.seq == seq) own in
    kept_repeats hold start g (generations_of hold g.ep g.seq fs) within
    (subst (λ (s : ℕ). IsKept start (generations_of hold g.ep s fs)) (sym (eqb-true g.seq seq same.1))
    (subst (λ (p : ℕ). IsKept start (generations_of hold p seq fs)) (sym (eqb-true g.ep ep same.0)) kept))

-- ---- a message that says nothing

pub silent_told : (o : Option Decoded) → IsSilent o → data_told o ≡ []
silent_told None h = absurd h
silent_told (Some Refused) h = refl
silent_told (Some Backwards) h = refl
silent_told (Some (Sections [])) h = refl
silent_told (Some (Sections (d ∷ ds))) h = absurd h

silent_whole : (side : Side) (v : Verdict) (e : EndpointConfig) (f : Fragment) (stood : List Fragment) → IsSilent (decoded_now side e f (whole_of v f stood)) → v ≡ fragment.Whole
silent_whole side fragment.Stored e f stood h = absurd h
silent_whole side fragment.Whole e f stood h = refl
silent_whole side fragment.Repeat e f stood h = absurd h
silent_whole side fragment.Stray e f stood h = absurd h
silent_whole side fragment.TooLong e f stood h = absurd h

pub is_then_whole : (side : Side) (hold : ℤ) (e : EndpointConfig) (f : Fragment) (earlier : List Fragment) → IsSilent (data_now side hold e f earlier)
    → verdict_on hold f earlier ≡ fragment.Whole
is_then_whole side hold e f earlier silent = silent_whole side (verdict_on hold f earlier) e f (standing_before hold f earlier) silent

pub none_now : (side : Side) (hold : ℤ) (e : EndpointConfig) (f : Fragment) (earlier : List Meeting) → IsSilent (data_now side hold e f (fragments earlier))
    → data_sections side hold (Piece e f ∷ earlier) ≡ data_sections side hold earlier
unfolding data_sections
none_now side hold e f earlier silent =
    ap (λ (xs : List UserSection). xs ++ data_sections side hold earlier) (silent_told (data_now side hold e f (fragments earlier)) silent)

-- a fragment is no command
pub commands_skip : (later : List Meeting) (e : EndpointConfig) (f : Fragment) (earlier : List Meeting) → commands (later ++ earlier) ≡ commands (later ++ Piece e f ∷ earlier)
unfolding commands
commands_skip [] e f earlier = refl
commands_skip (Ignored k ∷ later) e f earlier = commands_skip later e f earlier
commands_skip (Commands cs ∷ later) e f earlier = ap (λ (xs : List ControlSection). onto xs cs) (commands_skip later e f earlier)
commands_skip (Piece d g ∷ later) e f earlier = commands_skip later e f earlier

-- what is counted is no fragment
pub counted_skip : (later : List Meeting) (k : Counter) (earlier : List Meeting) → fragments (later ++ earlier) ≡ fragments (later ++ Ignored k ∷ earlier)
unfolding fragments
counted_skip [] k earlier = refl
counted_skip (Ignored j ∷ later) k earlier = counted_skip later k earlier
counted_skip (Commands cs ∷ later) k earlier = counted_skip later k earlier
counted_skip (Piece d g ∷ later) k earlier = ap (λ (xs : List Fragment). g ∷ xs) (counted_skip later k earlier)
