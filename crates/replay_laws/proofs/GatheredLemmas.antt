-- The message that gave a cell its samples: where it became complete, and its fragments.
use Rattle.std.proofs.Common.{◌≡◌, ℕ, ℤ, pos, ◌+◌, ◌+ℤ◌, ◌-ℤ◌, ◌≤◌, ◌≤ℤ◌, Bool, true, false, List, [], ◌∷◌, ◌++◌, inl, inr, refl, sym, ap, ◌∙◌, subst, arith, length}
use Rattle.std.specs.Prelude.{◌==◌, if◌then◌else◌, All, Contains, Option, Some, None, map, slice_get}
use Rattle.std.proofs.lemmas.Bool.{and_parts, eqb-true}
use Rattle.std.proofs.lemmas.Int.{ints}
use Rattle.std.proofs.lemmas.List.{append_assoc}
use Rattle.std.proofs.lemmas.List.Elements.{All-nil, All-cons, All-contains, All-contains_itself, All-weaker, Contains-append_cases}
use Rattle.std.proofs.lemmas.Option.{same_Some}
use Rattle.std.specs.Int.Signed.{≤ℤ_refl}
use Rattle.fh_base.specs.Numbering.{shape_of}
use Rattle.bfp_codec.specs.declared.samples.Wide.{Wide}
use Rattle.air_source.specs.declared.events.Side.{Side}
use Rattle.air_source.specs.declared.events.Side.TheVariants.{Ru, Du}
use Rattle.ecpri_fragments.specs.Generations.{Fragment, is_of, seen}
use Rattle.ecpri_fragments.specs.Verdicts.{Message, end_of, first_of, has_greater, is_whole, message, piece_at, pieces_below, pieces_to, placed, standing, standing_before, verdict_on, whole_of, whole_now}
use Rattle.ecpri_fragments.specs.declared.verdict.Verdict.{Verdict}
use Rattle.ecpri_fragments.specs.declared.verdict.Verdict.TheVariants as fragment
use Rattle.ecpri_fragments.proofs.Ends.{none_beyond}
use Rattle.ecpri_fragments.proofs.Steps.{whole_placed}
use Rattle.uplane_sections.specs.declared.values.UHead.{UHead}
use Rattle.uplane_sections.specs.declared.values.URefusal.{URefusal}
use Rattle.uplane_sections.specs.Messages.{told}
use Rattle.window_config.specs.declared.config.Config.{Config}
use Rattle.window_config.specs.declared.delays.Delays.{Delays}
use Rattle.window_config.specs.declared.endpoints.EndpointConfig.{EndpointConfig}
use Rattle.unit_model.specs.Decoding.{Backwards, Decoded, Gathering, SectionBlocks, Refused, Sections, data_now, data_sections, data_told, data_with, decode, decode_message, decoded_from, decoded_now, decoded_with, gathered as all_gathered, has_way, nothing_told, sections_of}
use Rattle.unit_model.specs.Meetings.{Arrival, Meeting, Ignored, Commands, Piece, fragments}
use Rattle.unit_model.specs.Reports.{hold_of, met}
use Rattle.unit_model.specs.Standing.{AreInTime}
use Rattle.unit_model.specs.declared.decoded.UserSection.{UserSection}
use Rattle.replay_laws.specs.Events.{events}
use Rattle.unit_model.specs.Heard.{cells_heard}
use Rattle.replay_laws.specs.Moments.{all_arrivals, end_of_time}
use Rattle.replay_laws.specs.Traffic.{landings_at}
use Rattle.replay_laws.proofs.CameLemmas.{arrivals_in_time}
use Rattle.replay_laws.specs.Gathered.{CameThen, EachIsGathered, GaveGathered, IsGathered, IsPieceInTime, ShownAreGathered, fragments_gathered}
use Rattle.replay_laws.specs.Shown.{IsInTime, IsInWindow}
use Rattle.replay_laws.proofs.FallingLemmas.{AreFalling, falling_behind, met_falling}
use Rattle.replay_laws.proofs.GivenLemmas.{first_inside, later_inside}
use Rattle.replay_laws.proofs.ShownLemmas.{landings_of_side, shown_only_in_time}
use Rattle.replay_laws.proofs.StandingLemmas.{EndsWith, all_up_to, are_of_id, are_pieces, ends_with, first_there, has_fragment, length-pieces, none_after, none_before, piece_of, stood_falls}
use Rattle.ecpri_fragments.proofs.Standing.{all_seen, all_standing, ids_kept}
use Rattle.ecpri_fragments.proofs.Ids.{same_id}
use Rattle.ecpri_fragments.specs.Pieces.{joined}

-- ---- what told a section of data

record IsTold (side : Side) (hold : ℤ) (all : List Meeting) (x : UserSection) : Type 0 where
  later : List Meeting
  endpoint : EndpointConfig
  fragment : Fragment
  earlier : List Meeting
  came : all ≡ later ++ Piece endpoint fragment ∷ earlier
  message : Message
  whole : whole_now hold fragment (fragments earlier) ≡ Some message
  sections : List UserSection
  decoded : decode_message side fragment.ep endpoint message ≡ Sections sections
  there : Contains sections x

nothing_inside : {A : Type 0} (x : A) → Contains (let none : List A = [] in none) x → ⊥
nothing_inside x h = let lt = h.1 in omega (arith, lt)

told_here : (side : Side) (hold : ℤ) (all later : List Meeting) (e : EndpointConfig) (f : Fragment) (earlier : List Meeting) (x : UserSection) → all ≡ later ++ Piece e f ∷ earlier
    → Contains (data_told (data_now side hold e f (fragments earlier))) x → IsTold side hold all x
told_here side hold all later e f earlier x came inside = go (whole_now hold f (fragments earlier)) refl inside
  where
    said : (m : Message) → whole_now hold f (fragments earlier) ≡ Some m → (d : Decoded) → decode_message side f.ep e m ≡ d → Contains (sections_of d) x → IsTold side hold all x
    said m whole Refused is inside = absurd (nothing_inside x inside)
    said m whole Backwards is inside = absurd (nothing_inside x inside)
    said m whole (Sections ds) is inside = record {
      later = later;
      endpoint = e;
      fragment = f;
      earlier = earlier;
      came = came;
      message = m;
      whole = whole;
      sections = ds;
      decoded = is;
      there = inside;
    }

    go : (o : Option Message) → whole_now hold f (fragments earlier) ≡ o → Contains (data_told (decoded_now side e f o)) x → IsTold side hold all x
    go None is inside = absurd (nothing_inside x inside)
    go (Some m) is inside = said m is (decode_message side f.ep e m) refl inside

found_in : (side : Side) (hold : ℤ) (all later ms : List Meeting) (x : UserSection) → all ≡ later ++ ms → Contains (data_sections side hold ms) x → IsTold side hold all x
unfolding data_sections
found_in side hold all later [] x parts inside = absurd (nothing_inside x inside)
found_in side hold all later (Ignored k ∷ earlier) x parts inside =
    found_in side hold all (later ++ Ignored k ∷ []) earlier x (parts ∙ sym (append_assoc later (Ignored k ∷ []) earlier)) inside
found_in side hold all later (Commands cs ∷ earlier) x parts inside =
    found_in side hold all (later ++ Commands cs ∷ []) earlier x (parts ∙ sym (append_assoc later (Commands cs ∷ []) earlier)) inside
found_in side hold all later (Piece e f ∷ earlier) x parts inside =
    elim (Contains-append_cases (data_told (data_now side hold e f (fragments earlier))) (data_sections side hold earlier) x inside) [
      | inl here ↦ told_here side hold all later e f earlier x parts here
      | inr before ↦ found_in side hold all (later ++ Piece e f ∷ []) earlier x (parts ∙ sym (append_assoc later (Piece e f ∷ []) earlier)) before
    ]

-- ---- a section has the times of its message

record HasTimes (ep : ℕ) (first last : ℤ) (x : UserSection) : Type 0 where
  ep_is : x.ep ≡ ep
  first_is : x.first.0 ≡ first
  last_is : x.last.0 ≡ last

module _ (side : Side) (ep : ℕ) (e : EndpointConfig) (first last : ℤ) where
  parts_times : (head : UHead) (ps : List SectionBlocks) → All (HasTimes ep first last) (map (data_with ep e first last head) ps)
  parts_times head [] = All-nil (HasTimes ep first last)
  parts_times head (p ∷ ps) =
      All-cons (HasTimes ep first last) (data_with ep e first last head p) (map (data_with ep e first last head) ps)
      (record { ep_is = refl; first_is = refl; last_is = refl }) (parts_times head ps)

  way_times : (ds : List UserSection) (way : Bool) → All (HasTimes ep first last) ds → All (HasTimes ep first last) (sections_of (if way then Sections ds else Backwards))
  way_times ds true h = h
  way_times ds false h = All-nil (HasTimes ep first last)

  head_times : (ps : List SectionBlocks) (o : Option UHead) → All (HasTimes ep first last) (sections_of (decoded_with side ep e first last ps o))
  head_times ps None = All-nil (HasTimes ep first last)
  head_times ps (Some head) = way_times (map (data_with ep e first last head) ps) (has_way side head) (parts_times head ps)

  told_times : (g : Gathering) (r : Option URefusal) → All (HasTimes ep first last) (sections_of (decoded_from side ep e first last g r))
  told_times g (Some r) = All-nil (HasTimes ep first last)
  told_times g None = head_times g.parts g.head

  decode_times : (bytes : List ℕ) → All (HasTimes ep first last) (sections_of (decode side ep e first last bytes))
  unfolding decode
  decode_times bytes =
      told_times (all_gathered nothing_told (told e.format e.prbs (shape_of e.numerology) bytes).items) (told e.format e.prbs (shape_of e.numerology) bytes).refusal

-- ---- the message that a fragment makes whole

whole_is : (v : Verdict) (f : Fragment) (stood : List Fragment) (m : Message) → whole_of v f stood ≡ Some m → (v ≡ fragment.Whole) × (m ≡ message (f ∷ stood))
whole_is fragment.Stored f stood m h = absurd cc
whole_is fragment.Whole f stood m h = (refl, sym (same_Some (message (f ∷ stood)) m h))
whole_is fragment.Repeat f stood m h = absurd cc
whole_is fragment.Stray f stood m h = absurd cc
whole_is fragment.TooLong f stood m h = absurd cc

-- ---- within a window

within_window : (side : Side) (d : Delays) (first last at start : ℤ) → first ≤ℤ at → at ≤ℤ last → IsInWindow side d first last start → IsInWindow side d at at start
within_window Ru d first last at start from to is =
    let soon = is.soon_enough in
    let late = is.late_enough in
    record { soon_enough = omega (arith, ints, soon, to); late_enough = omega (arith, ints, late, from) }
within_window Du d first last at start from to is =
    let soon = is.soon_enough in
    let late = is.late_enough in
    record { soon_enough = omega (arith, ints, soon, to); late_enough = omega (arith, ints, late, from) }

-- ---- what was received

later_there : (later ms : List Meeting) (x : Fragment) → Contains (fragments ms) x → Contains (fragments (later ++ ms)) x
unfolding fragments
later_there [] ms x h = h
later_there (Ignored k ∷ later) ms x h = later_there later ms x h
later_there (Commands cs ∷ later) ms x h = later_there later ms x h
later_there (Piece e f ∷ later) ms x h = later_inside f x (fragments (later ++ ms)) (later_there later ms x h)

-- ---- the fragments of one message

module _ (side : Side) (c : Config) (arrivals : List Arrival) (clock : ℤ) (came : AreInTime clock arrivals) (part : UserSection) (start : ℤ)
    (window : IsInWindow side c.delays part.first.0 part.last.0 start) (t : IsTold side (hold_of side c.delays) (met side c arrivals) part) where
  abbrev hold : ℤ
  hold = hold_of side c.delays

  abbrev f : Fragment
  f = t.fragment

  abbrev fs : List Fragment
  fs = fragments t.earlier

  abbrev stood : List Fragment
  stood = standing_before hold f fs

  abbrev its : List Fragment
  its = fragments_gathered hold f fs

  now_whole : (verdict_on hold f fs ≡ fragment.Whole) × (t.message ≡ message its)
  now_whole = whole_is (verdict_on hold f fs) f stood t.message t.whole

  all_placed : (placed stood f ≡ its) × (is_whole its ≡ true)
  all_placed = whole_placed stood f now_whole.0

  end : EndsWith its
  end = ends_with its all_placed.1

  pieces_are : t.message.pieces ≡ pieces_below its (end.fragment.sub + 1)
  pieces_are = ap (λ (m : Message). m.pieces) now_whole.1 ∙ ap (pieces_to its) end.end

  its_own : standing (f ∷ seen hold f fs) ≡ its
  its_own = all_placed.0

  none_above : All (λ x. x.sub ≤ end.fragment.sub) its
  none_above =
      let e = end.fragment.sub in
      all_up_to its e
      (subst (λ (s : List Fragment). has_greater s e ≡ false) its_own
      (none_beyond (f ∷ seen hold f fs) e (subst (λ (s : List Fragment). end_of s ≡ Some e) (sym its_own) end.end)))

  are_its_pieces : All (λ x. slice_get t.message.pieces x.sub ≡ Some x.bytes) its
  are_its_pieces =
      let e = end.fragment.sub in
      let P : Fragment → Type 0 = λ x. piece_at its x.sub ≡ Some x.bytes in
      let own : All P its = subst (λ (s : List Fragment). All (λ x. piece_at s x.sub ≡ Some x.bytes) s) its_own (are_pieces (f ∷ seen hold f fs)) in
      All-weaker (Contains its) (λ (x : Fragment). slice_get t.message.pieces x.sub ≡ Some x.bytes)
      (λ x inside.
      piece_of its t.message.pieces e pieces_are x (All-contains (λ (y : Fragment). y.sub ≤ e) its x none_above inside) (All-contains P its x own inside))
      its (All-contains_itself its)

  times : HasTimes f.ep t.message.first t.message.last part
  times =
      All-contains (HasTimes f.ep t.message.first t.message.last) t.sections part
      (subst (λ (d : Decoded). All (HasTimes f.ep t.message.first t.message.last) (sections_of d)) t.decoded
      (decode_times side f.ep t.endpoint t.message.first t.message.last (joined t.message.pieces))) t.there

  first_is : part.first.0 ≡ first_of its
  first_is = times.first_is ∙ ap (λ (m : Message). m.first) now_whole.1

  last_is : part.last.0 ≡ f.at
  last_is = times.last_is ∙ ap (λ (m : Message). m.last) now_whole.1

  falling : AreFalling f.at fs
  unfolding fragments
  falling =
      (falling_behind clock t.later (Piece t.endpoint f ∷ t.earlier)
      (subst (λ (ms : List Meeting). AreFalling clock (fragments ms)) t.came (met_falling side c.endpoints clock arrivals came))).1

  all_came : All (Contains (fragments (met side c arrivals))) its
  unfolding fragments
  all_came =
      let P = Contains (fragments (met side c arrivals)) in
      let now : (x : Fragment) → Contains (f ∷ fs) x → P x = λ x h.
      subst (λ (ms : List Meeting). Contains (fragments ms) x) (sym t.came) (later_there t.later (Piece t.endpoint f ∷ t.earlier) x h) in
      All-cons P f stood (now f (first_inside f fs))
      (all_standing P (seen hold f fs) (all_seen P hold f fs (ids_kept P f.ep f.seq fs
      (All-weaker (Contains fs) P (λ x h. now x (later_inside f x fs h)) fs (All-contains_itself fs)))))

  abbrev IsOwn : Fragment → Type 0
  IsOwn x = is_of f.ep f.seq x ≡ true

  all_own : All IsOwn its
  all_own = All-cons IsOwn f stood (same_id f) (all_standing IsOwn (seen hold f fs) (all_seen IsOwn hold f fs (are_of_id f.ep f.seq fs)))

  all_together : All (Contains (f ∷ seen hold f fs)) its
  all_together =
      let P = Contains (f ∷ seen hold f fs) in
      All-cons P f stood (first_inside f (seen hold f fs))
      (all_standing P (seen hold f fs)
      (All-weaker (Contains (seen hold f fs)) P (λ x h. later_inside f x (seen hold f fs) h) (seen hold f fs) (All-contains_itself (seen hold f fs))))

  stood_falling : AreFalling f.at its
  stood_falling = (≤ℤ_refl f.at, stood_falls hold f.at f fs falling)

  one_in_time : (x : Fragment) → Contains its x → IsPieceInTime side c arrivals f fs part start x
  one_in_time x inside =
      let own = and_parts (x.ep == f.ep) (x.seq == f.seq) (All-contains IsOwn its x all_own inside) in
      let from : part.first.0 ≤ℤ x.at =
      subst (λ (z : ℤ). z ≤ℤ x.at) (sym first_is)
      (All-contains (λ (y : Fragment). first_of its ≤ℤ y.at) its x (none_before f stood stood_falling.1) inside) in
      let to : x.at ≤ℤ part.last.0 =
      subst (λ (z : ℤ). x.at ≤ℤ z) (sym last_is) (All-contains (λ (y : Fragment). y.at ≤ℤ f.at) its x (none_after f.at its stood_falling) inside) in
      record {
        came = All-contains (Contains (fragments (met side c arrivals))) its x all_came inside;
        ep = eqb-true x.ep f.ep own.0 ∙ sym times.ep_is;
        seq = eqb-true x.seq f.seq own.1;
        together = All-contains (Contains (f ∷ seen hold f fs)) its x all_together inside;
        from = from;
        to = to;
        in_window = within_window side c.delays part.first.0 part.last.0 x.at start from to window;
      }

  is_gathered : IsGathered side c arrivals part start
  is_gathered = record {
    later = t.later;
    endpoint = t.endpoint;
    fragment = f;
    earlier = t.earlier;
    came = t.came;
    message = t.message;
    whole = t.whole;
    sections = t.sections;
    decoded = t.decoded;
    there = t.there;
    end = end.fragment;
    end_there = end.there;
    end_is = end.last;
    count = ap length pieces_are ∙ length-pieces its (end.fragment.sub + 1);
    each_there = λ sub low. has_fragment its (end.fragment.sub + 1) sub end.stand (omega (arith, low));
    pieces_are = are_its_pieces;
    in_time = All-weaker (Contains its) (IsPieceInTime side c arrivals f fs part start) one_in_time its (All-contains_itself its);
    first_came = subst (CameThen its) (sym first_is) (first_there f stood);
    last_came = sym last_is;
  }

-- ---- the laws

pub each_is_gathered : EachIsGathered
each_is_gathered side c landings ep a samples are g =
    let arrivals = all_arrivals landings in
    let end = end_of_time +ℤ pos 1 in
    let hold = hold_of side c.delays in
    is_gathered side c arrivals (end -ℤ pos 1) (arrivals_in_time landings end are).0 g.part a.at.0 g.in_window
    (found_in side hold (met side c arrivals) [] (met side c arrivals) g.part refl g.landed)

pub shown_are_gathered : ShownAreGathered
shown_are_gathered c t ru du one side =
    let landings = landings_at side t in
    let arrivals = all_arrivals landings in
    All-weaker (IsInTime side c t.planned arrivals) (λ a. (samples : List Wide) → a.block ≡ Some samples → GaveGathered side c arrivals a samples)
    (λ a is samples there.
    let g = is.samples_given samples there in
    record { ep = is.ep; gave = g; gathered_is = each_is_gathered side c landings is.ep a samples (landings_of_side side t ru du) g })
    (cells_heard side (events c t)) (shown_only_in_time c t ru du one side)
