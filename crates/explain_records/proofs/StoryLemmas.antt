-- The records of what was heard go on with each judgement, and with each story.
use Rattle.std.proofs.Common.{◌≡◌, ℕ, ℤ, ◌+◌, ◌<◌, get_or, Bool, true, false, cond, List, [], ◌∷◌, ◌++◌, map, refl, sym, ap, ap₂, ◌∙◌, subst, append-nil, append_assoc}
use Rattle.std.specs.Prelude.{if◌then◌else◌, filter, drop, length}
use Rattle.std.specs.List.{flat_map}
use Rattle.std.proofs.lemmas.Grind.{flat_map-append}
use Rattle.std.proofs.lemmas.List.{drop_more, map-append}
use Rattle.std.proofs.lemmas.List.Elements.{filter-append}
use Rattle.air_source.specs.Units.{same_side}
use Rattle.air_source.specs.declared.events.Side.{Side}
use Rattle.air_source.specs.declared.events.Side.TheVariants.{Ru, Du}
use Rattle.ecpri_frames.specs.Gathering.{whole_messages}
use Rattle.ecpri_fragments.specs.Generations.{Fragment}
use Rattle.explain_heard.specs.Heard.{all_heard, heard_of}
use Rattle.explain_heard.specs.Judged.{all_judged, judged_of}
use Rattle.explain_heard.specs.declared.judged.Judged.{Judged}
use Rattle.explain_model.specs.Stories.{Story}
use Rattle.explain_model.specs.Fragments.{NumberedFragment, fragment_in, fragments_of_story, unit_fragments}
use Rattle.explain_model.specs.SilentReasons.{Kept}
use Rattle.explain_model.specs.Records.{command_in, command_records, commands_of_story, data_in, data_of_story, data_records, header_in, header_records, headers_of_story}
use Rattle.explain_records.proofs.GrowingLemmas.{alone_more, onto_more}
use Rattle.explain_records.specs.Recorded.{backwards}
use Rattle.explain_records.specs.Units.{AreRecordsOf}
use Rattle.explain_records.specs.declared.fragment_records.FragmentRecords.{FragmentRecords}
use Rattle.explain_records.specs.Records.{AreVerdicts, HaveHeard, HaveKept, IsVerdict, SoFar, Takes, entered, section_records, unit_arrivals, with_judged}
use Rattle.explain_records.specs.Steps.{FragmentsNext, kept_next}
use Rattle.explain_records.specs.declared.heard_records.HeardRecords.{HeardRecords}
use Rattle.explain_records.proofs.KeptLemmas.{kept_judged, with_all}
use Rattle.explain_records.proofs.WalkLemmas.{Walks, all_entered, of_frame}
use Rattle.unit_model.specs.Judgements.{Judgement, Met, Commanded, Fragmented, Unread, Turned, Given, judgements}
use Rattle.fh_base.specs.Lists.{onto}
use Rattle.unit_model.specs.Meetings.{Arrival, fragments, meetings}
use Rattle.unit_model.specs.Reports.{hold_of, met}
use Rattle.window_config.specs.declared.config.Config.{Config}
use Rattle.window_config.specs.declared.delays.Delays.{Delays}
use Rattle.window_config.specs.declared.endpoints.EndpointConfig.{EndpointConfig}
use Rattle.air_source.proofs.Sides.{side_same, side_self}

-- ---- lists of all stories

module _ {A : Type 0} (of : Story → List A) (each : Judgement → List A) (ss : List Story) where
  one_story : (w : Story) → flat_map of (ss ++ w ∷ []) ≡ flat_map of ss ++ of w
  one_story w = flat_map-append of ss (w ∷ []) ∙ ap (λ (xs : List A). flat_map of ss ++ xs) (append-nil (of w))

  one_judgement : (s : Story) (done : List Judgement) (j : Judgement) → of (with_judged s (done ++ j ∷ [])) ≡ flat_map each (done ++ j ∷ []) → of (with_judged s done) ≡ flat_map each done
      → flat_map of (ss ++ with_judged s (done ++ j ∷ []) ∷ []) ≡ flat_map of (ss ++ with_judged s done ∷ []) ++ each j
  one_judgement s done j after before =
      one_story (with_judged s (done ++ j ∷ []))
      ∙ ap (λ (xs : List A). flat_map of ss ++ xs) (after ∙ flat_map-append each done (j ∷ []) ∙ ap₂ ◌++◌ (sym before) (append-nil (each j)))
      ∙ sym (append_assoc (flat_map of ss) (of (with_judged s done)) (each j))
      ∙ ap (λ (xs : List A). xs ++ each j) (sym (one_story (with_judged s done)))

-- ---- sections, and messages that were not decoded

module _ (c : Config) (ss : List Story) (s : Story) (done : List Judgement) (j : Judgement) where
  abbrev before : List Story
  before = ss ++ with_judged s done ∷ []

  abbrev after : List Story
  after = ss ++ with_judged s (done ++ j ∷ []) ∷ []

  sections_next : with_all s.side c.delays s.number (section_records c before) (data_in s.side c.delays s.number j) (command_in c.delays s.number j) (header_in s.side s.number j) ≡ section_records c after
  unfolding data_records command_records header_records
  sections_next =
      let d = sym (one_judgement (data_of_story c.delays) (data_in s.side c.delays s.number) ss s done j refl refl) in
      let m = sym (one_judgement (commands_of_story c.delays) (command_in c.delays s.number) ss s done j refl refl) in
      let h = sym (one_judgement headers_of_story (header_in s.side s.number) ss s done j refl refl) in
      ap (λ xs. let k : Kept = record {
        given = xs;
        commanded = flat_map (commands_of_story c.delays) before ++ command_in c.delays s.number j;
        headers = flat_map headers_of_story before ++ header_in s.side s.number j;
        repeated = [];
        begun = [];
      } in k) d
      ∙ ap (λ xs. let k : Kept = record {
        given = flat_map (data_of_story c.delays) after;
        commanded = xs;
        headers = flat_map headers_of_story before ++ header_in s.side s.number j;
        repeated = [];
        begun = [];
      } in k) m
      ∙ ap (λ xs. let k : Kept = record {
        given = flat_map (data_of_story c.delays) after;
        commanded = flat_map (commands_of_story c.delays) after;
        headers = xs;
        repeated = [];
        begun = [];
      } in k) h

-- ---- fragments

abbrev if_own : Bool → List NumberedFragment → List NumberedFragment
if_own own xs = if own then xs else []

kept_by : (own : Bool) (w : Story) → flat_map fragments_of_story (cond own (w ∷ []) []) ≡ if_own own (fragments_of_story w)
kept_by true w = append-nil (fragments_of_story w)
kept_by false w = refl

fragments_with : (u : Side) (ss : List Story) (w : Story) → unit_fragments u (ss ++ w ∷ []) ≡ unit_fragments u ss ++ if_own (same_side w.side u) (fragments_of_story w)
unfolding unit_fragments
fragments_with u ss w =
    let of_u : Story → Bool = λ s. same_side s.side u in
    ap (flat_map fragments_of_story) (filter-append of_u ss (w ∷ []))
    ∙ flat_map-append fragments_of_story (filter of_u ss) (filter of_u (w ∷ []))
    ∙ ap (λ (xs : List NumberedFragment). flat_map fragments_of_story (filter of_u ss) ++ xs) (kept_by (same_side w.side u) w)

own_more : (own : Bool) (xs : List NumberedFragment) (n : ℕ) (done : List Judgement) (j : Judgement)
    → xs ++ if_own own (flat_map (fragment_in n) (done ++ j ∷ [])) ≡ (xs ++ if_own own (flat_map (fragment_in n) done)) ++ if_own own (fragment_in n j)
own_more true xs n done j =
    ap (λ (ys : List NumberedFragment). xs ++ ys) (flat_map-append (fragment_in n) done (j ∷ []) ∙ ap (λ (ys : List NumberedFragment). flat_map (fragment_in n) done ++ ys) (append-nil (fragment_in n j)))
    ∙ sym (append_assoc xs (flat_map (fragment_in n) done) (fragment_in n j))
own_more false xs n done j = sym (append-nil (xs ++ []))

fragments_next : (u : Side) (ss : List Story) (s : Story) (done : List Judgement) (j : Judgement)
    → unit_fragments u (ss ++ with_judged s (done ++ j ∷ []) ∷ []) ≡ unit_fragments u (ss ++ with_judged s done ∷ []) ++ if_own (same_side s.side u) (fragment_in s.number j)
fragments_next u ss s done j =
    fragments_with u ss (with_judged s (done ++ j ∷ []))
    ∙ own_more (same_side s.side u) (unit_fragments u ss) s.number done j
    ∙ ap (λ (xs : List NumberedFragment). xs ++ if_own (same_side s.side u) (fragment_in s.number j)) (sym (fragments_with u ss (with_judged s done)))

no_fragments : (u : Side) (ss : List Story) (s : Story) → unit_fragments u (ss ++ with_judged s [] ∷ []) ≡ unit_fragments u ss
no_fragments u ss s =
    fragments_with u ss (with_judged s []) ∙ ap (λ (xs : List NumberedFragment). unit_fragments u ss ++ xs) (none (same_side s.side u)) ∙ append-nil (unit_fragments u ss)
  where
    none : (own : Bool) → if_own own [] ≡ []
    none true = refl
    none false = refl

-- backwards
one_back : (xs : List NumberedFragment) (x : NumberedFragment) → backwards (xs ++ x ∷ []) ≡ x.fragment ∷ backwards xs
one_back xs x = ap (λ (fs : List Fragment). onto [] fs) (alone_more xs x) ∙ onto_more [] _ x.fragment

judged_back : (xs : List NumberedFragment) (n : ℕ) (j : Judgement) → backwards (xs ++ fragment_in n j) ≡ entered (backwards xs) j
judged_back xs n (Met m) = ap backwards (append-nil xs)
judged_back xs n (Commanded s v) = ap backwards (append-nil xs)
judged_back xs n (Fragmented e f v) = one_back xs (record { number = n; endpoint = e; fragment = f; verdict = v })
judged_back xs n (Unread ep e m why) = ap backwards (append-nil xs)
judged_back xs n (Turned ep e m) = ap backwards (append-nil xs)
judged_back xs n (Given h v) = ap backwards (append-nil xs)

all_back : (n : ℕ) (js : List Judgement) (xs : List NumberedFragment) → backwards (xs ++ flat_map (fragment_in n) js) ≡ all_entered (backwards xs) js
all_back n [] xs = ap backwards (append-nil xs)
all_back n (j ∷ js) xs =
    ap backwards (sym (append_assoc xs (fragment_in n j) (flat_map (fragment_in n) js)))
    ∙ all_back n js (xs ++ fragment_in n j)
    ∙ ap (λ (fs : List Fragment). all_entered fs js) (judged_back xs n j)

-- ---- a unit's records with a judgement

module _ (hold : ℤ) (number : ℕ) (xs : List NumberedFragment) (old new : FragmentRecords) (d : Delays) (es : List EndpointConfig) where
  rests : (u : Side) → new ≡ old → AreRecordsOf u hold xs old → AreRecordsOf u hold (xs ++ []) new
  rests u same r =
      subst (λ (ys : List NumberedFragment). AreRecordsOf u hold ys new) (sym (append-nil xs)) (subst (λ (q : FragmentRecords). AreRecordsOf u hold xs q) (sym same) r)

  abbrev Goes : Side → Side → Judgement → Type 0
  Goes u side j =
      FragmentsNext u side number (judged_of side d (heard_of side es j)) old new → (same_side side u ≡ true → IsVerdict hold (backwards xs) j) → AreRecordsOf u hold xs old
      → AreRecordsOf u hold (xs ++ if_own (same_side side u) (fragment_in number j)) new

  pub goes : (u side : Side) (j : Judgement) → Goes u side j
  goes Ru Du j = λ h v r. rests Ru h r
  goes Du Ru j = λ h v r. rests Du h r
  goes Ru Ru (Met m) = λ h v r. rests Ru h r
  goes Ru Ru (Commanded s w) = λ h v r. rests Ru h r
  goes Ru Ru (Fragmented e f w) = λ h v r. h Ru hold xs (record { number = number; endpoint = e; fragment = f; verdict = w }) (record { number_is = refl; is_heard = refl; verdict_is = v refl }) r
  goes Ru Ru (Unread ep e m why) = λ h v r. rests Ru h r
  goes Ru Ru (Turned ep e m) = λ h v r. rests Ru h r
  goes Ru Ru (Given d w) = λ h v r. rests Ru h r
  goes Du Du (Met m) = λ h v r. rests Du h r
  goes Du Du (Commanded s w) = λ h v r. rests Du h r
  goes Du Du (Fragmented e f w) = λ h v r. h Du hold xs (record { number = number; endpoint = e; fragment = f; verdict = w }) (record { number_is = refl; is_heard = refl; verdict_is = v refl }) r
  goes Du Du (Unread ep e m why) = λ h v r. rests Du h r
  goes Du Du (Turned ep e m) = λ h v r. rests Du h r
  goes Du Du (Given d w) = λ h v r. rests Du h r

-- ---- one judgement

module _ (c : Config) (es : List EndpointConfig) (ss : List Story) (s : Story) (done : List Judgement) (j : Judgement) (old new : HeardRecords) where
  abbrev was : List Story
  was = ss ++ with_judged s done ∷ []

  abbrev is_now : List Story
  is_now = ss ++ with_judged s (done ++ j ∷ []) ∷ []

  unit_next : (u : Side) (p q : FragmentRecords) → FragmentsNext u s.side s.number (judged_of s.side c.delays (heard_of s.side es j)) p q
      → IsVerdict (hold_of s.side c.delays) (backwards (unit_fragments s.side was)) j → AreRecordsOf u (hold_of u c.delays) (unit_fragments u was) p
      → AreRecordsOf u (hold_of u c.delays) (unit_fragments u is_now) q
  unit_next u p q next verdict r =
      subst (λ (xs : List NumberedFragment). AreRecordsOf u (hold_of u c.delays) xs q) (sym (fragments_next u ss s done j))
      (goes (hold_of u c.delays) s.number (unit_fragments u was) p q c.delays es u s.side j next
      (λ own. subst (λ (v : Side). IsVerdict (hold_of v c.delays) (backwards (unit_fragments v was)) j) (side_same s.side u own) verdict) r)

  kept_next_is : Takes s.side s.number (judged_of s.side c.delays (heard_of s.side es j)) old new → IsVerdict (hold_of s.side c.delays) (backwards (unit_fragments s.side was)) j
      → HaveKept c was old → HaveKept c is_now new
  kept_next_is t verdict h = record {
    kept_is =
        t.kept
        ∙ ap (kept_next s.side s.number (judged_of s.side c.delays (heard_of s.side es j))) h.kept_is
        ∙ kept_judged s.side c.delays s.number (section_records c was) es j
        ∙ sections_next c ss s done j;
    ru_is = unit_next Ru old.ru new.ru t.ru verdict h.ru_is;
    du_is = unit_next Du old.du new.du t.du verdict h.du_is;
  }

  own_next : backwards (unit_fragments s.side is_now) ≡ entered (backwards (unit_fragments s.side was)) j
  own_next =
      ap backwards (fragments_next s.side ss s done j)
      ∙ ap (λ (b : Bool). backwards (unit_fragments s.side was ++ if_own b (fragment_in s.number j))) (side_self s.side)
      ∙ judged_back (unit_fragments s.side was) s.number j

-- ---- the next thing judged

module _ (c : Config) (es : List EndpointConfig) (ss : List Story) (s : Story) (old new : HeardRecords) where
  with_rest : (done rest : List Judgement) (h : Judged) (left : List Judged) → s.judged ≡ done ++ rest → h ∷ left ≡ all_judged s.side c.delays (all_heard s.side es rest)
      → HaveKept c (ss ++ with_judged s done ∷ []) old → AreVerdicts (hold_of s.side c.delays) (backwards (unit_fragments s.side (ss ++ with_judged s done ∷ []))) rest
      → Takes s.side s.number h old new → SoFar c es ss s left new
  with_rest done [] h left all is kept verdicts t = absurd (cc)
  with_rest done (j ∷ rest) h left all is kept verdicts t =
      let first : h ≡ judged_of s.side c.delays (heard_of s.side es j) = cc in
      let more : left ≡ all_judged s.side c.delays (all_heard s.side es rest) = cc in
      record {
        done = done ++ j ∷ [];
        rest = rest;
        all = all ∙ sym (append_assoc done (j ∷ []) rest);
        left_is = more;
        kept = kept_next_is c es ss s done j old new (subst (λ (k : Judged). Takes s.side s.number k old new) first t) verdicts.0 kept;
        verdicts = subst (λ (fs : List Fragment). AreVerdicts (hold_of s.side c.delays) fs rest) (sym (own_next c es ss s done j old new)) verdicts.1;
      }

pub taken : (side : Side) (number : ℕ) (c : Config) (es : List EndpointConfig) (ss : List Story) (s : Story) (h : Judged) (left : List Judged) (old new : HeardRecords)
    → s.side ≡ side → s.number ≡ number → Takes side number h old new → SoFar c es ss s (h ∷ left) old → SoFar c es ss s left new
taken side number c es ss s h left old new side_is number_is t f =
    with_rest c es ss s old new f.done f.rest h left f.all f.left_is f.kept f.verdicts
    (subst (λ (n : ℕ). Takes s.side n h old new) (sym number_is) (subst (λ (a : Side). Takes a number h old new) (sym side_is) t))

-- ---- a whole story

sections_none : (c : Config) (ss : List Story) (s : Story) → section_records c (ss ++ with_judged s [] ∷ []) ≡ section_records c ss
unfolding data_records command_records header_records
sections_none c ss s =
    let d = one_story (data_of_story c.delays) (data_in s.side c.delays s.number) ss (with_judged s []) ∙ append-nil (flat_map (data_of_story c.delays) ss) in
    let m = one_story (commands_of_story c.delays) (command_in c.delays s.number) ss (with_judged s []) ∙ append-nil (flat_map (commands_of_story c.delays) ss) in
    let h = one_story headers_of_story (header_in s.side s.number) ss (with_judged s []) ∙ append-nil (flat_map headers_of_story ss) in
    let w : List Story = ss ++ with_judged s [] ∷ [] in
    ap (λ xs. let k : Kept = record { given = xs; commanded = flat_map (commands_of_story c.delays) w; headers = flat_map headers_of_story w; repeated = []; begun = [] } in k) d
    ∙ ap (λ xs. let k : Kept = record { given = flat_map (data_of_story c.delays) ss; commanded = xs; headers = flat_map headers_of_story w; repeated = []; begun = [] } in k) m
    ∙ ap (λ xs. let k : Kept = record { given = flat_map (data_of_story c.delays) ss; commanded = flat_map (commands_of_story c.delays) ss; headers = xs; repeated = []; begun = [] } in k) h

module _ (c : Config) (ss : List Story) (s : Story) (judged : s.judged ≡ judgements s.side c (unit_arrivals s.side ss) s.arrival) where
  walked : Walks (hold_of s.side c.delays) (fragments (met s.side c (unit_arrivals s.side ss))) s.judged (fragments (met s.side c (s.arrival ∷ unit_arrivals s.side ss)))
  unfolding meetings
  walked =
      subst (λ (js : List Judgement). Walks (hold_of s.side c.delays) (fragments (met s.side c (unit_arrivals s.side ss))) js (fragments (met s.side c (s.arrival ∷ unit_arrivals s.side ss)))) (sym judged)
      (of_frame s.side c s.arrival.at (whole_messages s.arrival.frame) (met s.side c (unit_arrivals s.side ss)))

  pub begins : (r : HeardRecords) (all : List Judged) → all ≡ all_judged s.side c.delays (all_heard s.side c.endpoints s.judged) → HaveHeard c ss r → SoFar c c.endpoints ss s all r
  begins r all is h = record {
    done = [];
    rest = s.judged;
    all = refl;
    left_is = is;
    kept = record {
      kept_is = h.kept.kept_is ∙ sym (sections_none c ss s);
      ru_is = subst (λ (xs : List NumberedFragment). AreRecordsOf Ru (hold_of Ru c.delays) xs r.ru) (sym (no_fragments Ru ss s)) h.kept.ru_is;
      du_is = subst (λ (xs : List NumberedFragment). AreRecordsOf Du (hold_of Du c.delays) xs r.du) (sym (no_fragments Du ss s)) h.kept.du_is;
    };
    verdicts = subst (λ (fs : List Fragment). AreVerdicts (hold_of s.side c.delays) fs s.judged) (sym (ap backwards (no_fragments s.side ss s) ∙ h.fragments_are s.side)) walked.verdicts;
  }

  -- the arrivals with this one
  arrived_by : (u : Side) (own : Bool) → same_side s.side u ≡ own → unit_arrivals u (ss ++ s ∷ []) ≡ (let xs : List Arrival = if own then s.arrival ∷ unit_arrivals u ss else unit_arrivals u ss in xs)
  arrived_by u own is =
      let of_u : Story → Bool = λ t. same_side t.side u in
      ap (λ (ts : List Story). onto [] (map (λ t. t.arrival) ts)) (filter-append of_u ss (s ∷ []))
      ∙ ap (λ (b : Bool). onto [] (map (λ t. t.arrival) (filter of_u ss ++ cond b (s ∷ []) []))) is
      ∙ with_own own
    where
      with_own : (own : Bool) → onto [] (map (λ t. t.arrival) (filter (λ t. same_side t.side u) ss ++ cond own (s ∷ []) []))
          ≡ (let xs : List Arrival = if own then s.arrival ∷ unit_arrivals u ss else unit_arrivals u ss in xs)
      with_own true =
          ap (λ (xs : List Arrival). onto [] xs) (map-append (λ t. t.arrival) (filter (λ t. same_side t.side u) ss) (s ∷ []))
          ∙ onto_more [] (map (λ t. t.arrival) (filter (λ t. same_side t.side u) ss)) s.arrival
      with_own false = ap (λ (ts : List Story). onto [] (map (λ t. t.arrival) ts)) (append-nil (filter (λ t. same_side t.side u) ss))

  came_by : (u : Side) (own : Bool) → same_side s.side u ≡ own → backwards (unit_fragments u ss) ≡ fragments (met u c (unit_arrivals u ss))
      → backwards (unit_fragments u (ss ++ s ∷ [])) ≡ fragments (met u c (unit_arrivals u (ss ++ s ∷ [])))
  came_by u true is before =
      let same : s.side ≡ u = side_same s.side u is in
      let now : all_entered (fragments (met u c (unit_arrivals u ss))) s.judged ≡ fragments (met u c (s.arrival ∷ unit_arrivals u ss))
      = subst (λ (v : Side). all_entered (fragments (met v c (unit_arrivals v ss))) s.judged ≡ fragments (met v c (s.arrival ∷ unit_arrivals v ss))) same walked.after in
      ap backwards (fragments_with u ss s)
      ∙ ap (λ (b : Bool). backwards (unit_fragments u ss ++ if_own b (fragments_of_story s))) is
      ∙ all_back s.number s.judged (unit_fragments u ss)
      ∙ ap (λ (fs : List Fragment). all_entered fs s.judged) before
      ∙ now
      ∙ sym (ap (λ (xs : List Arrival). fragments (met u c xs)) (arrived_by u true is))
  came_by u false is before =
      ap backwards (fragments_with u ss s)
      ∙ ap (λ (b : Bool). backwards (unit_fragments u ss ++ if_own b (fragments_of_story s))) is
      ∙ ap backwards (append-nil (unit_fragments u ss))
      ∙ before
      ∙ sym (ap (λ (xs : List Arrival). fragments (met u c xs)) (arrived_by u false is))

  pub ends : (r : HeardRecords) → SoFar c c.endpoints ss s [] r → ((side : Side) → backwards (unit_fragments side ss) ≡ fragments (met side c (unit_arrivals side ss))) → HaveHeard c (ss ++ s ∷ []) r
  ends r f before = record {
    kept = all_done f.rest f.all f.left_is;
    fragments_are = λ u. came_by u (same_side s.side u) refl (before u);
  }
    where
      all_done : (rest : List Judgement) → s.judged ≡ f.done ++ rest → [] ≡ all_judged s.side c.delays (all_heard s.side c.endpoints rest) → HaveKept c (ss ++ s ∷ []) r
      all_done [] all is = subst (λ (js : List Judgement). HaveKept c (ss ++ with_judged s js ∷ []) r) (sym (all ∙ append-nil f.done)) f.kept
      all_done (j ∷ rest) all is = absurd (cc)

pub story_kept : (side : Side) (c : Config) (ss : List Story) (s : Story) (old new : HeardRecords) (all : List Judged) → s.side ≡ side
    → s.judged ≡ judgements side c (unit_arrivals side ss) s.arrival → all ≡ all_judged side c.delays (all_heard side c.endpoints s.judged) → HaveHeard c ss old
    → (SoFar c c.endpoints ss s all old → SoFar c c.endpoints ss s [] new) → HaveHeard c (ss ++ s ∷ []) new
story_kept side c ss s old new all side_is judged is have goes =
    let j : s.judged ≡ judgements s.side c (unit_arrivals s.side ss) s.arrival
    = subst (λ (a : Side). s.judged ≡ judgements a c (unit_arrivals a ss) s.arrival) (sym side_is) judged in
    let h : all ≡ all_judged s.side c.delays (all_heard s.side c.endpoints s.judged) = subst (λ (a : Side). all ≡ all_judged a c.delays (all_heard a c.endpoints s.judged)) (sym side_is) is in
    ends c ss s j new (goes (begins c ss s j old all h have)) have.fragments_are

-- the next of some things judged
pub loop_next : (xs : List Judged) (i : ℕ) (one : Judged) → i < length xs → one ≡ get_or xs i one → drop i xs ≡ one ∷ drop (i + 1) xs
loop_next xs i one within read = drop_more xs i one within ∙ ap (λ (h : Judged). h ∷ drop (i + 1) xs) (sym read)
