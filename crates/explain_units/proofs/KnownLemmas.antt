-- What is known after one more judgement, and its line.
use Rattle.std.proofs.Common.{◌≡◌, ℕ, zero, suc, ◌+◌, ◌<◌, Bool, true, false, List, [], ◌∷◌, ◌++◌, length, get_or, take, drop, Option, Some, None, refl, sym, ap, ap₂, subst, ◌∙◌, append_assoc, append-nil, take-suc, arith}
use Rattle.std.specs.Prelude.{All, ◌==◌, ◌||◌, not, nat_lt, if◌then◌else◌}
use Rattle.std.specs.List.{flat_map}
use Rattle.std.proofs.lemmas.List.Elements.{All-head, All-tail}
use Rattle.air_source.specs.declared.events.Side.{Side}
use Rattle.explain_units.proofs.LawLemmas.{blocks_are_kept}
use Rattle.explain_units.specs.Laws.{AreKept, kept_by, kept_of}
use Rattle.explain_units.specs.declared.blocks.Given.{Given as Kept}
use Rattle.ecpri_fragments.specs.Sequence.{id_of, sequence_of}
use Rattle.ecpri_frames.specs.Messages.{Message}
use Rattle.ecpri_frames.specs.declared.heads.TheConstants.{IQ_DATA, ONE_WAY_DELAY, REAL_TIME_CONTROL}
use Rattle.explain_heard.specs.Heard.{all_heard, heard_of, message_word, word_with}
use Rattle.explain_heard.specs.Judged.{all_judged, command_judged, data_judged, judged_of}
use Rattle.explain_heard.specs.declared.judged.Judged.{Judged}
use Rattle.explain_heard.specs.declared.heard.MessageWord.TheVariants as word
use Rattle.explain_units.proofs.KeptLemmas.{margins_more, margins_none}
use Rattle.explain_units.specs.Margins.{margins_after}
use Rattle.explain_model.specs.declared.places.Timing.{Timing}
use Rattle.explain_model.specs.declared.values.ControlLine.{ControlLine}
use Rattle.explain_model.specs.declared.values.DataLine.{DataLine}
use Rattle.explain_model.specs.declared.values.ExplainLine.{ExplainLine}
use Rattle.explain_model.specs.declared.values.ExplainLine.TheVariants as line
use Rattle.explain_model.specs.declared.values.MarginClass.{MarginClass}
use Rattle.explain_model.specs.declared.values.MarginClass.TheVariants.{Data}
use Rattle.explain_model.specs.declared.values.WholeAnswer.TheVariants as answer
use Rattle.explain_model.specs.Judged.{accepted_in, last_place}
use Rattle.explain_model.specs.Judged as judged
use Rattle.explain_model.specs.Margins.{Dated, control_class, data_class_of, dated_by, dated_of, way_of}
use Rattle.explain_model.specs.Messages.{command_answer, line_to, message_lines}
use Rattle.explain_model.specs.Sections.{clash_by, control_line, data_line, fresh_by, judged_lines, judgement_lines, some_of}
use Rattle.explain_model.specs.Timings.{control_timing, data_timing}
use Rattle.explain_units.specs.Known.{IsKnown, Known, add_all, after_all, all_said, as_lines, clash_with, fresh_with, nothing_known, said, with_judged}
use Rattle.explain_heard.proofs.KeptLemmas.{whole_is}
use Rattle.explain_heard.specs.Built.{control_with, data_with, line_by, placed}
use Rattle.unit_laws.specs.Sound.{IsSoundJudgement}
use Rattle.unit_model.specs.Proper.{IsAt}
use Rattle.unit_model.specs.declared.heading.DataHeading.{DataHeading}
use Rattle.unit_model.specs.Judgements.{Judgement, Met, Commanded, Fragmented, Unread, Turned, Given}
use Rattle.unit_model.specs.Commands.{allocation_of, with_accepted}
use Rattle.fh_base.specs.Lists.{onto}
use Rattle.unit_model.specs.Meetings.{find_endpoint}
use Rattle.unit_model.specs.declared.allocations.Allocation.{Allocation}
use Rattle.unit_model.specs.declared.decoded.ControlSection.{ControlSection}
use Rattle.unit_model.specs.declared.verdicts.CommandVerdict.{CommandVerdict}
use Rattle.unit_model.specs.declared.verdicts.CommandVerdict.TheVariants as control
use Rattle.unit_model.specs.declared.verdicts.DataVerdict.{DataVerdict}
use Rattle.unit_model.specs.declared.verdicts.DataVerdict.TheVariants as user
use Rattle.window_config.specs.Endpoints.{AreEndpoints}
use Rattle.window_config.specs.declared.config.Config.{Config}
use Rattle.window_config.specs.declared.delays.Delays.{Delays}
use Rattle.window_config.specs.declared.endpoints.EndpointConfig.{EndpointConfig}
use Rattle.window_config.specs.declared.verdicts.Class.{Class}

-- ---- all that was judged of an arrival, one more at a time

pub after_both : (number : ℕ) (xs ys : List Judged) (k : Known) → after_all number (xs ++ ys) k ≡ after_all number ys (after_all number xs k)
unfolding after_all
after_both number [] ys k = refl
after_both number (x ∷ xs) ys k = after_both number xs ys (with_judged number x k)

pub said_both : (number : ℕ) (xs ys : List Judged) (k : Known) → all_said number (xs ++ ys) k ≡ all_said number xs k ++ all_said number ys (after_all number xs k)
unfolding all_said after_all
said_both number [] ys k = refl
said_both number (x ∷ xs) ys k =
    ap (λ (ls : List ExplainLine). as_lines (said number k x) ++ ls) (said_both number xs ys (with_judged number x k))
    ∙ sym (append_assoc (as_lines (said number k x)) (all_said number xs (with_judged number x k)) (all_said number ys (after_all number xs (with_judged number x k))))

after_alone : (number : ℕ) (x : Judged) (k : Known) → after_all number (x ∷ []) k ≡ with_judged number x k
unfolding after_all
after_alone number x k = refl

said_alone : (number : ℕ) (x : Judged) (k : Known) → all_said number (x ∷ []) k ≡ as_lines (said number k x)
unfolding all_said
said_alone number x k = append-nil (as_lines (said number k x))

pub after_none : (number : ℕ) (k : Known) → after_all number [] k ≡ k
unfolding after_all
after_none number k = refl

pub said_none : (number : ℕ) (k : Known) → all_said number [] k ≡ []
unfolding all_said
said_none number k = refl

pub take_next : (xs : List Judged) (i : ℕ) (d : Judged) → i < length xs → take (i + 1) xs ≡ take i xs ++ get_or xs i d ∷ []
take_next xs i d lt = let e : i + 1 ≡ suc i = omega arith in ap (λ (n : ℕ). take n xs) e ∙ take-suc xs i d lt

pub after_next : (number : ℕ) (xs : List Judged) (i : ℕ) (d : Judged) (k : Known) → i < length xs
    → after_all number (take (i + 1) xs) k ≡ with_judged number (get_or xs i d) (after_all number (take i xs) k)
after_next number xs i d k lt =
    ap (λ (ys : List Judged). after_all number ys k) (take_next xs i d lt) ∙ after_both number (take i xs) (get_or xs i d ∷ []) k
    ∙ after_alone number (get_or xs i d) (after_all number (take i xs) k)

pub said_next : (number : ℕ) (xs : List Judged) (i : ℕ) (d : Judged) (k : Known) → i < length xs
    → all_said number (take (i + 1) xs) k ≡ all_said number (take i xs) k ++ as_lines (said number (after_all number (take i xs) k) (get_or xs i d))
said_next number xs i d k lt =
    ap (λ (ys : List Judged). all_said number ys k) (take_next xs i d lt) ∙ said_both number (take i xs) (get_or xs i d ∷ []) k
    ∙ ap (λ (ls : List ExplainLine). all_said number (take i xs) k ++ ls) (said_alone number (get_or xs i d) (after_all number (take i xs) k))

take_drop : (n : ℕ) (xs : List Judged) → take n xs ++ drop n xs ≡ xs
take_drop zero xs = refl
take_drop (suc n) [] = refl
take_drop (suc n) (x ∷ xs) = ap (λ (ys : List Judged). x ∷ ys) (take_drop n xs)

-- the lines of all are those of the first ones and others
pub said_split : (number : ℕ) (xs : List Judged) (i : ℕ) (d : Judged) (k : Known) → i < length xs
    → all_said number xs k
    ≡ (all_said number (take i xs) k ++ as_lines (said number (after_all number (take i xs) k) (get_or xs i d)))
    ++ all_said number (drop (i + 1) xs) (after_all number (take (i + 1) xs) k)
said_split number xs i d k lt =
    ap (λ (ys : List Judged). all_said number ys k) (sym (take_drop (i + 1) xs)) ∙ said_both number (take (i + 1) xs) (drop (i + 1) xs) k
    ∙ ap (λ (ls : List ExplainLine). ls ++ all_said number (drop (i + 1) xs) (after_all number (take (i + 1) xs) k)) (said_next number xs i d k lt)

-- ---- margins

-- what is judged of a section of the endpoint with this index is added to its margins
add_more : (es : List EndpointConfig) (ep : ℕ) (e : EndpointConfig) (ds : List Dated) (of : MarginClass) (class : Option Class) (t : Timing) → AreEndpoints es → IsAt es ep e
    → add_all ep (dated_by of e.id class t) (margins_after es ds) ≡ margins_after es (ds ++ dated_by of e.id class t)
add_more es ep e ds of None t are at = ap (margins_after es) (sym (append-nil ds))
add_more es ep e ds of (Some class) t are at = margins_more es ep e ds (record { of = of; id = e.id; class = class; timing = t }) are at refl

-- ---- one more judgement

place_is : (m : Message) (js : List Judgement) → m.place ≡ last_place (Met m ∷ js)
unfolding last_place
place_is m js = refl

stays : (side : Side) (c : Config) (gs : List Kept) (js : List Judgement) (ds : List Dated) (k : Known) (number : ℕ) (j : Judgement) → 0 < number
    → kept_by number j ≡ [] → last_place (j ∷ js) ≡ last_place js → accepted_in (j ∷ js) ≡ accepted_in js
    → IsKnown c gs js ds k → IsKnown c (gs ++ kept_by number j) (j ∷ js) (ds ++ []) k
stays side c gs js ds k number j some_number none_kept same_place same_claims h = record {
  place = h.place ∙ sym same_place;
  blocks = h.blocks ∙ sym (append-nil gs) ∙ ap (λ (xs : List Kept). gs ++ xs) (sym none_kept);
  kept = blocks_are_kept.more gs js number j some_number h.kept;
  claims = h.claims ∙ sym same_claims;
  margins = h.margins ∙ ap (margins_after c.endpoints) (sym (append-nil ds));
}

one_known : (side : Side) (c : Config) (gs : List Kept) (js : List Judgement) (ds : List Dated) (k : Known) (number : ℕ) (j : Judgement) → 0 < number
    → AreEndpoints c.endpoints → IsSoundJudgement c.endpoints j → IsKnown c gs js ds k
    → IsKnown c (gs ++ kept_by number j) (j ∷ js) (ds ++ dated_of side c.delays j) (with_judged number (judged_of side c.delays (heard_of side c.endpoints j)) k)
unfolding last_place accepted_in
one_known side c gs js ds k number (Met m) some_number are sound h = record {
  place = place_is m js;
  blocks = h.blocks ∙ sym (append-nil gs);
  kept = blocks_are_kept.more gs js number (Met m) some_number h.kept;
  claims = h.claims;
  margins = h.margins ∙ ap (margins_after c.endpoints) (sym (append-nil ds));
}
one_known side c gs js ds k number (Commanded s v) some_number are sound h = record {
  place = h.place;
  blocks = h.blocks ∙ sym (append-nil gs);
  kept = blocks_are_kept.more gs js number (Commanded s v) some_number h.kept;
  claims = ap (with_accepted v (allocation_of s)) h.claims;
  margins =
      ap (add_all s.ep (dated_by (way_of s.head.down) s.endpoint.id (control_class v) (control_timing c.delays s))) h.margins
      ∙ add_more c.endpoints s.ep s.endpoint ds (way_of s.head.down) (control_class v) (control_timing c.delays s) are sound.endpoint;
}
one_known side c gs js ds k number (Fragmented e f v) some_number are sound h = stays side c gs js ds k number (Fragmented e f v) some_number refl refl refl h
one_known side c gs js ds k number (Unread ep e m why) some_number are sound h = stays side c gs js ds k number (Unread ep e m why) some_number refl refl refl h
one_known side c gs js ds k number (Turned ep e m) some_number are sound h = stays side c gs js ds k number (Turned ep e m) some_number refl refl refl h
one_known side c gs js ds k number (Given d v) some_number are sound h = record {
  place = h.place;
  blocks = ap (λ (xs : List Kept). xs ++ kept_by number (Given d v)) h.blocks;
  kept = blocks_are_kept.more gs js number (Given d v) some_number h.kept;
  claims = h.claims;
  margins =
      ap (add_all d.ep (dated_of side c.delays (Given d v))) h.margins
      ∙ add_more c.endpoints d.ep d.endpoint ds Data (Some (data_class_of v)) (data_timing side c.delays d) are sound.0;
}

moved : (c : Config) (gs hs : List Kept) (js : List Judgement) (ds es : List Dated) (k : Known) → gs ≡ hs → ds ≡ es → IsKnown c gs js ds k → IsKnown c hs js es k
moved c gs hs js ds es k p q h = subst (λ (xs : List Kept). IsKnown c xs js es k) p (subst (λ (xs : List Dated). IsKnown c gs js xs k) q h)

-- all judgements on an arrival
pub all_known : (side : Side) (c : Config) (number : ℕ) (judged : List Judgement) (gs : List Kept) (js : List Judgement) (ds : List Dated) (k : Known) → 0 < number
    → AreEndpoints c.endpoints → All (IsSoundJudgement c.endpoints) judged → IsKnown c gs js ds k
    → IsKnown c (gs ++ flat_map (kept_by number) judged) (onto js judged) (ds ++ flat_map (dated_of side c.delays) judged)
    (after_all number (all_judged side c.delays (all_heard side c.endpoints judged)) k)
unfolding onto after_all
all_known side c number [] gs js ds k some_number are sound h = moved c gs (gs ++ []) js ds (ds ++ []) k (sym (append-nil gs)) (sym (append-nil ds)) h
all_known side c number (j ∷ rest) gs js ds k some_number are sound h =
    moved c ((gs ++ kept_by number j) ++ flat_map (kept_by number) rest) (gs ++ (kept_by number j ++ flat_map (kept_by number) rest)) (onto (j ∷ js) rest)
    ((ds ++ dated_of side c.delays j) ++ flat_map (dated_of side c.delays) rest) (ds ++ (dated_of side c.delays j ++ flat_map (dated_of side c.delays) rest))
    (after_all number (all_judged side c.delays (all_heard side c.endpoints rest)) (with_judged number (judged_of side c.delays (heard_of side c.endpoints j)) k))
    (append_assoc gs (kept_by number j) (flat_map (kept_by number) rest)) (append_assoc ds (dated_of side c.delays j) (flat_map (dated_of side c.delays) rest))
    (all_known side c number rest (gs ++ kept_by number j) (j ∷ js) (ds ++ dated_of side c.delays j) (with_judged number (judged_of side c.delays (heard_of side c.endpoints j)) k) some_number
    are (All-tail (IsSoundJudgement c.endpoints) j rest sound) (one_known side c gs js ds k number j some_number are (All-head (IsSoundJudgement c.endpoints) j rest sound) h))

-- nothing was judged
pub none_known : (c : Config) → IsKnown c [] [] [] (nothing_known c)
unfolding last_place accepted_in
none_known c = record {
  place = refl;
  blocks = refl;
  kept = blocks_are_kept.none;
  claims = refl;
  margins = margins_none c.endpoints;
}

-- ---- the line of one more judgement

to_endpoint : (side : Side) (number : ℕ) (m : Message) (o : Option (ℕ × EndpointConfig))
    → as_lines (line_by number m.place m.head.kind (length m.payload) (word_with side m.head.kind m.payload o)) ≡ line_to side number m o
to_endpoint side number m None = refl
to_endpoint side number m (Some (ep, e)) = by (m.head.kind == REAL_TIME_CONTROL)
  where
    by : (b : Bool)
        → as_lines (line_by number m.place m.head.kind (length m.payload) (if b then word.Command (id_of m.payload) (sequence_of m.payload) (command_answer side e m.payload) else word.Data))
        ≡ (let ls : List ExplainLine = if b then line.Command (record { number = number; id = id_of m.payload; place = m.place; seq = sequence_of m.payload }) (command_answer side e m.payload) ∷ [] else [] in ls)
    by true = refl
    by false = refl

by_kind : (side : Side) (number : ℕ) (m : Message) (o : Option (ℕ × EndpointConfig)) (measure other short : Bool)
    → as_lines (line_by number m.place m.head.kind (length m.payload) (if measure then word.Measure else (if other then word.Other else (if short then word.Short else word_with side m.head.kind m.payload o))))
    ≡ (let ls : List ExplainLine = if measure then line.Measure number m.place (length m.payload) ∷ [] else (if other then line.Other number m.place m.head.kind (length m.payload) ∷ [] else (if short then line.Short number m.place m.head.kind (length m.payload) ∷ [] else line_to side number m o)) in ls)
by_kind side number m o true other short = refl
by_kind side number m o false true short = refl
by_kind side number m o false false true = refl
by_kind side number m o false false false = to_endpoint side number m o

message_said : (side : Side) (es : List EndpointConfig) (number : ℕ) (m : Message)
    → as_lines (line_by number m.place m.head.kind (length m.payload) (message_word side es m)) ≡ message_lines side es number m
unfolding message_word message_lines
message_said side es number m =
    by_kind side number m (find_endpoint es (id_of m.payload)) (m.head.kind == ONE_WAY_DELAY) (not (m.head.kind == IQ_DATA || m.head.kind == REAL_TIME_CONTROL)) (nat_lt (length m.payload) 4)

clash_same : (v : CommandVerdict) (js : List Judgement) (s : ControlSection) → clash_with v (accepted_in js) (allocation_of s) ≡ clash_by v js s
clash_same control.Mismatch js s = refl
clash_same control.Late js s = refl
clash_same control.Early js s = refl
clash_same control.Range js s = refl
clash_same control.Repeat js s = refl
clash_same control.Overlap js s = refl
clash_same control.Full js s = refl
clash_same control.Accepted js s = refl

control_same : (d : Delays) (number : ℕ) (js : List Judgement) (s : ControlSection) (v : CommandVerdict) → control_with number (command_judged d s v) (clash_by v js s) ≡ control_line d number js s v
unfolding control_line
control_same d number js s v = refl

fresh_same : (v : DataVerdict) (gs : List Kept) (js : List Judgement) (number : ℕ) (h : DataHeading) → AreKept gs js → fresh_with v gs (kept_of number h) ≡ fresh_by v js h
fresh_same user.Late gs js number h kept = refl
fresh_same user.Early gs js number h kept = refl
fresh_same user.Repeat gs js number h kept = refl
fresh_same user.Taken gs js number h kept = ap (λ (n : ℕ). some_of n (judged.given_count h)) (blocks_are_kept.fresh gs js number h kept)

data_same : (side : Side) (d : Delays) (number : ℕ) (js : List Judgement) (h : DataHeading) (v : DataVerdict) → data_with number (data_judged side d h v) (fresh_by v js h) ≡ data_line side d number js h v
unfolding data_line
data_same side d number js h v = refl

pub one_said : (side : Side) (c : Config) (gs : List Kept) (js : List Judgement) (ds : List Dated) (k : Known) (number : ℕ) (j : Judgement) → IsKnown c gs js ds k
    → as_lines (said number k (judged_of side c.delays (heard_of side c.endpoints j))) ≡ judgement_lines c side number js j
one_said side c gs js ds k number (Met m) h = message_said side c.endpoints number m
one_said side c gs js ds k number (Commanded s v) h =
    ap (λ (l : ControlLine). line.Control l ∷ [])
    (ap (λ (cs : List Allocation). control_with number (command_judged c.delays s v) (clash_with v cs (allocation_of s))) h.claims
    ∙ ap (control_with number (command_judged c.delays s v)) (clash_same v js s)
    ∙ control_same c.delays number js s v)
one_said side c gs js ds k number (Fragmented e f v) h =
    ap (λ (n : ℕ). line.Fragment (placed number e.id n (record { seq = f.seq; last = f.last; sub = f.sub })) (length f.bytes) v ∷ []) h.place
one_said side c gs js ds k number (Unread ep e m why) h = ap (λ l. line.Whole l ∷ []) (whole_is number ep e m (answer.Refused why))
one_said side c gs js ds k number (Turned ep e m) h = ap (λ l. line.Whole l ∷ []) (whole_is number ep e m answer.WrongWay)
one_said side c gs js ds k number (Given d v) h =
    ap (λ (l : DataLine). line.Data l ∷ [])
    (ap (λ (xs : List Kept). data_with number (data_judged side c.delays d v) (fresh_with v xs (kept_of number d))) h.blocks
    ∙ ap (data_with number (data_judged side c.delays d v)) (fresh_same v gs js number d h.kept)
    ∙ data_same side c.delays number js d v)

-- of all judgements on an arrival
pub all_lines : (side : Side) (c : Config) (number : ℕ) (judged : List Judgement) (gs : List Kept) (js : List Judgement) (ds : List Dated) (k : Known) → 0 < number
    → AreEndpoints c.endpoints → All (IsSoundJudgement c.endpoints) judged → IsKnown c gs js ds k → all_said number (all_judged side c.delays (all_heard side c.endpoints judged)) k ≡ judged_lines c side number js judged
unfolding all_said judged_lines
all_lines side c number [] gs js ds k some_number are sound h = refl
all_lines side c number (j ∷ rest) gs js ds k some_number are sound h =
    ap₂ (λ (xs ys : List ExplainLine). xs ++ ys) (one_said side c gs js ds k number j h)
    (all_lines side c number rest (gs ++ kept_by number j) (j ∷ js) (ds ++ dated_of side c.delays j) (with_judged number (judged_of side c.delays (heard_of side c.endpoints j)) k) some_number
    are (All-tail (IsSoundJudgement c.endpoints) j rest sound) (one_known side c gs js ds k number j some_number are (All-head (IsSoundJudgement c.endpoints) j rest sound) h))
