-- What was read is within its limits.
use Rattle.std.proofs.Common.{◌≡◌, ℕ, zero, suc, map, ◌+◌, ◌*◌, ◌≤◌, ◌<◌, ◌^◌, List, [], ◌∷◌, ◌++◌, length, take, drop, Bool, true, false, ◌&&◌, ◌||◌, Option, Some, None, refl, sym, ap, ◌∙◌, subst, arith, inl, inr, nat_le, nat_lt}
use Rattle.std.specs.Prelude.{ℤ, pos, Result, Ok, Err, IfOk, IfSome, if◌then◌else◌, ◌==◌, All, slice_index, codes}
use Rattle.std.proofs.lemmas.Bool.{cases_lt}
use Rattle.std.proofs.lemmas.Bool.Decides.{nat_tests}
use Rattle.std.proofs.lemmas.List.{get_or_append_left, map-append, length_push}
use Rattle.std.proofs.lemmas.List.Elements.{All-push, All-nil}
use Rattle.std.proofs.lemmas.List.Folds.{list_any_at}
use Rattle.std.proofs.Math.Seq.{get_or-append_seam}
use Rattle.std.specs.List.{list_any}
use Rattle.std.specs.Char.{digit_value}
use Rattle.std.specs.Option.{option_map}
use Rattle.std.specs.Str.{bytes_eq}
use Rattle.bfp_codec.specs.Layout.{HasWidth, AreBytes}
use Rattle.bfp_codec.specs.declared.methods.Method.TheVariants.{Plain, Bfp}
use Rattle.window_config.specs.declared.delays.Range.{Range}
use Rattle.window_config.specs.declared.endpoints.EndpointConfig.{EndpointConfig}
use Rattle.window_config.specs.Limits.{IsTime, IsRange, IsWithinLimits}
use Rattle.window_config.specs.Endpoints.{IsEndpoint, AreEndpoints, ids_of}
use Rattle.eaxc_map.specs.Endpoints.{AppearOnce}
use Rattle.fh_document.specs.declared.document.Document.{Document}
use Rattle.fh_document.specs.declared.document.Injection.{Injection}
use Rattle.fh_document.specs.declared.document.Reading.{Reading}
use Rattle.fh_document.specs.declared.document.Settings.{Settings}
use Rattle.fh_document.specs.declared.document.Measure.{Measure}
use Rattle.fh_document.specs.declared.document.Version.{Version}
use Rattle.fh_document.specs.declared.delivered.Delivery.{Delivery}
use Rattle.window_config.specs.declared.plan.PlanLine.{PlanLine}
use Rattle.window_config.specs.declared.plan.TheConstants.{PLAN_LINES}
use Rattle.fh_document.specs.declared.keywords.Keyword.{Keyword}
use Rattle.fh_document.specs.declared.keywords.Keyword.TheVariants as keyword
use Rattle.fh_document.specs.declared.keywords.Setting.{Setting}
use Rattle.fh_document.specs.declared.keywords.Setting.TheVariants as setting
use Rattle.fh_document.specs.declared.refusals.DocWhy.{DocWhy}
use Rattle.fh_document.specs.declared.refusals.DocWhy.TheVariants as why
use Rattle.fh_base.specs.declared.source.TheConstants.{FRAME_LIMIT}
use Rattle.fh_document.specs.Refusals.{or_refuse}
use Rattle.fh_document.specs.Words.{words_of, number_in, is_text}
use Rattle.fh_document.specs.Hex.{is_hex, hex_of, bytes_of, decoded, digits_frame, frame_of}
use Rattle.fh_document.specs.Keywords.{keyword_of}
use Rattle.window_config.proofs.Usual.{usual_within}
use Rattle.fh_document.specs.ConfigLines.{number_at, time_at, ordered, both_ordered, widths_line, windows_line, range_line, hold_line, time_line, fragment_line, tone_line, comp_line, is_lost, way_of, way_line, transit_line, pack_line, set_of, defaults}
use Rattle.fh_document.specs.EndpointLines.{has_endpoint_count, numerology_of, dynamic_of, width_of, method_of, endpoint_of, has_id, added, endpoint_line}
use Rattle.fh_document.specs.Delivered.{has_like}
use Rattle.fh_document.specs.PlanLines.{plan_of, planned, plan_line}
use Rattle.fh_document.specs.DeliverLines.{has_deliver_count, delivery_of, delivered, deliver_line}
use Rattle.fh_document.specs.MeasureLines.{measure_of, has_measure, measured, measure_line}
use Rattle.fh_document.specs.InjectLines.{side_of, injected, inject_line}
use Rattle.fh_document.specs.Lines.{start, is_seen, configured, setting_line, comes_late, keyword_line, ordered_line, is_skipped, version_of, first_line, later_line, words_line, line_of}
use Rattle.fh_document.specs.Document.{finished, after_line, read_from, document_of}
use Rattle.fh_document.specs.Proper.{IsFrom, IsTone, AreComps, AreTransits, IsPlanLine, IsDelivery, AreApart, IsMeasure, IsInjection, IsDocument}
use Rattle.fh_document.proofs.LineBounds.{id_in, plan_in, delivery_in, apart_more, measure_in}
use Rattle.fh_document.proofs.Bounds.{ok_if, ok_then, ok_or, ok_any, ok_weaker, some_if, some_then, some_any, Within, number_within, number_at_within, time_at_within, ordered_within, counted_within, with_number, with_time, from_number}
use Rattle.window_config.specs.declared.delays.TheConstants.{MOST_DELAY}
use Rattle.fh_base.specs.declared.nanoseconds.TheConstants.{LAST_TIME}
use Rattle.fh_document.specs.declared.config_lines.TheConstants.{MOST_TRANSIT}
use Rattle.delay_measure.specs.declared.stamps.TheConstants.{MOST_COMPENSATION}
use Rattle.window_config.specs.declared.config.TheConstants.{MESSAGE_SECTIONS, MOST_FRAGMENT, LEAST_FRAGMENT}
use Rattle.fh_base.specs.Numbers.{word_at}
use Rattle.fh_base.specs.declared.carrier.TheConstants.{CARRIER_PRBS}

-- ---- the settings

pub record AreSettings (s : Settings) : Type 0 where
  pub delays : IsWithinLimits s.delays
  pub gap : IsTime s.gap
  pub fragment : Within LEAST_FRAGMENT MOST_FRAGMENT s.fragment
  pub pack : Within 1 64 s.pack
  pub source : IsTone s.source
  pub antenna : IsTone s.antenna
  pub comps : AreComps s.comps
  pub transits : AreTransits s.transits

is_time : (ns : ℤ) → IsFrom 0 MOST_DELAY ns → IsTime ns
is_time ns h = record { low = h.low; high = h.high }

time_line_in : (ws : List (List ℕ)) → IfOk (time_line ws) IsTime
time_line_in ws = counted_within IsTime 2 ws (time_at 0 MOST_DELAY ws 1) (ok_weaker (IsFrom 0 MOST_DELAY) IsTime (time_at 0 MOST_DELAY ws 1) (time_at_within 0 MOST_DELAY ws 1) is_time)

range_line_in : (ws : List (List ℕ)) → IfOk (range_line ws) (IsRange 0)
range_line_in ws =
    counted_within (IsRange 0) 3 ws _
    (with_time (IsRange 0) 0 MOST_DELAY ws 1 _ (λ a x. with_time (IsRange 0) 0 MOST_DELAY ws 2 _ (λ b y. ordered_within 0 a b x y)))

abbrev AreRanges : ℕ → Range × Range → Type 0
AreRanges low x = IsRange low x.0 × IsRange low x.1

both_in : (low : ℕ) (a b c d : ℤ) → IsFrom low MOST_DELAY a → IsFrom low MOST_DELAY b → IsFrom low MOST_DELAY c → IsFrom low MOST_DELAY d → IfOk (both_ordered a b c d) (AreRanges low)
both_in low a b c d x y z w =
    ok_then (IsRange low) (AreRanges low) (ordered a b) _ (ordered_within low a b x y) (λ up p.
    ok_then (IsRange low) (AreRanges low) (ordered c d) _ (ordered_within low c d z w) (λ cp q. (p, q)))

windows_line_in : (low : ℕ) (ws : List (List ℕ)) → IfOk (windows_line low ws) (AreRanges low)
windows_line_in low ws =
    counted_within (AreRanges low) 5 ws _
    (with_time (AreRanges low) low MOST_DELAY ws 1 _ (λ a x. with_time (AreRanges low) low MOST_DELAY ws 2 _ (λ b y.
    with_time (AreRanges low) low MOST_DELAY ws 3 _ (λ c z. with_time (AreRanges low) low MOST_DELAY ws 4 _ (λ d w.
    both_in low a b c d x y z w)))))

abbrev AreTimes : ℤ × ℤ → Type 0
AreTimes x = IsTime x.0 × IsTime x.1

hold_line_in : (ws : List (List ℕ)) → IfOk (hold_line ws) AreTimes
hold_line_in ws =
    counted_within AreTimes 3 ws _
    (with_time AreTimes 0 MOST_DELAY ws 1 _ (λ a x. with_time AreTimes 0 MOST_DELAY ws 2 _ (λ b y. (is_time a x, is_time b y))))

fragment_line_in : (ws : List (List ℕ)) → IfOk (fragment_line ws) (Within LEAST_FRAGMENT MOST_FRAGMENT)
fragment_line_in ws = counted_within (Within LEAST_FRAGMENT MOST_FRAGMENT) 2 ws (number_at LEAST_FRAGMENT MOST_FRAGMENT ws 1) (number_at_within LEAST_FRAGMENT MOST_FRAGMENT ws 1)

tone_line_in : (ws : List (List ℕ)) → IfOk (tone_line ws) IsTone
tone_line_in ws =
    counted_within IsTone 3 ws _
    (with_number IsTone 0 4294967295 ws 1 _ (λ seed x. with_number IsTone 1 32768 ws 2 _ (λ amplitude y. record { low = y.0; high = y.1 })))

comp_line_in : (ws : List (List ℕ)) → IfOk (comp_line ws) AreComps
comp_line_in ws =
    counted_within AreComps 5 ws _
    (with_time AreComps 0 MOST_COMPENSATION ws 1 _ (λ a x. with_time AreComps 0 MOST_COMPENSATION ws 2 _ (λ b y.
    with_time AreComps 0 MOST_COMPENSATION ws 3 _ (λ c z. with_time AreComps 0 MOST_COMPENSATION ws 4 _ (λ d w.
    record { du_sending = x; du_receiving = y; ru_sending = z; ru_receiving = w })))))

-- nothing, or a time of the way
abbrev IsWay : Option ℤ → Type 0
IsWay o = IfSome o (IsFrom 0 MOST_TRANSIT)

way_line_in : (version : Version) (ws : List (List ℕ)) → IfOk (way_line version ws) IsWay
way_line_in version ws =
    counted_within IsWay 3 ws (way_of version ws)
    (ok_if IsWay (is_lost version ws) (Ok None) _ (λ t. tt) (λ f. with_time IsWay 0 MOST_TRANSIT ws 2 (λ ns. Ok (Some ns)) (λ ns h. h)))

transit_line_in : (ws : List (List ℕ)) → IfOk (transit_line ws) (IsFrom 1 MOST_TRANSIT)
transit_line_in ws = counted_within (IsFrom 1 MOST_TRANSIT) 3 ws (time_at 1 MOST_TRANSIT ws 2) (time_at_within 1 MOST_TRANSIT ws 2)

pack_line_in : (ws : List (List ℕ)) → IfOk (pack_line ws) (Within 1 64)
pack_line_in ws = counted_within (Within 1 64) 2 ws (number_at 1 MESSAGE_SECTIONS ws 1) (number_at_within 1 64 ws 1)

set_in : (version : Version) (s : Settings) (k : Setting) (ws : List (List ℕ)) → AreSettings s → IfOk (set_of version s k ws) AreSettings
set_in version s setting.Widths ws h = ok_then (λ _. Unit {0}) AreSettings (widths_line ws) _ (ok_any (widths_line ws)) (λ x p. assumption (h, p))
set_in version s setting.T1a ws h = ok_then (AreRanges 0) AreSettings (windows_line 0 ws) _ (windows_line_in 0 ws) (λ x p. assumption (h, p))
set_in version s setting.T2a ws h = ok_then (AreRanges 1) AreSettings (windows_line 1 ws) _ (windows_line_in 1 ws) (λ x p. assumption (h, p))
set_in version s setting.Advance ws h = ok_then IsTime AreSettings (time_line ws) _ (time_line_in ws) (λ x p. assumption (h, p))
set_in version s setting.Ta3 ws h = ok_then (IsRange 0) AreSettings (range_line ws) _ (range_line_in ws) (λ x p. assumption (h, p))
set_in version s setting.Ta4 ws h = ok_then (IsRange 0) AreSettings (range_line ws) _ (range_line_in ws) (λ x p. assumption (h, p))
set_in version s setting.T12 ws h = ok_then (IsRange 0) AreSettings (range_line ws) _ (range_line_in ws) (λ x p. assumption (h, p))
set_in version s setting.T34 ws h = ok_then (IsRange 0) AreSettings (range_line ws) _ (range_line_in ws) (λ x p. assumption (h, p))
set_in version s setting.Hold ws h = ok_then AreTimes AreSettings (hold_line ws) _ (hold_line_in ws) (λ x p. assumption (h, p))
set_in version s setting.Gap ws h = ok_then IsTime AreSettings (time_line ws) _ (time_line_in ws) (λ x p. assumption (h, p))
set_in version s setting.Fragment ws h = ok_then (Within LEAST_FRAGMENT MOST_FRAGMENT) AreSettings (fragment_line ws) _ (fragment_line_in ws) (λ x p. assumption (h, p))
set_in version s setting.Source ws h = ok_then IsTone AreSettings (tone_line ws) _ (tone_line_in ws) (λ x p. assumption (h, p))
set_in version s setting.Antenna ws h = ok_then IsTone AreSettings (tone_line ws) _ (tone_line_in ws) (λ x p. assumption (h, p))
set_in version s setting.Comp ws h = ok_then AreComps AreSettings (comp_line ws) _ (comp_line_in ws) (λ x p. assumption (h, p))
set_in version s setting.TransitDl ws h = ok_then IsWay AreSettings (way_line version ws) _ (way_line_in version ws) (λ x p. assumption (h, p))
set_in version s setting.TransitUl ws h = ok_then IsWay AreSettings (way_line version ws) _ (way_line_in version ws) (λ x p. assumption (h, p))
set_in version s setting.TransitM ws h = ok_then (IsFrom 1 MOST_TRANSIT) AreSettings (transit_line ws) _ (transit_line_in ws) (λ x p. assumption (h, p))
set_in version s setting.Pack ws h = ok_then (Within 1 64) AreSettings (pack_line ws) _ (pack_line_in ws) (λ x p. assumption (h, p))

defaults_in : AreSettings defaults
defaults_in = record {
  delays = usual_within;
  gap = is_time (pos 1000) (from_number 0 MOST_DELAY 1000 (omega arith) (omega arith));
  fragment = (omega arith, omega arith);
  pack = (omega arith, omega arith);
  source = record { low = omega arith; high = omega arith };
  antenna = record { low = omega arith; high = omega arith };
  comps = record {
    du_sending = from_number 0 MOST_COMPENSATION 0 (omega arith) (omega arith);
    du_receiving = from_number 0 MOST_COMPENSATION 0 (omega arith) (omega arith);
    ru_sending = from_number 0 MOST_COMPENSATION 0 (omega arith) (omega arith);
    ru_receiving = from_number 0 MOST_COMPENSATION 0 (omega arith) (omega arith);
  };
  transits = record {
    dl = from_number 0 MOST_TRANSIT 50000 (omega arith) (omega arith);
    ul = from_number 0 MOST_TRANSIT 50000 (omega arith) (omega arith);
    m = from_number 1 MOST_TRANSIT 50000 (omega arith) (omega arith);
  };
}

-- ---- endpoints

some_bfp : (o : Option ℕ) → IfSome o (Within 1 16) → IfSome (option_map (λ n. Bfp n) o) HasWidth
some_bfp None h = tt
some_bfp (Some n) h = (h.0, h.1)

width_in : (w : List ℕ) → IfSome (width_of w) (Within 1 16)
width_in w = some_if (Within 1 16) (slice_index w 0 == 48) None (number_in 1 16 w) (λ t. tt) (λ f. number_within 1 16 w)

method_in : (w : List ℕ) → IfSome (method_of w) HasWidth
method_in w =
    some_if HasWidth (bytes_eq w (codes "none")) (Some Plain) _ (λ t. tt)
    (λ f. some_if HasWidth (bytes_eq (take 3 w) (codes "bfp")) (option_map (λ n. Bfp n) (width_of (drop 3 w))) None (λ t. some_bfp (width_of (drop 3 w)) (width_in (drop 3 w))) (λ g. tt))

abbrev HasId : EndpointConfig → Type 0
HasId e = e.id < 2 ^ 16

-- an endpoint as its line gives it
record IsGiven (e : EndpointConfig) : Type 0 where
  id : HasId e
  fits : IsEndpoint e

endpoint_of_in : (version : Version) (ws : List (List ℕ)) → IfSome (endpoint_of version ws) IsGiven
endpoint_of_in version ws =
    some_then (λ n. n < 2 ^ 16) IsGiven (hex_of 4 (word_at ws 1)) _ (id_in (word_at ws 1)) (λ id i.
    some_then (λ _. Unit {0}) IsGiven (numerology_of version ws) _ (some_any (numerology_of version ws)) (λ numerology v.
    some_then (Within 1 CARRIER_PRBS) IsGiven (number_in 1 CARRIER_PRBS (word_at ws 4)) _ (number_within 1 CARRIER_PRBS (word_at ws 4)) (λ prbs p.
    some_then (λ _. Unit {0}) IsGiven (dynamic_of (word_at ws 5)) _ (some_any (dynamic_of (word_at ws 5))) (λ dynamic x.
    some_then HasWidth IsGiven (method_of (word_at ws 6)) _ (method_in (word_at ws 6)) (λ method m.
    record { id = i; fits = record { some = p.0; most = p.1; width = m } })))))

any_of_ids : (id : ℕ) (es : List EndpointConfig) → list_any (λ x. x == id) (ids_of es) ≡ has_id id es
any_of_ids id [] = refl
any_of_ids id (e ∷ es) = ap (λ b. (e.id == id) || b) (any_of_ids id es)

-- an id that is new
new_here : (ids : List ℕ) (id j : ℕ) → j < length ids → list_any (λ x. x == id) ids ≡ false → slice_index ids j ≡ id → ⊥
new_here ids id j lt none is =
    let there : list_any (λ x. x == id) ids ≡ true = list_any_at (λ x. x == id) ids j 0 lt (same_true (slice_index ids j) id is) in
    absurd (cc (there, none))
  where
    same_true : (a b : ℕ) → a ≡ b → (a == b) ≡ true
    same_true a b e = grind (arith, nat_tests)

front_of : (ids : List ℕ) (id j : ℕ) → j < length ids → slice_index (ids ++ id ∷ []) j ≡ slice_index ids j
front_of ids id j lt = get_or_append_left ids (id ∷ []) 0 j lt

last_of : (ids : List ℕ) (id : ℕ) → slice_index (ids ++ id ∷ []) (length ids) ≡ id
last_of ids id = get_or-append_seam ids id [] 0

once_push : (ids : List ℕ) (id : ℕ) → AppearOnce ids → list_any (λ x. x == id) ids ≡ false → AppearOnce (ids ++ id ∷ [])
once_push ids id once none j k jt kt is =
    let more : length (ids ++ id ∷ []) ≡ length ids + 1 = length_push ids id in
    elim (cases_lt j (length ids)) [
      | inl jl ↦ elim (cases_lt k (length ids)) [
        | inl kl ↦ once j k jl kl (sym (front_of ids id j jl) ∙ is ∙ front_of ids id k kl)
        | inr kg ↦ let e : k ≡ length ids = omega arith in
            absurd (new_here ids id j jl none (sym (front_of ids id j jl) ∙ is ∙ ap (λ i. slice_index (ids ++ id ∷ []) i) e ∙ last_of ids id))
      ]
      | inr jg ↦ elim (cases_lt k (length ids)) [
        | inl kl ↦ let e : j ≡ length ids = omega arith in
            absurd (new_here ids id k kl none (sym (front_of ids id k kl) ∙ sym is ∙ ap (λ i. slice_index (ids ++ id ∷ []) i) e ∙ last_of ids id))
        | inr kg ↦ omega arith
      ]
    ]

more_endpoints : (es : List EndpointConfig) (e : EndpointConfig) → AreEndpoints es → IsEndpoint e → has_id e.id es ≡ false → (length es == 16) ≡ false → AreEndpoints (es ++ e ∷ [])
more_endpoints es e h p new room =
    let more : length (es ++ e ∷ []) ≡ length es + 1 = length_push es e in
    let other : length es ≡ 16 → ⊥ = not_same (length es) 16 room in
    let once : AppearOnce (ids_of es ++ e.id ∷ []) = once_push (ids_of es) e.id h.differ (any_of_ids e.id es ∙ new) in
    record {
      each = All-push IsEndpoint es e h.each p;
      few = fits (length es) h.few other more;
      differ = subst AppearOnce (sym (map-append (λ (x : EndpointConfig). x.id) es (e ∷ []))) once;
    }
  where
    not_same : (a b : ℕ) → (a == b) ≡ false → a ≡ b → ⊥
    not_same a b f e = absurd (grind (arith, nat_tests))

    fits : {m : ℕ} (n : ℕ) → n ≤ 16 → (n ≡ 16 → ⊥) → m ≡ n + 1 → m ≤ 16
    fits n le other e = omega arith

-- ---- lines

pub record IsReading (r : Reading) : Type 0 where
  pub settings : AreSettings r.settings
  pub endpoints : AreEndpoints r.endpoints
  pub ids : All HasId r.endpoints
  pub plan : All IsPlanLine r.plan
  pub few : length r.plan ≤ PLAN_LINES
  pub numbered : length r.plan_lines ≡ length r.plan
  pub deliveries : All IsDelivery r.deliveries
  pub frames : AreApart r.deliveries
  pub injections : All IsInjection r.injections
  pub measures : All IsMeasure r.measures
  pub differ : AppearOnce (map (λ m. m.id) r.measures)

no_endpoints : AreEndpoints []
no_endpoints = record { each = All-nil IsEndpoint; few = omega arith; differ = λ j k jt kt is. absurd (omega arith) }

start_in : IsReading start
start_in = record {
  settings = defaults_in;
  endpoints = no_endpoints;
  ids = All-nil HasId;
  plan = All-nil IsPlanLine;
  few = omega arith;
  numbered = refl;
  deliveries = All-nil IsDelivery;
  frames = tt;
  injections = All-nil IsInjection;
  measures = All-nil IsMeasure;
  differ = λ j k jt kt is. absurd (omega arith);
}

added_in : (r : Reading) (e : EndpointConfig) → IsReading r → IsGiven e → IfOk (added r e) IsReading
added_in r e h p =
    ok_if IsReading (has_id e.id r.endpoints) (Err why.Twice) _ (λ t. tt)
    (λ f. ok_if IsReading (length r.endpoints == 16) (Err why.TooMany) _ (λ t. tt)
    (λ g. record {
      settings = h.settings;
      endpoints = more_endpoints r.endpoints e h.endpoints p.fits f g;
      ids = All-push HasId r.endpoints e h.ids p.id;
      plan = h.plan;
      few = h.few;
      numbered = h.numbered;
      deliveries = h.deliveries;
      frames = h.frames;
      injections = h.injections;
      measures = h.measures;
      differ = h.differ;
    }))

endpoint_line_in : (r : Reading) (ws : List (List ℕ)) → IsReading r → IfOk (endpoint_line r ws) IsReading
endpoint_line_in r ws h =
    ok_if IsReading (has_endpoint_count r.version ws) _ (Err why.Words)
    (λ t. ok_then IsGiven IsReading (or_refuse (endpoint_of r.version ws) why.Number) _ (ok_or IsGiven (endpoint_of r.version ws) why.Number (endpoint_of_in r.version ws)) (λ e p. added_in r e h p))
    (λ f. tt)

planned_in : (r : Reading) (n : ℕ) (line : PlanLine) → IsReading r → IsPlanLine line → IfOk (planned r n line) IsReading
planned_in r n line h p =
    ok_if IsReading (length r.plan == PLAN_LINES) (Err why.TooMany) _ (λ t. tt)
    (λ f. record {
      settings = h.settings;
      endpoints = h.endpoints;
      ids = h.ids;
      plan = All-push IsPlanLine r.plan line h.plan p;
      few = one_more (length r.plan) h.few f (length_push r.plan line);
      numbered = length_push r.plan_lines n ∙ ap (λ m. m + 1) h.numbered ∙ sym (length_push r.plan line);
      deliveries = h.deliveries;
      frames = h.frames;
      injections = h.injections;
      measures = h.measures;
      differ = h.differ;
    })
  where
    one_more : {m : ℕ} (n : ℕ) → n ≤ PLAN_LINES → (n == PLAN_LINES) ≡ false → m ≡ n + 1 → m ≤ PLAN_LINES
    one_more n le other is = grind (arith, nat_tests)

plan_line_in : (r : Reading) (n : ℕ) (ws : List (List ℕ)) → IsReading r → IfOk (plan_line r n ws) IsReading
plan_line_in r n ws h =
    counted_within IsReading 13 ws _
    (ok_then IsPlanLine IsReading (or_refuse (plan_of ws) why.Number) _ (ok_or IsPlanLine (plan_of ws) why.Number (plan_in ws)) (λ line p. planned_in r n line h p))

delivered_in : (r : Reading) (d : Delivery) → IsReading r → IsDelivery d → IfOk (delivered r d) IsReading
delivered_in r d h p =
    ok_if IsReading (has_like d r.deliveries) (Err why.Twice) _ (λ t. tt)
    (λ f. record {
      settings = h.settings;
      endpoints = h.endpoints;
      ids = h.ids;
      plan = h.plan;
      few = h.few;
      numbered = h.numbered;
      deliveries = All-push IsDelivery r.deliveries d h.deliveries p;
      frames = apart_more r.deliveries d h.frames f;
      injections = h.injections;
      measures = h.measures;
      differ = h.differ;
    })

deliver_line_in : (r : Reading) (ws : List (List ℕ)) → IsReading r → IfOk (deliver_line r ws) IsReading
deliver_line_in r ws h =
    ok_if IsReading (has_deliver_count ws) _ (Err why.Words)
    (λ t. ok_then IsDelivery IsReading (or_refuse (delivery_of ws) why.Number) _ (ok_or IsDelivery (delivery_of ws) why.Number (delivery_in ws t)) (λ d p. delivered_in r d h p))
    (λ f. tt)

any_of_measures : (id : ℕ) (ms : List Measure) → list_any (λ x. x == id) (map (λ (m : Measure). m.id) ms) ≡ has_measure id ms
any_of_measures id [] = refl
any_of_measures id (m ∷ ms) = ap (λ b. (m.id == id) || b) (any_of_measures id ms)

measured_in : (r : Reading) (m : Measure) → IsReading r → IsMeasure m → IfOk (measured r m) IsReading
measured_in r m h p =
    ok_if IsReading (has_measure m.id r.measures) (Err why.Twice) _ (λ t. tt)
    (λ f.
    let once : AppearOnce (map (λ (x : Measure). x.id) r.measures ++ m.id ∷ []) = once_push (map (λ (x : Measure). x.id) r.measures) m.id h.differ (any_of_measures m.id r.measures ∙ f) in
    record {
      settings = h.settings;
      endpoints = h.endpoints;
      ids = h.ids;
      plan = h.plan;
      few = h.few;
      numbered = h.numbered;
      deliveries = h.deliveries;
      frames = h.frames;
      injections = h.injections;
      measures = All-push IsMeasure r.measures m h.measures p;
      differ = subst AppearOnce (sym (map-append (λ (x : Measure). x.id) r.measures (m ∷ []))) once;
    })

measure_line_in : (r : Reading) (ws : List (List ℕ)) → IsReading r → IfOk (measure_line r ws) IsReading
measure_line_in r ws h =
    counted_within IsReading 5 ws _
    (ok_then IsMeasure IsReading (or_refuse (measure_of ws) why.Number) _ (ok_or IsMeasure (measure_of ws) why.Number (measure_in ws)) (λ m p. measured_in r m h p))

injected_in : (r : Reading) (i : Injection) → IsReading r → IsInjection i → IfOk (injected r i) IsReading
injected_in r i h p = record {
  settings = h.settings;
  endpoints = h.endpoints;
  ids = h.ids;
  plan = h.plan;
  few = h.few;
  numbered = h.numbered;
  deliveries = h.deliveries;
  frames = h.frames;
  injections = All-push IsInjection r.injections i h.injections p;
  measures = h.measures;
  differ = h.differ;
}

bytes_half : (w : List ℕ) → 2 * length (bytes_of w) ≤ length w
bytes_half [] = omega arith
bytes_half (a ∷ []) = omega arith
bytes_half (a ∷ b ∷ rest) = omega (arith, bytes_half rest)

-- each two digits are a byte
digits_bytes : (w : List ℕ) → is_hex w ≡ true → AreBytes (bytes_of w)
digits_bytes [] hex i = omega arith
digits_bytes (a ∷ []) hex i = omega arith
digits_bytes (a ∷ b ∷ rest) hex zero = two (digit_value a) (digit_value b) _ hex
  where
    two : (x y : ℕ) (more : Bool) → (nat_lt x 16 && (nat_lt y 16 && more)) ≡ true → 16 * x + y < 256
    two x y more e = grind (arith, nat_tests)
digits_bytes (a ∷ b ∷ rest) hex (suc i) = digits_bytes rest (behind (nat_lt (digit_value a) 16) (nat_lt (digit_value b) 16) (is_hex rest) hex) i
  where
    behind : (x y more : Bool) → (x && (y && more)) ≡ true → more ≡ true
    behind true true more e = e
    behind true false more e = absurd (cc e)
    behind false y more e = absurd (cc e)

record IsFrame (frame : List ℕ) : Type 0 where
  bytes : AreBytes frame
  short : length frame ≤ FRAME_LIMIT

frame_in : (w : List ℕ) → IfSome (frame_of w) IsFrame
frame_in w =
    some_if IsFrame (bytes_eq w (codes "-")) (Some []) (digits_frame w) (λ t. record { bytes = λ i. omega arith; short = omega arith })
    (λ f. some_if IsFrame _ (decoded w) None
    (λ t. some_if IsFrame (is_hex w) (Some (bytes_of w)) None (λ u. record { bytes = digits_bytes w u; short = omega (arith, bytes_half w, few (length w) _ t) }) (λ v. tt))
    (λ g. tt))
  where
    few : (n : ℕ) (b : Bool) → (nat_le n (2 * FRAME_LIMIT) && b) ≡ true → n ≤ 2 * FRAME_LIMIT
    few n b e = grind (arith, nat_tests)

inject_line_in : (r : Reading) (ws : List (List ℕ)) → IsReading r → IfOk (inject_line r ws) IsReading
inject_line_in r ws h =
    counted_within IsReading 4 ws _
    (ok_then (λ _. Unit {0}) IsReading (or_refuse (side_of (word_at ws 1)) why.Number) _ (ok_any (or_refuse (side_of (word_at ws 1)) why.Number)) (λ side u.
    with_time IsReading 0 LAST_TIME ws 2 _ (λ at p.
    ok_then IsFrame IsReading (or_refuse (frame_of (word_at ws 3)) why.Number) _ (ok_or IsFrame (frame_of (word_at ws 3)) why.Number (frame_in (word_at ws 3))) (λ frame q.
    injected_in r (record { side = side; at = at; frame = frame }) h (record { time = p; bytes = q.bytes; short = q.short })))))

with_settings : (r : Reading) (s : Setting) (settings : Settings) → IsReading r → AreSettings settings → IsReading (configured r s settings)
with_settings r s settings h p = record {
  settings = p;
  endpoints = h.endpoints;
  ids = h.ids;
  plan = h.plan;
  few = h.few;
  numbered = h.numbered;
  deliveries = h.deliveries;
  frames = h.frames;
  injections = h.injections;
  measures = h.measures;
  differ = h.differ;
}

setting_line_in : (r : Reading) (s : Setting) (ws : List (List ℕ)) → IsReading r → IfOk (setting_line r s ws) IsReading
setting_line_in r s ws h =
    ok_if IsReading (is_seen r s) (Err why.Twice) _ (λ t. tt)
    (λ f. ok_then AreSettings IsReading (set_of r.version r.settings s ws) _ (set_in r.version r.settings s ws h.settings)
    (λ settings p. with_settings r s settings h p))

keyword_line_in : (r : Reading) (n : ℕ) (k : Keyword) (ws : List (List ℕ)) → IsReading r → IfOk (keyword_line r n k ws) IsReading
keyword_line_in r n (keyword.Configure s) ws h = setting_line_in r s ws h
keyword_line_in r n keyword.Endpoint ws h = endpoint_line_in r ws h
keyword_line_in r n keyword.Plan ws h = plan_line_in r n ws h
keyword_line_in r n keyword.Deliver ws h = deliver_line_in r ws h
keyword_line_in r n keyword.Inject ws h = inject_line_in r ws h
keyword_line_in r n keyword.Measure ws h = measure_line_in r ws h

ordered_line_in : (r : Reading) (n : ℕ) (k : Keyword) (ws : List (List ℕ)) → IsReading r → IfOk (ordered_line r n k ws) IsReading
ordered_line_in r n k ws h =
    ok_if IsReading (comes_late r k) (Err why.Order) _ (λ t. tt)
    (λ f. keyword_line_in r n k ws h)

later_line_in : (r : Reading) (n : ℕ) (ws : List (List ℕ)) → IsReading r → IfOk (later_line r n ws) IsReading
later_line_in r n ws h =
    ok_if IsReading (is_skipped ws) (Ok r) _ (λ t. h)
    (λ f. ok_then (λ _. Unit {0}) IsReading (or_refuse (keyword_of r.version ws) why.UnknownWord) _ (ok_any (or_refuse (keyword_of r.version ws) why.UnknownWord)) (λ k u. ordered_line_in r n k ws h))

in_version : (r : Reading) (version : Version) → IsReading r → IsReading (record r { version = version })
in_version r version h = record {
  settings = h.settings;
  endpoints = h.endpoints;
  ids = h.ids;
  plan = h.plan;
  few = h.few;
  numbered = h.numbered;
  deliveries = h.deliveries;
  frames = h.frames;
  injections = h.injections;
  measures = h.measures;
  differ = h.differ;
}

first_line_in : (r : Reading) (ws : List (List ℕ)) → IsReading r → IfOk (first_line r ws) IsReading
first_line_in r ws h =
    ok_then (λ _. Unit {0}) IsReading (or_refuse (version_of ws) why.FirstLine) _ (ok_any (or_refuse (version_of ws) why.FirstLine)) (λ version u. in_version r version h)

words_line_in : (r : Reading) (n : ℕ) (ws : List (List ℕ)) → IsReading r → IfOk (words_line r n ws) IsReading
words_line_in r n ws h = ok_if IsReading (n == 1) (first_line r ws) (later_line r n ws) (λ t. first_line_in r ws h) (λ f. later_line_in r n ws h)

line_of_in : (r : Reading) (n : ℕ) (line : List ℕ) → IsReading r → IfOk (line_of r n line) IsReading
unfolding line_of
line_of_in r n line h = ok_if IsReading (is_text line) (words_line r n (words_of line)) (Err why.NotText) (λ t. words_line_in r n (words_of line) h) (λ f. tt)

-- ---- all lines

finished_in : (r : Reading) → IsReading r → IsDocument (finished r)
finished_in r h = record {
  config = record { delays = h.settings.delays; gap = h.settings.gap; fragment_low = h.settings.fragment.0; fragment_high = h.settings.fragment.1; pack_low = h.settings.pack.0; pack_high = h.settings.pack.1; endpoints = h.endpoints };
  ids = h.ids;
  plan = h.plan;
  few = h.few;
  numbered = h.numbered;
  source = h.settings.source;
  antenna = h.settings.antenna;
  comps = h.settings.comps;
  transits = h.settings.transits;
  deliveries = h.deliveries;
  frames = h.frames;
  injections = h.injections;
  measures = h.measures;
  differ = h.differ;
}

after_in : (x : Result Reading DocWhy) (next : Reading → Result Document (ℕ × DocWhy)) (n : ℕ) → IfOk x IsReading
    → ((r : Reading) → IsReading r → IfOk (next r) IsDocument) → IfOk (after_line x next (λ why. Err (n, why))) IsDocument
after_in (Ok r) next n h f = f r h
after_in (Err w) next n h f = tt

read_from_in : (n : ℕ) (r : Reading) (lines : List (List ℕ)) → IsReading r → IfOk (read_from n r lines) IsDocument
read_from_in n r [] h = finished_in r h
read_from_in n r (line ∷ lines) h =
    after_in (line_of r n line) (λ next. read_from (n + 1) next lines) n (line_of_in r n line h) (λ next p. read_from_in (n + 1) next lines p)

empty_or : (b : Bool) (w : ℕ × DocWhy) (x : Result Document (ℕ × DocWhy)) → IfOk x IsDocument → IfOk (if b then Err w else x) IsDocument
empty_or true w x h = tt
empty_or false w x h = h

pub document_of_in : (text : List ℕ) → IfOk (document_of text) IsDocument
document_of_in text = empty_or (length text == 0) (1, why.FirstLine) _ (read_from_in 1 start _ start_in)

-- a document that is read
pub proper : (text : List ℕ) (d : Document) → document_of text ≡ Ok d → IsDocument d
proper text d is = subst (λ x. IfOk x IsDocument) is (document_of_in text)
