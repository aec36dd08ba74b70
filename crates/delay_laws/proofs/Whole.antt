-- Where all is in whole nanoseconds, so are the times of all messages.
use Rattle.std.proofs.Common.{◌≡◌, ℕ, ℤ, pos, ◌+◌, ◌==◌, ◌+ℤ◌, ◌*ℤ◌, List, [], ◌∷◌, sym, subst, arith, inl, inr, ap, ◌∙◌, ◌-ℤ◌}
use Rattle.std.specs.Prelude.{All, map, ◌⊎◌}
use Rattle.std.proofs.lemmas.Int.{ints}
use Rattle.std.proofs.lemmas.Bool.{cases_Bool}
use Rattle.std.proofs.lemmas.List.Elements.{All-append, All-cons, All-contains, All-head, All-map, All-nil, All-tail, All-weaker}
use Rattle.air_source.specs.declared.events.Side.{Side}
use Rattle.air_source.specs.declared.events.Side.TheVariants.{Ru, Du}
use Rattle.delay_measure.specs.declared.message.DelayMessage.{DelayMessage}
use Rattle.delay_measure.specs.After.{Told, begins, comes, forgets, id_of}
use Rattle.delay_measure.specs.declared.edge.Compensation.{Compensation}
use Rattle.delay_laws.specs.Nodes.{Heard, Measurement, Node, Timed, came_with, fresh, measured, node_of, sent_then, time_of, timed, told_node, with_node}
use Rattle.delay_laws.specs.Delays.{IsWholeTime}
use Rattle.delay_laws.specs.Ticks.{Setting, came_heard, state}
use Rattle.delay_laws.specs.Ends.{HasWholeTimes}
use Rattle.delay_laws.specs.Laws.{TickDelaysAreExact}
use Rattle.delay_laws.proofs.Keeping.{Keeps, all_kept}
use Rattle.delay_laws.proofs.Lists.{the_first}
use Rattle.delay_laws.proofs.Carried.{tick_delays}
use Rattle.air_source.specs.Units.{other}
use Rattle.fh_base.specs.declared.nanoseconds.TheConstants.{NANOSECOND}

whole_sum : (a b : ℤ) → IsWholeTime a → IsWholeTime b → IsWholeTime (a +ℤ b)
whole_sum a b wa wb =
    let ea : a ≡ pos NANOSECOND *ℤ pos wa.0 = wa.1 in
    let eb : b ≡ pos NANOSECOND *ℤ pos wb.0 = wb.1 in
    (wa.0 + wb.0, omega (arith, ints))

abbrev pub IsWholeHeard : Heard → Type 0
IsWholeHeard one = IsWholeTime (time_of one.told)

any_whole : (t : ℤ) (ms : List DelayMessage) → IsWholeTime t → All (λ m. IsWholeTime t) ms
any_whole t ms is k d lt = is

whole_keeps : (w : Setting) → HasWholeTimes w → Keeps w (λ t m. IsWholeTime t) IsWholeHeard
whole_keeps w whole = record {
  begins = whole.begins;
  copies = λ side k at m is. All-weaker (λ (d : ℤ). IsWholeTime d) (λ (d : ℤ). IsWholeTime (at +ℤ d)) (λ d also. whole_sum at d is also) (w.delays side k) (whole.delays side k);
  others = λ side t. by side t (whole.others side t);
  answers = λ one e is. any_whole (time_of one.told) (sent_then (w.comps one.side) e one.told) is;
}
  where
    by : (side : Side) (t : ℤ) → IsWholeTime t ⊎ (w.others side t ≡ []) → All (λ m. IsWholeHeard (came_heard side t m)) (w.others side t)
    by side t (inl is) = any_whole t (w.others side t) is
    by side t (inr none) = subst (All (λ (m : DelayMessage). IsWholeTime t)) (sym none) (All-nil (λ (m : DelayMessage). IsWholeTime t))

-- ---- what each unit sent and what it received

abbrev pub AreWhole : List Timed → Type 0
AreWhole xs = All (λ x. IsWholeTime x.at) xs

abbrev pub IsWholeNode : Node → Type 0
IsWholeNode n = AreWhole n.sent × AreWhole n.came

came_whole : (told : Told) → IsWholeTime (time_of told) → AreWhole (came_with told)
came_whole (begins t id kind) is = All-nil (λ (x : Timed). IsWholeTime x.at)
came_whole (comes t m) is = All-cons (λ (x : Timed). IsWholeTime x.at) (timed t m) [] is (All-nil (λ (x : Timed). IsWholeTime x.at))
came_whole (forgets id) is = All-nil (λ (x : Timed). IsWholeTime x.at)

node_whole : (c : Compensation) (n : Node) (told : Told) → IsWholeNode n → IsWholeTime (time_of told) → IsWholeNode (told_node c n told)
node_whole c n told before is = (
  All-append (λ (x : Timed). IsWholeTime x.at) n.sent (map (timed (time_of told)) (sent_then c n.exchange told)) before.0
      (All-map (λ (x : Timed). IsWholeTime x.at) (timed (time_of told)) (sent_then c n.exchange told) (any_whole (time_of told) (sent_then c n.exchange told) is)),
  All-append (λ (x : Timed). IsWholeTime x.at) n.came (came_with told) before.1 (came_whole told is),
)

abbrev pub IsWholeMeasurement : Measurement → Type 0
IsWholeMeasurement m = IsWholeNode m.ru × IsWholeNode m.du

told_whole : (comps : Side → Compensation) (side : Side) (told : Told) (m : Measurement) → IsWholeMeasurement m → IsWholeTime (time_of told) → IsWholeMeasurement (with_node side (told_node (comps side) (node_of side m) told) m)
told_whole comps Ru told m before is = (node_whole (comps Ru) m.ru told before.0 is, before.1)
told_whole comps Du told m before is = (before.0, node_whole (comps Du) m.du told before.1 is)

fresh_whole : IsWholeNode fresh
fresh_whole = (All-nil (λ (x : Timed). IsWholeTime x.at), All-nil (λ (x : Timed). IsWholeTime x.at))

measured_whole : (comps : Side → Compensation) (id : ℕ) (heard : List Heard) → All IsWholeHeard heard → IsWholeMeasurement (measured comps id heard)
measured_whole comps id [] all = (fresh_whole, fresh_whole)
measured_whole comps id (one ∷ earlier) all =
    let before = measured_whole comps id earlier (All-tail IsWholeHeard one earlier all) in
    elim (cases_Bool (id_of one.told == id)) [
      | inl is ↦ let now = told_whole comps one.side one.told (measured comps id earlier) before (All-head IsWholeHeard one earlier all) in rw is now
      | inr not_it ↦ rw not_it before
    ]

of_side : (m : Measurement) (side : Side) → IsWholeMeasurement m → IsWholeNode (node_of side m)
of_side m Ru all = all.0
of_side m Du all = all.1

pub tick_exact : TickDelaysAreExact
tick_exact w pure are times first n later one earlier v is known =
    let id : ℕ = id_of one.told in
    let m = tick_delays w pure are first n later one earlier v is known in
    let pair : Measurement = measured w.comps id (state w first n).heard in
    let all = measured_whole w.comps id (state w first n).heard (all_kept w (λ t m. IsWholeTime t) IsWholeHeard (whole_keeps w times) first n).heard in
    let sent = All-contains (λ (x : Timed). IsWholeTime x.at) (node_of m.side pair).sent m.has.request (of_side pair m.side all).0 (the_first (node_of m.side pair).sent m.has.request m.has.alone).0 in
    let came = All-contains (λ (x : Timed). IsWholeTime x.at) (node_of (other m.side) pair).came m.has.copy (of_side pair (other m.side) all).1 m.has.came in
    let at : m.frame.at ≡ m.has.request.at = ap (λ (x : Timed). x.at) m.is in
    let way : (m.has.copy.at -ℤ m.has.request.at) ≡ m.way = (let took = m.took in omega (arith, ints)) in
    record { of_request = m; exact = λ sending receiving. m.has.exact sent came sending receiving ∙ ap (λ (z : ℤ). pos 65536 *ℤ z) way }
