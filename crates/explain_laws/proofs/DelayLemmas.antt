-- The counter of measured delays is the number of their lines.
use Rattle.std.proofs.Common.{◌≡◌, ℕ, ◌+◌, ◌*◌, ℤ, List, [], ◌∷◌, ◌++◌, map, length, refl, sym, ap, ◌∙◌, arith}
use Rattle.std.specs.Prelude.{if◌then◌else◌, filter, Option, Some, None}
use Rattle.std.specs.List.{AllByRecursion, flat_map}
use Rattle.std.specs.Option.{option_to_list}
use Rattle.bfp_codec.specs.declared.samples.Wide.{Wide}
use Rattle.delay_laws.specs.Known.{delay_event, known, known_then}
use Rattle.delay_measure.specs.declared.edge.Compensation.{Compensation}
use Rattle.delay_laws.specs.Nodes.{Heard, delay_of, delay_then, time_of}
use Rattle.delay_laws.specs.Ticks.{Setting, exchange_of}
use Rattle.delay_measure.specs.After.{Told, begins, comes, forgets, id_of}
use Rattle.delay_measure.specs.Stamps.{receiving_stamp, sending_stamp}
use Rattle.delay_measure.specs.Table.{after_message}
use Rattle.delay_measure.specs.declared.states.Exchange.{Exchange}
use Rattle.delay_measure.specs.declared.steps.MeterStep.{MeterStep}
use Rattle.delay_measure.specs.declared.steps.MeterStep.TheVariants.{Send, SendTwo, SendResult, Result as ResultAlone, Again, Noted, Repeat, Unknown}
use Rattle.document_traffic.specs.Settings.{setting_of}
use Rattle.ecpri_frames.specs.Gathering.{whole_messages}
use Rattle.ecpri_frames.specs.Messages.{Message, pdu}
use Rattle.ecpri_frames.specs.declared.refusals.PduRefusal.{PduRefusal}
use Rattle.fault_counters.specs.Counts.{capped, once, times}
use Rattle.fault_counters.specs.declared.kinds.Counter.{Counter}
use Rattle.fault_counters.specs.declared.kinds.Counter.TheVariants as counter
use Rattle.air_source.specs.Units.{same_side}
use Rattle.air_source.specs.declared.events.AirCell.{AirCell}
use Rattle.air_source.specs.declared.events.Event.{Event}
use Rattle.air_source.specs.declared.events.Event.TheVariants as event
use Rattle.air_source.specs.declared.events.Side.{Side}
use Rattle.air_source.specs.declared.events.Side.TheVariants.{Ru, Du}
use Rattle.window_config.specs.declared.config.Config.{Config}
use Rattle.document_traffic.specs.Doings.{counted_by, counted_then}
use Rattle.document_traffic.specs.Exchanged.{counted_of, delays_counted, is_delay_event, is_short, short_counted, shorts_of}
use Rattle.document_traffic.specs.Measured.{exchanges, others_of}
use Rattle.document_traffic.specs.Replayed.{landings_for, traffic_of}
use Rattle.document_traffic.proofs.CountedLemmas.{counters_have_counted}
use Rattle.document_traffic.proofs.ExchangedLemmas.{delay_events_are_known}
use Rattle.unit_model.specs.Counts.{block_counter, cells_counted, command_counter, data_counter, fragment_counter, refusal_counted}
use Rattle.unit_model.specs.Meetings.{Arrival}
use Rattle.unit_model.specs.Reports.{arrivals_counted, met}
use Rattle.unit_model.specs.declared.verdicts.CommandVerdict.{CommandVerdict}
use Rattle.unit_model.specs.declared.verdicts.CommandVerdict.TheVariants as control
use Rattle.unit_model.specs.declared.verdicts.DataVerdict.{DataVerdict}
use Rattle.unit_model.specs.declared.verdicts.DataVerdict.TheVariants as user
use Rattle.ecpri_fragments.specs.declared.verdict.Verdict.{Verdict}
use Rattle.ecpri_fragments.specs.declared.verdict.Verdict.TheVariants as fragment
use Rattle.unit_model.proofs.CountLemmas.{times-append}
use Rattle.unit_model.specs.Judgements.{judgements}
use Rattle.explain_laws.proofs.CountedLemmas.{are_counted}
use Rattle.replay_laws.specs.Events.{events}
use Rattle.unit_model.specs.Heard.{arrivals_heard, cells_heard}
use Rattle.replay_laws.specs.Moments.{all_arrivals}
use Rattle.explain_model.specs.declared.values.CommandAnswer.{CommandAnswer}
use Rattle.explain_model.specs.declared.values.CommandAnswer.TheVariants as answer
use Rattle.explain_model.specs.declared.values.ExplainLine.{ExplainLine}
use Rattle.explain_model.specs.declared.values.ExplainLine.TheVariants as line
use Rattle.explain_model.specs.declared.values.WholeAnswer.{WholeAnswer}
use Rattle.explain_model.specs.declared.values.WholeAnswer.TheVariants as whole
use Rattle.explain_model.specs.Cells.{event_lines}
use Rattle.explain_model.specs.Sections.{judged_lines}
use Rattle.explain_laws.specs.Counted.{answer_words, delay_count, whole_word, word_count, words}
use Rattle.explain_laws.specs.Delays.{DelaysAreLines}
use Rattle.explain_laws.proofs.CountLemmas.{any_events, messages_said, none_counted}
use Rattle.explain_laws.proofs.EachLemmas.{IsInner, judged_inner}

abbrev result : Counter
result = counter.DelayResult

-- ---- no unit counts a delay itself

no_command : (v : CommandVerdict) → once (command_counter v) result ≡ 0
no_command control.Mismatch = refl
no_command control.Late = refl
no_command control.Early = refl
no_command control.Range = refl
no_command control.Repeat = refl
no_command control.Overlap = refl
no_command control.Full = refl
no_command control.Accepted = refl

no_fragment : (v : Verdict) → once (fragment_counter v) result ≡ 0
no_fragment fragment.Stored = refl
no_fragment fragment.Whole = refl
no_fragment fragment.Repeat = refl
no_fragment fragment.Stray = refl
no_fragment fragment.TooLong = refl

no_section : (v : DataVerdict) → once (data_counter v) result ≡ 0
no_section user.Late = refl
no_section user.Early = refl
no_section user.Repeat = refl
no_section user.Taken = refl

no_whole : (a : WholeAnswer) → once (whole_word a) result ≡ 0
no_whole (whole.Refused r) = refl
no_whole whole.WrongWay = refl

no_answer : (a : CommandAnswer) → times (answer_words a ++ counter.Messages ∷ []) result ≡ 0
no_answer answer.Read = refl
no_answer answer.Fragmented = refl
no_answer (answer.Refused r) = refl
no_answer answer.WrongWay = refl

no_refusal : (o : Option PduRefusal) → times (refusal_counted o ++ counter.Frames ∷ []) result ≡ 0
no_refusal None = refl
no_refusal (Some r) = refl

no_block : (o : Option (List Wide)) → once (block_counter o) result ≡ 0
no_block None = refl
no_block (Some samples) = refl

inner_none : (l : ExplainLine) → IsInner l → times (words l) result ≡ 0
inner_none (line.Measure number place size) h = refl
inner_none (line.Other number place kind size) h = refl
inner_none (line.Short number place kind size) h = refl
inner_none (line.Unknown message kind) h = refl
inner_none (line.Command message said) h = no_answer said
inner_none (line.Control s) h = omega (arith, no_command s.verdict)
inner_none (line.Fragment message bytes v) h = omega (arith, no_fragment v)
inner_none (line.Whole w) h = omega (arith, no_whole w.answer)
inner_none (line.Data s) h = omega (arith, no_section s.verdict)
inner_none _ h = absurd h

lines_none : (ls : List ExplainLine) → AllByRecursion IsInner ls → times (flat_map words ls) result ≡ 0
lines_none [] h = refl
lines_none (l ∷ ls) h = omega (arith, inner_none l h.0, lines_none ls h.1, times-append (words l) (flat_map words ls) result)

arrivals_none : (side : Side) (c : Config) (arrivals : List Arrival) → times (arrivals_counted side c arrivals) result ≡ 0
arrivals_none side c [] = none_counted side c result
arrivals_none side c (a ∷ earlier) =
    let js = judgements side c earlier a in
    omega (
      arith,
      are_counted side c earlier a result,
      no_refusal (pdu a.frame).refusal,
      messages_said side result c a.at 0 [] (met side c earlier) (whole_messages a.frame),
      lines_none (judged_lines c side 0 [] js) (judged_inner c side 0 [] js),
      arrivals_none side c earlier,
    )

cells_none : (cells : List AirCell) → times (cells_counted cells) result ≡ 0
cells_none [] = refl
cells_none (a ∷ cells) = omega (arith, no_block a.block, cells_none cells)

-- ---- the delays that are told

counts-append : (side : Side) (xs ys : List Event) → delay_count side (xs ++ ys) ≡ delay_count side xs + delay_count side ys
unfolding delay_count
counts-append side [] ys = omega arith
counts-append side (event.Delay at at_side id value ∷ xs) ys = omega (arith, counts-append side xs ys)
counts-append side (event.Arrival at_side at frame ∷ xs) ys = counts-append side xs ys
counts-append side (event.Cell a ∷ xs) ys = counts-append side xs ys
counts-append side (event.Count at_side k value ∷ xs) ys = counts-append side xs ys

only_delays : (side : Side) (es : List Event) → delay_count side es ≡ delay_count side (filter is_delay_event es)
unfolding delay_count
only_delays side [] = refl
only_delays side (event.Delay at at_side id value ∷ es) = omega (arith, only_delays side es)
only_delays side (event.Arrival at_side at frame ∷ es) = only_delays side es
only_delays side (event.Cell a ∷ es) = only_delays side es
only_delays side (event.Count at_side k value ∷ es) = only_delays side es

-- ---- each is counted when it becomes known

step_counted : (s : MeterStep) → times (counted_by s) result ≡ length (option_to_list (delay_of s))
step_counted (Send m) = refl
step_counted (SendTwo m n) = refl
step_counted (SendResult m delay) = refl
step_counted (ResultAlone delay) = refl
step_counted (Again m) = refl
step_counted Noted = refl
step_counted Repeat = refl
step_counted Unknown = refl

told_counted : (c : Compensation) (e : Exchange) (one : Told) → times (counted_then c e one) result ≡ length (option_to_list (delay_then c e one))
told_counted c e (begins t id kind) = refl
told_counted c e (comes t m) = step_counted (after_message e m (sending_stamp t c.sending) (receiving_stamp t c.receiving)).1
told_counted c e (forgets id) = refl

event_counted : (side at_side : Side) (id : ℕ) (at : ℤ) (o : Option ℤ)
    → delay_count side (map (delay_event at_side id at) (option_to_list o)) ≡ (if same_side at_side side then length (option_to_list o) else 0)
unfolding delay_count
event_counted Ru Ru id at None = refl
event_counted Ru Ru id at (Some delay) = refl
event_counted Ru Du id at None = refl
event_counted Ru Du id at (Some delay) = refl
event_counted Du Ru id at None = refl
event_counted Du Ru id at (Some delay) = refl
event_counted Du Du id at None = refl
event_counted Du Du id at (Some delay) = refl

-- what a unit counts of one thing more, with the delay that becomes known by it
one_counted : (w : Setting) (side : Side) (earlier : List Heard) (at_side : Side) (told : Told)
    → times (let l : List Counter = if same_side side at_side then counted_then (w.comps side) (exchange_of w earlier side (id_of told)) told else [] in l) result
    ≡ (if same_side at_side side then length (option_to_list (delay_then (w.comps at_side) (exchange_of w earlier at_side (id_of told)) told)) else 0)
one_counted w Ru earlier Ru told = told_counted (w.comps Ru) (exchange_of w earlier Ru (id_of told)) told
one_counted w Ru earlier Du told = refl
one_counted w Du earlier Ru told = refl
one_counted w Du earlier Du told = told_counted (w.comps Du) (exchange_of w earlier Du (id_of told)) told

nothing_known : (side : Side) → delay_count side [] ≡ 0
unfolding delay_count
nothing_known side = refl

known_counted : (w : Setting) (side : Side) (heard : List Heard) → times (counted_of w side heard) result ≡ delay_count side (known w heard)
known_counted w side [] = sym (nothing_known side)
known_counted w side (one ∷ earlier) =
    let now : List Counter = if same_side side one.side then counted_then (w.comps side) (exchange_of w earlier side (id_of one.told)) one.told else [] in
    omega (
      arith,
      times-append now (counted_of w side earlier) result,
      one_counted w side earlier one.side one.told,
      event_counted side one.side (id_of one.told) (time_of one.told) (delay_then (w.comps one.side) (exchange_of w earlier one.side (id_of one.told)) one.told),
      counts-append side (known w earlier) (known_then w earlier one),
      known_counted w side earlier,
    )

-- what is too short is no delay
short_none : (ms : List Message) → times (map short_counted ms) result ≡ 0
short_none [] = refl
short_none (m ∷ ms) = omega (arith, short_none ms)

shorts_none : (arrivals : List Arrival) → times (flat_map (λ a. shorts_of a.frame) arrivals) result ≡ 0
shorts_none [] = refl
shorts_none (a ∷ arrivals) =
    omega (arith, times-append (shorts_of a.frame) (flat_map (λ a. shorts_of a.frame) arrivals) result, short_none (filter is_short (whole_messages a.frame)), shorts_none arrivals)

-- ---- the counter

sum_is : (a x n : ℕ) → a ≡ 0 → x ≡ 0 → a + (x + n * 1) ≡ n
sum_is a x n p q = omega (arith, p, q)

pub delays_are_lines : DelaysAreLines
delays_are_lines d is side =
    let c = d.config in
    let es = events c (traffic_of d) in
    let w = setting_of d (others_of d) in
    let counted = delays_counted d side in
    let lines : word_count side result (event_lines c es) ≡ delay_count side es =
    any_events c es side result
    ∙ sum_is (times (arrivals_counted side c (arrivals_heard side [] es)) result) (times (cells_counted (cells_heard side es)) result) (delay_count side es)
    (arrivals_none side c (arrivals_heard side [] es)) (cells_none (cells_heard side es)) in
    let told : delay_count side es ≡ delay_count side (known w (exchanges d).heard) = only_delays side es ∙ ap (delay_count side) (delay_events_are_known d is) in
    let times_counted : times counted result ≡ delay_count side (known w (exchanges d).heard) =
    omega (
      arith,
      times-append (counted_of w side (exchanges d).heard) (flat_map (λ a. shorts_of a.frame) (all_arrivals (landings_for side d))) result,
      known_counted w side (exchanges d).heard,
      shorts_none (all_arrivals (landings_for side d)),
    ) in
    counters_have_counted d is side result refl ∙ ap capped (times_counted ∙ sym (lines ∙ told))
