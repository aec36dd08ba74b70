-- Where frames leave by a time, all that lands lands three seconds later at most.
use Rattle.std.proofs.Common.{ℤ, pos, ◌+ℤ◌, ◌≤ℤ◌, inl, inr, List, sym, subst}
use Rattle.std.specs.Prelude.{filter}
use Rattle.air_source.specs.declared.events.Side.{Side}
use Rattle.fh_document.specs.DeliverLines.{least_of}
use Rattle.fh_document.specs.Proper.{IsDocument, IsFrom, IsInjection}
use Rattle.fh_document.specs.declared.document.Document.{Document}
use Rattle.frame_ways.proofs.Within.{copies_within}
use Rattle.frame_ways.specs.Copies.{copies_of}
use Rattle.unit_model.specs.Meetings.{Arrival}
use Rattle.document_traffic.specs.Landing.{copies_among, copies_in, copy_at, injected_at, injected_to, is_to, landing_with}
use Rattle.document_traffic.specs.Sending.{Delayed, Leaving, delayed_behind, none_sent}
use Rattle.document_traffic.proofs.CopyLemmas.{delayed_is, of_copies}
use Rattle.document_traffic.proofs.TimeLemmas.{IsBy, copy_lands, injected_lands, longest}
use Rattle.fh_document.specs.declared.config_lines.TheConstants.{MOST_TRANSIT}
use Rattle.fh_base.specs.Members.{IsIn}
use Rattle.fh_base.proofs.MemberLemmas.{in_either, of_filter}
use Rattle.fh_base.proofs.MadeLists.{in_all, of_map}

module _ (d : Document) (is : IsDocument d) (side : Side) (fs : List Leaving) (last : ℤ) (late : pos 1536000000000000 ≤ℤ last) (leaves : (f : Leaving) → IsIn f fs → IsBy last f.at) where
  pub copy_of_each : (x : Delayed) (a : Arrival) → IsIn x (delayed_behind d side none_sent fs) → IsIn a (copies_in x) → IsBy (last +ℤ longest) a.at
  copy_of_each x a m i =
      let w = delayed_is d side none_sent fs x m in
      let class = x.frame.class in
      let ns = of_map (copy_at x.frame) a x.delays i in
      let within = in_all (IsFrom (least_of class) MOST_TRANSIT) ns.0 (copies_of d side class w.number) (copies_within d is.transits is.deliveries side class w.number)
      (subst (λ (delays : List ℤ). IsIn ns.0 delays) w.delays_are ns.1) in
      subst (λ (b : Arrival). IsBy (last +ℤ longest) b.at) (sym ns.2) (copy_lands last x.frame.at ns.0 (least_of class) (leaves x.frame w.there) within.low within.high)

  pub injected_of_each : (a : Arrival) → IsIn a (injected_to side d) → IsBy (last +ℤ longest) a.at
  injected_of_each a m =
      let i = of_map injected_at a (filter (is_to side) d.injections) m in
      let there = of_filter (is_to side) i.0 d.injections i.1 in
      let time = (in_all IsInjection i.0 d.injections is.injections there.0).time in
      subst (λ (b : Arrival). IsBy (last +ℤ longest) b.at) (sym i.2) (injected_lands last i.0.at late time.low time.high)

  pub each_lands : (a : Arrival) → IsIn a (landing_with d side fs) → IsBy (last +ℤ longest) a.at
  each_lands a m = elim (in_either a (copies_among (delayed_behind d side none_sent fs)) (injected_to side d) m) [
    | inl copy ↦ (let x = of_copies (delayed_behind d side none_sent fs) a copy in copy_of_each x.0 a x.1 x.2)
    | inr injected ↦ injected_of_each a injected
  ]
