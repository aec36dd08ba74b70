-- Where each frame that leaves for a unit is carried and nothing is injected, what lands at the unit are copies of them, in the
-- transport's bounds, and each has one.
use Rattle.std.proofs.Common.{◌≡◌, ◌≢◌, ℤ, ◌+ℤ◌, ◌≤ℤ◌, inl, inr, List, [], ◌∷◌, map, refl, sym, subst, arith}
use Rattle.std.specs.Prelude.{All, filter}
use Rattle.std.proofs.lemmas.Int.{ints}
use Rattle.air_source.specs.declared.events.Side.{Side}
use Rattle.fh_document.specs.declared.document.Document.{Document}
use Rattle.fh_document.specs.declared.document.Injection.{Injection}
use Rattle.unit_model.specs.Meetings.{Arrival}
use Rattle.window_config.specs.Windows.{ticks_of_ns}
use Rattle.window_config.specs.declared.delays.Range.{Range}
use Rattle.document_traffic.specs.Landing.{copies_among, copy_at, injected_at, injected_to, is_to, landing_with}
use Rattle.document_traffic.specs.Sending.{Delayed, Leaving, delayed_behind, none_sent}
use Rattle.document_traffic.specs.Undisturbed.{IsCarried}
use Rattle.document_traffic.proofs.CopyLemmas.{delayed_is, in_copies, in_delayed, of_copies}
use Rattle.fh_base.specs.Members.{IsIn}
use Rattle.fh_base.proofs.MemberLemmas.{in_either, in_left}
use Rattle.fh_base.proofs.MadeLists.{in_all, in_map, of_map}

-- a copy of a frame, so long after it left
pub record IsCopyOf (bounds : Range) (f : Leaving) (a : Arrival) : Type 0 where
  pub from : (f.at +ℤ ticks_of_ns bounds.min) ≤ℤ a.at
  pub to : a.at ≤ℤ (f.at +ℤ ticks_of_ns bounds.max)
  pub bytes : a.frame ≡ f.frame

longer : (at x y : ℤ) → x ≤ℤ y → (at +ℤ ticks_of_ns x) ≤ℤ (at +ℤ ticks_of_ns y)
longer at x y h = omega (arith, ints, h)

some_in : (xs : List ℤ) → xs ≢ [] → (x : ℤ) × IsIn x xs
some_in [] h = absurd (h refl)
some_in (x ∷ xs) h = (x, inl refl)

-- each copy of a frame that is carried
carried_copy : (bounds : Range) (x : Delayed) (ns : ℤ) → IsCarried bounds x → IsIn ns x.delays → IsCopyOf bounds x.frame (copy_at x.frame ns)
carried_copy bounds x ns carried m =
    let low = in_all (λ (y : ℤ). bounds.min ≤ℤ y) ns x.delays carried.from m in
    let high = in_all (λ (y : ℤ). y ≤ℤ bounds.max) ns x.delays carried.to m in
    record { from = longer x.frame.at bounds.min ns low; to = longer x.frame.at ns bounds.max high; bytes = refl }

module _ (d : Document) (side : Side) (fs : List Leaving) (bounds : Range) (carried : All (IsCarried bounds) (delayed_behind d side none_sent fs)) (alone : d.injections ≡ []) where
  abbrev xs : List Delayed
  xs = delayed_behind d side none_sent fs

  pub each_is_copy : (a : Arrival) → IsIn a (landing_with d side fs) → (f : Leaving) × IsIn f fs × IsCopyOf bounds f a
  each_is_copy a m = elim (in_either a (copies_among xs) (injected_to side d) m) [
    | inl copy ↦
        (let x = of_copies xs a copy in
        let ns = of_map (copy_at x.0.frame) a x.0.delays x.2 in
        let is = carried_copy bounds x.0 ns.0 (in_all (IsCarried bounds) x.0 xs carried x.1) ns.1 in
        (x.0.frame, (delayed_is d side none_sent fs x.0 x.1).there, subst (IsCopyOf bounds x.0.frame) (sym ns.2) is))
    | inr injected ↦ absurd (subst (λ (is : List Injection). IsIn a (map injected_at (filter (is_to side) is))) alone injected)
  ]

  pub each_has_copy : (f : Leaving) → IsIn f fs → (a : Arrival) × IsIn a (landing_with d side fs) × IsCopyOf bounds f a
  each_has_copy f m =
      let x = in_delayed d side none_sent fs f m in
      let is = in_all (IsCarried bounds) x.0 xs carried x.1 in
      let ns = some_in x.0.delays is.some in
      let a = copy_at x.0.frame ns.0 in
      let copy = in_copies xs x.0 a x.1 (in_map (copy_at x.0.frame) ns.0 x.0.delays ns.1) in
      (a, in_left a (copies_among xs) (injected_to side d) copy, subst (λ (g : Leaving). IsCopyOf bounds g a) x.2 (carried_copy bounds x.0 ns.0 is ns.1))
