-- Which frames have copies, and which copies they have.
use Rattle.std.proofs.Common.{◌≡◌, ℕ, inl, inr, List, [], ◌∷◌, refl, sym, subst}
use Rattle.air_source.specs.declared.events.Side.{Side}
use Rattle.fh_document.specs.declared.document.Document.{Document}
use Rattle.frame_ways.specs.Copies.{copies_of}
use Rattle.unit_model.specs.Meetings.{Arrival}
use Rattle.document_traffic.specs.Landing.{copies_among, copies_in}
use Rattle.document_traffic.specs.Sending.{Delayed, Leaving, SentCounts, count_of, counted, delayed, delayed_behind}
use Rattle.fh_base.specs.Members.{IsIn}
use Rattle.fh_base.proofs.MemberLemmas.{in_either, in_left, in_right}

-- ---- each frame, with its copies

-- one of these frames, with the copies of some number of its class
pub record IsDelayed (d : Document) (side : Side) (fs : List Leaving) (x : Delayed) : Type 0 where
  pub there : IsIn x.frame fs
  pub number : ℕ
  pub delays_are : x.delays ≡ copies_of d side x.frame.class number

pub delayed_is : (d : Document) (side : Side) (n : SentCounts) (fs : List Leaving) (x : Delayed) → IsIn x (delayed_behind d side n fs) → IsDelayed d side fs x
unfolding delayed_behind
delayed_is d side n [] x m = absurd m
delayed_is d side n (f ∷ fs) x m =
    let now = counted f.class n in
    elim m [
      | inl e ↦ subst (IsDelayed d side (f ∷ fs)) (sym e) (record { there = inl refl; number = count_of f.class now; delays_are = refl })
      | inr t ↦ (let w = delayed_is d side now fs x t in record { there = inr w.there; number = w.number; delays_are = w.delays_are })
    ]

pub in_delayed : (d : Document) (side : Side) (n : SentCounts) (fs : List Leaving) (f : Leaving) → IsIn f fs → (x : Delayed) × IsIn x (delayed_behind d side n fs) × (x.frame ≡ f)
unfolding delayed_behind
in_delayed d side n [] f m = absurd m
in_delayed d side n (g ∷ fs) f m =
    let now = counted g.class n in
    elim m [
      | inl e ↦ (delayed d side now g, inl refl, sym e)
      | inr t ↦ (let w = in_delayed d side now fs f t in (w.0, inr w.1, w.2))
    ]

-- ---- the copies of all of them

pub of_copies : (xs : List Delayed) (a : Arrival) → IsIn a (copies_among xs) → (x : Delayed) × IsIn x xs × IsIn a (copies_in x)
of_copies [] a m = absurd m
of_copies (x ∷ xs) a m = elim (in_either a (copies_in x) (copies_among xs) m) [
  | inl l ↦ (x, inl refl, l)
  | inr r ↦ (let w = of_copies xs a r in (w.0, inr w.1, w.2))
]

pub in_copies : (xs : List Delayed) (x : Delayed) (a : Arrival) → IsIn x xs → IsIn a (copies_in x) → IsIn a (copies_among xs)
in_copies [] x a m i = absurd m
in_copies (y ∷ xs) x a m i = elim m [
  | inl e ↦ in_left a (copies_in y) (copies_among xs) (subst (λ (z : Delayed). IsIn a (copies_in z)) e i)
  | inr t ↦ in_right a (copies_in y) (copies_among xs) (in_copies xs x a t i)
]
