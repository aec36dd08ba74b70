-- What leaves for a unit is in the order of time.
use Rattle.std.proofs.Common.{◌≡◌, ℕ, ℤ, pos, ◌+ℤ◌, ◌≤ℤ◌, List, [], ◌∷◌, length, map, sym, subst, arith}
use Rattle.std.specs.Int.{int_gap}
use Rattle.std.specs.List.{AllPairs}
use Rattle.std.proofs.lemmas.List.Kept.{AllPairs-cons}
use Rattle.air_source.specs.declared.events.Side.{Side}
use Rattle.air_source.specs.declared.events.Side.TheVariants.{Ru, Du}
use Rattle.air_source.specs.declared.links.LinkFrame.{LinkFrame}
use Rattle.fh_document.specs.declared.document.Document.{Document}
use Rattle.schedule_laws.proofs.LeastLemmas.{sent_rising}
use Rattle.unit_model.specs.Radiated.{first_clock}
use Rattle.unit_model.specs.Times.{end_of_time}
use Rattle.uplink_model.proofs.SentLemmas.{leaving_leave_then}
use Rattle.uplink_model.specs.Sent.{in_sent_order, leaving_at}
use Rattle.document_traffic.specs.Landing.{handed_for, leaving_answer, leaving_to}
use Rattle.document_traffic.specs.Laws.{LeavingAreInOrder}
use Rattle.document_traffic.specs.Sending.{Leaving, leaving_of, lines_of, sent_for}
use Rattle.fh_base.proofs.MemberLemmas.{all_of}
use Rattle.fh_base.proofs.MadeLists.{in_all, of_map}
use Rattle.fh_base.proofs.RisingLemmas.{IsRising, ticks_rising}

-- ---- what leaves for either unit

rising_map : {X Y : Type 0} (f : X → Y) (key : Y → ℤ) (xs : List X) → IsRising (λ x. key (f x)) xs → IsRising key (map f xs)
rising_map f key [] h = tt
rising_map f key (x ∷ xs) h = (
  λ y m. (let w = of_map f y xs m in subst (λ (z : _). key (f x) ≤ℤ key z) (sym w.2) (h.0 w.0 w.1)),
  rising_map f key xs h.1,
)

pub answers_rising : (n : ℕ) (fs : List LinkFrame) → IsRising (λ (f : LinkFrame). f.at.0) (in_sent_order n fs)
unfolding in_sent_order
answers_rising n fs =
    ticks_rising (λ (f : LinkFrame). f.at.0) first_clock (int_gap first_clock (end_of_time +ℤ pos 1)) (leaving_at n fs)
    (λ t f m. in_all (λ (g : LinkFrame). g.at.0 ≡ t) f (leaving_at n fs t) (leaving_leave_then n fs t) m)

pub leaving_rising : (side : Side) (d : Document) → IsRising (λ (f : Leaving). f.at) (leaving_to side d)
leaving_rising Ru d = rising_map (leaving_of d) (λ (f : Leaving). f.at) (sent_for d) (sent_rising d.config (lines_of d))
leaving_rising Du d =
    let n = length d.config.endpoints in
    rising_map leaving_answer (λ (f : Leaving). f.at) (in_sent_order n (handed_for d)) (answers_rising n (handed_for d))

pairs_rising : {X : Type 0} (key : X → ℤ) (xs : List X) → IsRising key xs → AllPairs (λ x y. key x ≤ℤ key y) xs
pairs_rising key [] h = λ i j d low high. absurd (omega arith)
pairs_rising key (x ∷ xs) h = AllPairs-cons (λ y z. key y ≤ℤ key z) x xs (all_of (λ y. key x ≤ℤ key y) xs h.0) (pairs_rising key xs h.1)

pub leaving_in_order : LeavingAreInOrder
leaving_in_order d side = pairs_rising (λ (f : Leaving). f.at) (leaving_to side d) (leaving_rising side d)
