-- What lands once one frame more was sent.
use Rattle.std.proofs.Common.{◌≡◌, ℤ, List, [], ◌∷◌, ◌++◌, refl, sym, ap, ◌∙◌, append_assoc, append-nil}
use Rattle.air_source.specs.declared.events.Side.{Side}
use Rattle.frame_ways.specs.Landing.{copies_among, copies_in, landing_at}
use Rattle.frame_ways.specs.Leaving.{Delayed, Leaving, SentCounts, counted, counted_all, delayed, delayed_behind, none_sent}
use Rattle.fh_document.specs.declared.document.Document.{Document}
use Rattle.unit_model.specs.Meetings.{Arrival}
use Rattle.frame_ways.specs.Ways.{OnWay, copies_on, counts_on, having_sent}
use Rattle.frame_ways.proofs.FlightLemmas.{landing-append}

-- ---- frames that are sent one list after the other

pub counted-append : (n : SentCounts) (xs ys : List Leaving) → counted_all n (xs ++ ys) ≡ counted_all (counted_all n xs) ys
counted-append n [] ys = refl
counted-append n (x ∷ xs) ys = counted-append (counted x.class n) xs ys

pub none_behind : (d : Document) (side : Side) (n : SentCounts) → delayed_behind d side n [] ≡ []
unfolding delayed_behind
none_behind d side n = refl

pub next_behind : (d : Document) (side : Side) (n : SentCounts) (x : Leaving) (xs : List Leaving)
    → delayed_behind d side n (x ∷ xs) ≡ delayed d side (counted x.class n) x ∷ delayed_behind d side (counted x.class n) xs
unfolding delayed_behind
next_behind d side n x xs = refl

pub behind-append : (d : Document) (side : Side) (n : SentCounts) (xs ys : List Leaving)
    → delayed_behind d side n (xs ++ ys) ≡ delayed_behind d side n xs ++ delayed_behind d side (counted_all n xs) ys
behind-append d side n [] ys = ap (λ (zs : List Delayed). zs ++ delayed_behind d side n ys) (sym (none_behind d side n))
behind-append d side n (x ∷ xs) ys =
    let m = counted x.class n in
    next_behind d side n x (xs ++ ys)
    ∙ ap (λ (zs : List Delayed). delayed d side m x ∷ zs) (behind-append d side m xs ys)
    ∙ ap (λ (zs : List Delayed). zs ++ delayed_behind d side (counted_all m xs) ys) (sym (next_behind d side n x xs))

pub among-append : (xs ys : List Delayed) → copies_among (xs ++ ys) ≡ copies_among xs ++ copies_among ys
among-append [] ys = refl
among-append (x ∷ xs) ys = ap (λ (zs : List Arrival). copies_in x ++ zs) (among-append xs ys) ∙ sym (append_assoc (copies_in x) (copies_among xs) (copies_among ys))

-- ---- one more

pub counted_one : (v : OnWay) (f : Leaving) → counts_on (having_sent v f) ≡ counted f.class (counts_on v)
counted_one v f = counted-append none_sent v.sent (f ∷ [])

one_behind : (d : Document) (side : Side) (n : SentCounts) (f : Leaving) → copies_among (delayed_behind d side n (f ∷ [])) ≡ copies_in (delayed d side (counted f.class n) f)
unfolding delayed_behind
one_behind d side n f = append-nil (copies_in (delayed d side (counted f.class n) f))

-- its copies are after those of the frames before it
pub copies_more : (v : OnWay) (f : Leaving) (t : ℤ)
    → landing_at (copies_on (having_sent v f)) t ≡ landing_at (copies_on v) t ++ landing_at (copies_in (delayed v.document v.side (counted f.class (counts_on v)) f)) t
copies_more v f t =
    let d = v.document in
    let n = counts_on v in
    ap (λ (xs : List Delayed). landing_at (copies_among xs) t) (behind-append d v.side none_sent v.sent (f ∷ []))
    ∙ ap (λ (xs : List Arrival). landing_at xs t) (among-append (delayed_behind d v.side none_sent v.sent) (delayed_behind d v.side n (f ∷ [])))
    ∙ landing-append (copies_on v) (copies_among (delayed_behind d v.side n (f ∷ []))) t
    ∙ ap (λ (xs : List Arrival). landing_at (copies_on v) t ++ landing_at xs t) (one_behind d v.side n f)
