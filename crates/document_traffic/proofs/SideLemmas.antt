-- What a unit is told goes on with its side of what both units heard.
use Rattle.std.proofs.Common.{◌≡◌, ℕ, ℤ, ltb, false, if◌then◌else◌, List, [], ◌∷◌, ◌++◌, length, refl, sym, ap, ap₂, ◌∙◌, subst, append-nil, append_assoc, inl, inr}
use Rattle.std.specs.Prelude.{Bool, filter, map, Option, Some, None}
use Rattle.std.specs.List.{flat_map}
use Rattle.std.specs.Option.{option_to_list}
use Rattle.std.proofs.lemmas.Bool.{cases_Bool}
use Rattle.air_source.specs.declared.events.Event.{Event}
use Rattle.air_source.specs.declared.events.Side.{Side}
use Rattle.air_source.specs.declared.events.Side.TheVariants.{Ru, Du}
use Rattle.delay_laws.specs.Known.{known_then, known_while}
use Rattle.delay_laws.proofs.Quiet.{before}
use Rattle.delay_laws.specs.Nodes.{delay_then, sent_then, told_to}
use Rattle.delay_laws.specs.Ticks.{Begin, Hearing, Setting, State, arriving, begin_heard, came_heard, due, hearing, landing, told_all, told_one}
use Rattle.delay_measure.specs.After.{Told, begins, comes, exchange_after, id_of}
use Rattle.delay_measure.specs.Payload.{message_of}
use Rattle.delay_measure.specs.declared.message.DelayMessage.{DelayMessage}
use Rattle.ecpri_frames.specs.Gathering.{whole_messages}
use Rattle.ecpri_frames.specs.Messages.{Message, is_delay}
use Rattle.unit_model.specs.declared.results.DelayResult.{DelayResult}
use Rattle.unit_model.specs.Meetings.{Arrival}
use Rattle.document_traffic.specs.Doings.{Doings, forgotten, results_known_by, told_in, with_begins, with_frame, with_frames, with_message, with_messages}
use Rattle.document_traffic.specs.Measured.{delay_frame, delay_messages, delays_of, read_as}
use Rattle.document_traffic.specs.Sides.{SidesAreTold, IsSideOf, OneIsTold, OthersStay, ResultsAreKnown, heard_at, known_as}
use Rattle.air_source.specs.Units.{other, same_side}
use Rattle.air_source.proofs.Sides.{side_self}

is_not : (side : Side) → same_side (other side) side ≡ false
is_not Ru = refl
is_not Du = refl

framed : (xs ys : List DelayMessage) → map delay_frame (xs ++ ys) ≡ map delay_frame xs ++ map delay_frame ys
framed [] ys = refl
framed (x ∷ xs) ys = ap (λ (zs : List (List ℕ)). delay_frame x ∷ zs) (framed xs ys)

events_of : (side : Side) (t : ℤ) (xs ys : List DelayResult) → map (known_as side t) (xs ++ ys) ≡ map (known_as side t) xs ++ map (known_as side t) ys
events_of side t [] ys = refl
events_of side t (x ∷ xs) ys = ap (λ (zs : List Event). known_as side t x ∷ zs) (events_of side t xs ys)

pub one_told : OneIsTold
one_told w side h d one s =
    let c = w.comps side in
    let sent : List Told → List DelayMessage = λ told. sent_then c (exchange_after c.sending c.receiving told (id_of one)) one in
    let next : map delay_frame (h.made side ++ sent (told_to side h.heard)) ≡ map delay_frame (h.made side) ++ map delay_frame (sent (told_to side h.heard)) = framed (h.made side) (sent (told_to side h.heard)) in
    record {
      told = rw (side_self side) (ap (λ (xs : List Told). one ∷ xs) s.told);
      made = rw (side_self side) (ap₂ (λ (xs : List (List ℕ)) (told : List Told). xs ++ map delay_frame (sent told)) s.made s.told ∙ sym next);
    }

-- ---- other

stays : (w : Setting) (side : Side) (h : Hearing) (d : Doings) (one : Told) → IsSideOf (other side) h d → IsSideOf (other side) (told_one w h (heard_at side one)) d
stays w side h d one s = record {
  told = rw (is_not side) s.told;
  made = rw (is_not side) (s.made ∙ ap (map delay_frame) (sym (append-nil (h.made (other side)))));
}

pub others_stay : OthersStay
others_stay w side h d [] s = s
others_stay w side h d (one ∷ ones) s = others_stay w side (told_one w h (heard_at side one)) d ones (stays w side h d one s)

-- ---- the messages of a frame

-- a message goes on with the side, and its delay is what becomes known, after those of the frame before
abbrev pub Follows : Setting → Side → ℤ → Hearing → Doings → List DelayMessage → Doings → Type 0
Follows w side t h d ms e =
    IsSideOf side (told_all w h (map (came_heard side t) ms)) e
    × (map (known_as side t) e.results ≡ map (known_as side t) d.results ++ known_while w h (map (came_heard side t) ms))

-- those that change neither what was told nor what was made
side_stays : (side : Side) (h : Hearing) (d e : Doings) → e.told ≡ d.told → e.made ≡ d.made → IsSideOf side h d → IsSideOf side h e
side_stays side h d e told made s = record { told = told ∙ s.told; made = made ∙ s.made }

rests : (w : Setting) (side : Side) (t : ℤ) (h : Hearing) (d e : Doings) → e.told ≡ d.told → e.made ≡ d.made → e.results ≡ d.results → IsSideOf side h d → Follows w side t h d [] e
rests w side t h d e told made results s =
    (side_stays side h d e told made s, ap (map (known_as side t)) results ∙ sym (append-nil (map (known_as side t) d.results)))

known_one : (side : Side) (id : ℕ) (t : ℤ) (x : Option ℤ) → map (known_as side t) (results_known_by id x) ≡ map (λ v. known_as side t (record { id = id; value = v })) (option_to_list x)
known_one side id t None = refl
known_one side id t (Some v) = refl

-- a message of delay measurement
takes : (w : Setting) (side : Side) (t : ℤ) (h : Hearing) (d : Doings) (m : DelayMessage) → IsSideOf side h d → Follows w side t h d (m ∷ []) (told_in (w.comps side) d (comes t m))
takes w side t h d m s =
    let c = w.comps side in
    let delay : List Told → Option ℤ = λ told. delay_then c (exchange_after c.sending c.receiving told m.id) (comes t m) in (
      one_told w side h d (comes t m) s,
      events_of side t d.results (results_known_by m.id (delay d.told))
          ∙ ap (λ (xs : List Event). map (known_as side t) d.results ++ xs)
          (known_one side m.id t (delay d.told)
          ∙ ap (λ (told : List Told). map (λ v. known_as side t (record { id = m.id; value = v })) (option_to_list (delay told))) s.told
          ∙ sym (append-nil (known_then w h.heard (came_heard side t m)))),
    )

pub follows_one : (w : Setting) (side : Side) (t : ℤ) (h : Hearing) (d : Doings) (m : Message) → IsSideOf side h d → Follows w side t h d (delays_of m) (with_message (w.comps side) t d m)
follows_one w side t h d m s = elim (cases_Bool (is_delay m)) [
  | inl is ↦
      let long : Follows w side t h d (option_to_list (read_as m.payload)) (if ltb (length m.payload) 20 then _ else _) = elim (cases_Bool (ltb (length m.payload) 20)) [
        | inl short ↦ rw short (rests w side t h d _ refl refl refl s)
        | inr whole ↦ rw whole (takes w side t h d (message_of m.payload) s)
      ] in rw is long
  | inr not_it ↦ rw not_it (rests w side t h d d refl refl refl s)
]

-- ---- one after the other

pub all_told : (w : Setting) (side : Side) (t : ℤ) (h : Hearing) (xs ys : List DelayMessage) → told_all w h (map (came_heard side t) (xs ++ ys)) ≡ told_all w (told_all w h (map (came_heard side t) xs)) (map (came_heard side t) ys)
all_told w side t h [] ys = refl
all_told w side t h (x ∷ xs) ys = all_told w side t (told_one w h (came_heard side t x)) xs ys

pub all_known : (w : Setting) (side : Side) (t : ℤ) (h : Hearing) (xs ys : List DelayMessage)
    → known_while w h (map (came_heard side t) (xs ++ ys)) ≡ known_while w h (map (came_heard side t) xs) ++ known_while w (told_all w h (map (came_heard side t) xs)) (map (came_heard side t) ys)
all_known w side t h [] ys = refl
all_known w side t h (x ∷ xs) ys =
    ap (λ (es : List Event). known_then w h.heard (came_heard side t x) ++ es) (all_known w side t (told_one w h (came_heard side t x)) xs ys)
    ∙ sym (append_assoc (known_then w h.heard (came_heard side t x)) _ _)

follows_all : (w : Setting) (side : Side) (t : ℤ) (h : Hearing) (d : Doings) (ms : List Message) → IsSideOf side h d → Follows w side t h d (flat_map delays_of ms) (with_messages (w.comps side) t d ms)
follows_all w side t h d [] s = rests w side t h d d refl refl refl s
follows_all w side t h d (m ∷ ms) s =
    let c = w.comps side in
    let e = with_message c t d m in
    let xs = delays_of m in
    let ys = flat_map delays_of ms in
    let one = follows_one w side t h d m s in
    let later = told_all w h (map (came_heard side t) xs) in
    let all = follows_all w side t later e ms one.0 in
    let events = map (known_as side t) in (
      subst (λ (g : Hearing). IsSideOf side g (with_messages c t e ms)) (sym (all_told w side t h xs ys)) all.0,
      all.1
          ∙ ap (λ (es : List Event). es ++ known_while w later (map (came_heard side t) ys)) one.1
          ∙ append_assoc (events d.results) (known_while w h (map (came_heard side t) xs)) (known_while w later (map (came_heard side t) ys))
          ∙ ap (λ (es : List Event). events d.results ++ es) (sym (all_known w side t h xs ys)),
    )

pub cleared : (side : Side) (h : Hearing) (d : Doings) → IsSideOf side h d → IsSideOf side h (forgotten d)
cleared side h d s = record { told = s.told; made = s.made }

pub frames_told : SidesAreTold
frames_told w side h d t frame s = (follows_all w side t h (forgotten d) (whole_messages frame) (cleared side h d s)).0

pub results_known : ResultsAreKnown
results_known w side h d t frame s = (follows_all w side t h (forgotten d) (whole_messages frame) (cleared side h d s)).1

-- ---- the measurements that begin at it

-- it goes on with its side, whichever unit is told something
pub either_told : (w : Setting) (side to : Side) (h : Hearing) (d : Doings) (one : Told) → IsSideOf side h d → IsSideOf side (told_one w h (heard_at to one)) (if same_side side to then told_in (w.comps side) d one else d)
either_told w Ru Ru h d one s = one_told w Ru h d one s
either_told w Ru Du h d one s = stays w Du h d one s
either_told w Du Ru h d one s = stays w Ru h d one s
either_told w Du Du h d one s = one_told w Du h d one s

pub begins_told : (w : Setting) (side : Side) (h : Hearing) (d : Doings) (bs : List Begin) → IsSideOf side h d
    → IsSideOf side (told_all w h (map begin_heard bs)) (with_begins (w.comps side) d (filter (λ b. same_side side b.side) bs))
begins_told w side h d [] s = s
begins_told w side h d (b ∷ bs) s =
    let next = told_in (w.comps side) d (begins b.at b.id b.kind) in
    let later = told_one w h (begin_heard b) in
    let one = either_told w side b.side h d (begins b.at b.id b.kind) s in
    let now : Bool → Type 0 = λ to. IsSideOf side later (if to then next else d) in
    elim (cases_Bool (same_side side b.side)) [
      | inl its ↦ rw its (begins_told w side later next bs (subst now its one))
      | inr others ↦ rw others (begins_told w side later d bs (subst now others one))
    ]

-- ---- the frames of a tick

abbrev pub messages_of : List Arrival → List DelayMessage
messages_of arrivals = flat_map (λ a. delay_messages a.frame) arrivals

pub all_frames_told : (w : Setting) (side : Side) (t : ℤ) (h : Hearing) (d : Doings) (arrivals : List Arrival) → IsSideOf side h d
    → IsSideOf side (told_all w h (map (came_heard side t) (messages_of arrivals))) (with_frames (w.comps side) t d arrivals)
all_frames_told w side t h d [] s = s
all_frames_told w side t h d (a ∷ more) s =
    let xs = delay_messages a.frame in
    let next = with_frame (w.comps side) t d a.frame in
    let later = told_all w h (map (came_heard side t) xs) in
    subst (λ (g : Hearing). IsSideOf side g (with_frames (w.comps side) t next more)) (sym (all_told w side t h xs (messages_of more)))
    (all_frames_told w side t later next more (frames_told w side h d t a.frame s))

pub others_pass : (w : Setting) (side : Side) (t : ℤ) (h : Hearing) (d : Doings) (ms : List DelayMessage) → IsSideOf (other side) h d → IsSideOf (other side) (told_all w h (map (came_heard side t) ms)) d
others_pass w side t h d [] s = s
others_pass w side t h d (m ∷ ms) s = others_pass w side t (told_one w h (came_heard side t m)) d ms (stays w side h d (comes t m) s)

-- ---- a tick

-- what a unit has once all that begins at it has begun, and these frames were received
abbrev pub ticked : Setting → Side → ℤ → Doings → List Arrival → Doings
ticked w side t d arrivals = with_frames (w.comps side) t (with_begins (w.comps side) d (filter (λ b. same_side side b.side) (due t w.begins))) arrivals

-- where the frames have all messages that are received at it, it goes on with its side of what both hear
pub tick_told : (w : Setting) (side : Side) (t : ℤ) (s : State) (d : Doings) (arrivals : List Arrival) → messages_of arrivals ≡ landing (s.sent side) t ++ w.others side t → IsSideOf side (before s) d
    → IsSideOf side (hearing w t s) (ticked w side t d arrivals)
unfolding hearing
tick_told w Ru t s d arrivals come is =
    let begun = told_all w (before s) (map begin_heard (due t w.begins)) in
    let its = all_frames_told w Ru t begun _ arrivals (begins_told w Ru (before s) d (due t w.begins) is) in
    let now = subst (λ (ms : List DelayMessage). IsSideOf Ru (told_all w begun (map (came_heard Ru t) ms)) (ticked w Ru t d arrivals)) come its in
    others_pass w Du t (told_all w begun (arriving w s Ru t)) (ticked w Ru t d arrivals) (landing (s.sent Du) t ++ w.others Du t) now
tick_told w Du t s d arrivals come is =
    let begun = told_all w (before s) (map begin_heard (due t w.begins)) in
    let both = told_all w begun (arriving w s Ru t) in
    let passed = others_pass w Ru t begun _ (landing (s.sent Ru) t ++ w.others Ru t) (begins_told w Du (before s) d (due t w.begins) is) in
    subst (λ (ms : List DelayMessage). IsSideOf Du (told_all w both (map (came_heard Du t) ms)) (ticked w Du t d arrivals)) come (all_frames_told w Du t both _ arrivals passed)
