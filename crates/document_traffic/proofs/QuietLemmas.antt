-- Without delay measurement in a document the same lands.
use Rattle.std.proofs.Common.{◌≡◌, ℕ, ℤ, pos, ◌+◌, ◌+ℤ◌, List, [], ◌∷◌, ◌++◌, refl, ap, ap₂, ◌∙◌, arith}
use Rattle.std.specs.Prelude.{All, filter, map}
use Rattle.std.specs.List.{flat_map}
use Rattle.std.specs.Ordering.{int_eq}
use Rattle.std.proofs.lemmas.List.Elements.{All-filter, All-head, All-map, All-tail}
use Rattle.air_source.specs.declared.events.Side.{Side}
use Rattle.delay_laws.proofs.Quiet.{quiet_ticks}
use Rattle.delay_laws.specs.Ticks.{Flight, Setting, State, due, landing, state}
use Rattle.delay_measure.specs.declared.message.DelayMessage.{DelayMessage}
use Rattle.document_traffic.specs.Settings.{begin_of, setting_of}
use Rattle.document_traffic.specs.Landing.{injected_at, injected_to, is_to}
use Rattle.fh_document.specs.declared.document.Document.{Document}
use Rattle.fh_document.specs.declared.document.Injection.{Injection}
use Rattle.fh_document.specs.declared.document.Measure.{Measure}
use Rattle.replay_laws.specs.Moments.{landing_at}
use Rattle.unit_model.specs.Meetings.{Arrival}
use Rattle.unit_model.specs.Radiated.{first_clock}
use Rattle.document_traffic.proofs.SentLemmas.{none_measured}
use Rattle.document_traffic.specs.MeasuredLaws.{UnmeasuredLandsTheSame}
use Rattle.document_traffic.specs.Measured.{delay_messages, others_of}
use Rattle.unit_model.specs.Times.{tick_count}

-- ---- no message of delay measurement is received in an injected frame

abbrev pub HasNone : Arrival → Type 0
HasNone a = delay_messages a.frame ≡ []

none_in_all : (arrivals : List Arrival) → All HasNone arrivals → flat_map (λ (a : Arrival). delay_messages a.frame) arrivals ≡ []
none_in_all [] all = refl
none_in_all (a ∷ arrivals) all =
    ap₂ (λ (ms ns : List DelayMessage). ms ++ ns) (All-head HasNone a arrivals all) (none_in_all arrivals (All-tail HasNone a arrivals all))

injected_have_none : (side : Side) (injections : List Injection) → All (λ i. delay_messages i.frame ≡ []) injections → All HasNone (map injected_at (filter (is_to side) injections))
injected_have_none side injections none =
    All-map HasNone injected_at (filter (is_to side) injections) (All-filter (is_to side) (λ (i : Injection). delay_messages i.frame ≡ []) injections none)

pub no_others : (d : Document) (side : Side) (t : ℤ) → All (λ i. delay_messages i.frame ≡ []) d.injections → others_of d side t ≡ []
no_others d side t none =
    none_in_all (landing_at (injected_to side d) t) (All-filter (λ (a : Arrival). int_eq a.at t) HasNone (injected_to side d) (injected_have_none side d.injections none))

-- ---- so no tick does anything

none_due : (ms : List Measure) (t : ℤ) → ms ≡ [] → due t (map begin_of ms) ≡ []
none_due ms t none = ap (λ (xs : List Measure). due t (map begin_of xs)) none

nothing_sent : (w : Setting) (first : ℤ) (side : Side) → (state w first 0).sent side ≡ []
unfolding state
nothing_sent w first side = refl

lands_none : (w : Setting) (first t : ℤ) (side : Side) → landing ((state w first 0).sent side) t ≡ []
lands_none w first t side = ap (λ (fs : List Flight). landing fs t) (nothing_sent w first side)

nothing_measured : (w : Setting) (first : ℤ) (n : ℕ) (side : Side) → ((t : ℤ) → due t w.begins ≡ []) → ((s : Side) (t : ℤ) → w.others s t ≡ []) → (state w first n).sent side ≡ []
nothing_measured w first n side begins others =
    let count : n ≡ 0 + n = omega arith in
    ap (λ (k : ℕ). (state w first k).sent side) count
    ∙ ap (λ (s : State). s.sent side) (quiet_ticks w first 0 n (λ k lt. record { begins = begins (first +ℤ pos (0 + k)); landing = λ s. lands_none w first (first +ℤ pos (0 + k)) s; others = λ s. others s (first +ℤ pos (0 + k)) }))
    ∙ nothing_sent w first side

pub unmeasured_lands_the_same : UnmeasuredLandsTheSame
unmeasured_lands_the_same d side unmeasured none =
    none_measured side d (nothing_measured (setting_of d (others_of d)) first_clock tick_count side (λ t. none_due d.measures t unmeasured) (λ s t. no_others d s t none))
