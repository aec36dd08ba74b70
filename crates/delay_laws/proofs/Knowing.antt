-- Events of delays.
use Rattle.std.proofs.Common.{◌≡◌, ℕ, ℤ, List, [], ◌∷◌, ◌++◌, Option, Some, None, refl, sym, ◌∙◌, append_assoc, append-nil}
use Rattle.std.specs.Prelude.{All, map}
use Rattle.std.specs.Option.{option_to_list}
use Rattle.std.proofs.lemmas.List.Elements.{All-append, All-cons, All-nil}
use Rattle.air_source.specs.declared.events.Side.{Side}
use Rattle.delay_measure.specs.After.{id_of}
use Rattle.delay_laws.specs.Nodes.{Heard, delay_then, time_of}
use Rattle.delay_measure.specs.Kept.{IsInRange}
use Rattle.delay_laws.specs.Ticks.{IsPure, Setting, State, exchange_of, state, told_one}
use Rattle.delay_laws.specs.Known.{IsMeasuredEvent, delay_event, known, known_then, known_while}
use Rattle.delay_laws.specs.Measured.{IsMeasured}
use Rattle.delay_laws.specs.Laws.{EventsAreMeasured, KnownGrows}
use Rattle.delay_laws.proofs.Carried.{tick_delays}

one_event : (w : Setting) (s : State) (side : Side) (id : ℕ) (at : ℤ) (delay : Option ℤ) → ((v : ℤ) → delay ≡ Some v → IsMeasured w s id v) → All (IsMeasuredEvent w s) (map (delay_event side id at) (option_to_list delay))
one_event w s side id at None measured = All-nil (IsMeasuredEvent w s)
one_event w s side id at (Some v) measured = All-cons (IsMeasuredEvent w s) (delay_event side id at v) [] (measured v refl) (All-nil (IsMeasuredEvent w s))

events_before : (w : Setting) → IsPure w → ((side : Side) → IsInRange (w.comps side)) → (first : ℤ) (n : ℕ) (later earlier : List Heard) → (state w first n).heard ≡ later ++ earlier → All (IsMeasuredEvent w (state w first n)) (known w earlier)
events_before w pure are first n later [] is = All-nil (IsMeasuredEvent w (state w first n))
events_before w pure are first n later (one ∷ earlier) is =
    All-append (IsMeasuredEvent w (state w first n)) (known w earlier) (known_then w earlier one)
    (events_before w pure are first n (later ++ one ∷ []) earlier (is ∙ sym (append_assoc later (one ∷ []) earlier)))
    (one_event w (state w first n) one.side (id_of one.told) (time_of one.told) (delay_then (w.comps one.side) (exchange_of w earlier one.side (id_of one.told)) one.told)
    (λ v known_is. tick_delays w pure are first n later one earlier v is known_is))

pub events_measured : EventsAreMeasured
events_measured w pure are first n = events_before w pure are first n [] (state w first n).heard refl

pub known_grows : KnownGrows
known_grows w h [] = sym (append-nil (known w h.heard))
known_grows w h (one ∷ more) = known_grows w (told_one w h one) more ∙ append_assoc (known w h.heard) (known_then w h.heard one) (known_while w (told_one w h one) more)
