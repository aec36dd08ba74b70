-- `deliver WAY CLASS K NS ..`
use Rattle.std.specs.Prelude.{ℕ, ℤ, pos, List, [], ◌∷◌, ◌++◌, length, drop, Bool, ◌&&◌, nat_le, if◌then◌else◌, Option, Some, None, Result, Ok, Err, codes}
use Rattle.std.specs.Str.{bytes_eq}
use Rattle.fh_document.specs.declared.delivered.TrafficClass.{TrafficClass}
use Rattle.fh_document.specs.declared.delivered.TrafficClass.TheVariants.{C, U, M}
use Rattle.fh_document.specs.declared.delivered.Delivery.{Delivery}
use Rattle.fh_document.specs.declared.document.Reading.{Reading}
use Rattle.fh_document.specs.declared.refusals.DocWhy.{DocWhy}
use Rattle.fh_document.specs.declared.refusals.DocWhy.TheVariants as why
use Rattle.fh_document.specs.Refusals.{or_refuse, ◌>>=◌}
use Rattle.fh_document.specs.Words.{number_in}
use Rattle.fh_document.specs.Delivered.{has_like}
use Rattle.fh_document.specs.EndpointLines.{taking}
use Rattle.fh_document.specs.InjectLines.{side_of}
use Rattle.fh_document.specs.declared.config_lines.TheConstants.{MOST_TRANSIT}
use Rattle.fh_document.specs.declared.deliver_lines.TheConstants.{MOST_NUMBER}
use Rattle.fh_base.specs.Numbers.{word_at}

-- frames of the C-plane, of the U-plane, and of delay measurement
abbrev pub class_of : List ℕ → Option TrafficClass
class_of w =
    if bytes_eq w (codes "c") then Some C
    else (if bytes_eq w (codes "u") then Some U
    else (if bytes_eq w (codes "m") then Some M
    else None))

-- the least time on its way that a frame of a class may have
abbrev pub least_of : TrafficClass → ℕ
least_of C = 0
least_of U = 0
least_of M = 1

-- the times that the words spell, from low on, where each spells one
abbrev pub times_of : ℕ → List (List ℕ) → Option (List ℤ)
times_of low [] = Some []
times_of low (w ∷ ws) = taking (number_in low MOST_TRANSIT w) (λ n. taking (times_of low ws) (λ times. Some (pos n ∷ times)))

-- no copy, or one to eight of them
abbrev pub has_deliver_count : List (List ℕ) → Bool
has_deliver_count ws = nat_le 4 (length ws) && nat_le (length ws) 12

-- what the words say of a frame, where each has its form and range
abbrev pub delivery_of : List (List ℕ) → Option Delivery
delivery_of ws =
    taking (side_of (word_at ws 1)) (λ side.
    taking (class_of (word_at ws 2)) (λ class.
    taking (number_in 1 MOST_NUMBER (word_at ws 3)) (λ k.
    taking (times_of (least_of class) (drop 4 ws)) (λ copies.
    Some (record { side = side; class = class; k = k; copies = copies })))))

-- one frame more, where no line before speaks of it
abbrev pub delivered : Reading → Delivery → Result Reading DocWhy
delivered r d = if has_like d r.deliveries then Err why.Twice else Ok (record r { deliveries = r.deliveries ++ d ∷ [] })

abbrev pub deliver_line : Reading → List (List ℕ) → Result Reading DocWhy
deliver_line r ws =
    if has_deliver_count ws then or_refuse (delivery_of ws) why.Number >>= (λ d. delivered r d)
    else Err why.Words
