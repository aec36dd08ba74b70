-- The order of frames is a total order, and it tells two frames apart exactly where they differ.
use Rattle.std.specs.Prelude.{◌≡◌, Bool, true, false, ◌&&◌, ◌==◌, refl}
use Rattle.std.specs.Cmp.{IsTotalOrder, both_tied, then_total, on_total, nat_cmp_total, int_cmp_total, unsigned_ties}
use Rattle.std.specs.Ordering.{eq_by_cmp, int_cmp, int_eq, nat_cmp}
use Rattle.std.proofs.Common.{ℕ, ap₂, ◌∙◌}
use denote.Enum.Bare.{sameb}
use denote.Enum.Declared.{tag_of}
use Rattle.plan_model.specs.contracts.streams.Stream.{the_type}
use Rattle.plan_model.specs.declared.streams.Stream.{Stream}
use Rattle.plan_model.specs.declared.streams.Stream.TheVariants.{DownCommands, UpCommands, DownData, UpData}
use Rattle.plan_model.specs.SentOrder.{stream_place}
use Rattle.du_scheduler.specs.Turns.{turn_cmp}
use Rattle.du_scheduler.specs.declared.turns.Turn.{Turn}

pub turn_total : IsTotalOrder turn_cmp
turn_total = then_total (on_total (λ t. t.at.0) int_cmp_total) (then_total (on_total (λ t. t.endpoint) nat_cmp_total)
    (then_total (on_total (λ t. stream_place t.stream) nat_cmp_total) (then_total (on_total (λ t. t.number) nat_cmp_total) (on_total (λ t. t.sub) nat_cmp_total))))

swapped : (b c : Bool) → (b && c) ≡ (c && b)
swapped true true = refl
swapped true false = refl
swapped false true = refl
swapped false false = refl

pub place_is : (s : Stream) → tag_of the_type s ≡ stream_place s
place_is DownCommands = refl
place_is UpCommands = refl
place_is DownData = refl
place_is UpData = refl

streams_tie : (a b : Stream) → sameb the_type a b ≡ eq_by_cmp nat_cmp (stream_place a) (stream_place b)
streams_tie a b = ap₂ (λ (i j : ℕ). i == j) (place_is a) (place_is b) ∙ unsigned_ties (stream_place a) (stream_place b)

-- the fields of a turn, in the order in which they are listed
abbrev pub are_alike : Turn → Turn → Bool
are_alike x y = int_eq x.at.0 y.at.0 && ((x.endpoint == y.endpoint) && (sameb the_type x.stream y.stream && ((x.sub == y.sub) && (x.number == y.number))))

pub turn_ties : (x y : Turn) → are_alike x y ≡ eq_by_cmp turn_cmp x y
turn_ties x y =
    both_tied _ _ (int_cmp x.at.0 y.at.0) _ refl
    (both_tied _ _ (nat_cmp x.endpoint y.endpoint) _ (unsigned_ties x.endpoint y.endpoint)
    (both_tied _ _ (nat_cmp (stream_place x.stream) (stream_place y.stream)) _ (streams_tie x.stream y.stream)
    (swapped (x.sub == y.sub) (x.number == y.number)
    ∙ both_tied _ _ (nat_cmp x.number y.number) (nat_cmp x.sub y.sub) (unsigned_ties x.number y.number) (unsigned_ties x.sub y.sub))))
