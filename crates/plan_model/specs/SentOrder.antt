-- The order of the frames that a plan sends at one time (this project's profile).
use Rattle.std.specs.Prelude.{◌≡◌, ℕ, ℤ, ◌<◌, ◌≤◌, ◌⊎◌, List, filter}
use Rattle.std.specs.Ordering.{int_eq}
use Rattle.plan_model.specs.Sent.{SentFrame}
use Rattle.plan_model.specs.declared.streams.Stream.{Stream}
use Rattle.plan_model.specs.declared.streams.Stream.TheVariants.{DownCommands, UpCommands, DownData, UpData}

-- the place of a stream among those of its endpoint
abbrev pub stream_place : Stream → ℕ
stream_place DownCommands = 0
stream_place UpCommands = 1
stream_place DownData = 2
stream_place UpData = 3

-- by endpoint, stream, number and subsequence
abbrev pub IsBehind : SentFrame → SentFrame → Type 0
IsBehind f g = (f.ep < g.ep) ⊎ ((f.ep ≡ g.ep) × ((stream_place f.stream < stream_place g.stream) ⊎ ((stream_place f.stream ≡ stream_place g.stream)
    × ((f.number < g.number) ⊎ ((f.number ≡ g.number) × (f.sub ≤ g.sub))))))

-- those that leave then
abbrev pub at_time : List SentFrame → ℤ → List SentFrame
at_time xs t = filter (λ (f : SentFrame). int_eq f.at t) xs
