-- The examples.
use Rattle.std.proofs.Common.{pos, ◌≤ℤ◌, [], refl, arith}
use Rattle.std.proofs.lemmas.List.Elements.{All-cons, All-nil}
use Rattle.std.proofs.lemmas.Int.{ints}
use Rattle.delay_laws.specs.Runs.{IsRun}
use Rattle.delay_laws.specs.Ticks.{Begin, IsPure, after_tick, hearing, state}
use Rattle.delay_laws.specs.Examples.{AreWorked, answered_twice, compensated, edges, example, halves, ns, one_request, overtaken, plain, remote_two, twice, with_halves}

one_run : IsRun plain one_request
one_run = (
  record { late = omega (arith, ints); comes = (ns 1050000, (0, omega arith, refl), omega (arith, ints)) },
  (
    record { late = omega (arith, ints); comes = (ns 1000000, (0, omega arith, refl), omega (arith, ints)) },
    (
      record { late = omega (arith, ints); comes = refl },
      tt,
    ),
  ),
)

edges_run : IsRun edges compensated
edges_run = (
  record { late = omega (arith, ints); comes = (ns 1050000, (0, omega arith, refl), omega (arith, ints)) },
  (
    record { late = omega (arith, ints); comes = (ns 1050000, (0, omega arith, refl), omega (arith, ints)) },
    (
      record { late = omega (arith, ints); comes = (ns 1000000, (0, omega arith, refl), omega (arith, ints)) },
      (
        record { late = omega (arith, ints); comes = refl },
        tt,
      ),
    ),
  ),
)

halves_run : IsRun halves with_halves
halves_run = (
  record { late = omega (arith, ints); comes = (ns 1050000, (0, omega arith, refl), omega (arith, ints)) },
  (
    record { late = omega (arith, ints); comes = (ns 1000000, (0, omega arith, refl), omega (arith, ints)) },
    (
      record { late = omega (arith, ints); comes = refl },
      tt,
    ),
  ),
)

remote_run : IsRun plain remote_two
remote_run = (
  record { late = omega (arith, ints); comes = (ns 1080000, (1, omega arith, refl), omega (arith, ints)) },
  (
    record { late = omega (arith, ints); comes = (ns 1030000, (1, omega arith, refl), omega (arith, ints)) },
    (
      record { late = omega (arith, ints); comes = (ns 1030000, (0, omega arith, refl), omega (arith, ints)) },
      (
        record { late = omega (arith, ints); comes = (ns 1000000, (0, omega arith, refl), omega (arith, ints)) },
        (
          record { late = omega (arith, ints); comes = refl },
          tt,
        ),
      ),
    ),
  ),
)

twice_run : IsRun plain twice
twice_run = (
  record { late = omega (arith, ints); comes = (ns 1060000, (1, omega arith, refl), omega (arith, ints)) },
  (
    record { late = omega (arith, ints); comes = (ns 1050000, (0, omega arith, refl), omega (arith, ints)) },
    (
      record { late = omega (arith, ints); comes = (ns 1000000, (0, omega arith, refl), omega (arith, ints)) },
      (
        record { late = omega (arith, ints); comes = (ns 1000000, (0, omega arith, refl), omega (arith, ints)) },
        (
          record { late = omega (arith, ints); comes = refl },
          tt,
        ),
      ),
    ),
  ),
)

overtaken_run : IsRun plain overtaken
overtaken_run = (
  record { late = omega (arith, ints); comes = (ns 1000000, (0, omega arith, refl), omega (arith, ints)) },
  (
    record { late = omega (arith, ints); comes = (ns 1000000, (1, omega arith, refl), omega (arith, ints)) },
    (
      record { late = omega (arith, ints); comes = refl },
      tt,
    ),
  ),
)

answered_run : IsRun plain answered_twice
answered_run = (
  record { late = omega (arith, ints); comes = (ns 1050000, (0, omega arith, refl), omega (arith, ints)) },
  (
    record { late = omega (arith, ints); comes = (ns 1080000, (1, omega arith, refl), omega (arith, ints)) },
    (
      record { late = omega (arith, ints); comes = (ns 1000000, (1, omega arith, refl), omega (arith, ints)) },
      (
        record { late = omega (arith, ints); comes = (ns 1000000, (0, omega arith, refl), omega (arith, ints)) },
        (
          record { late = omega (arith, ints); comes = (ns 1000000, (1, omega arith, refl), omega (arith, ints)) },
          (
            record { late = omega (arith, ints); comes = (ns 1000000, (0, omega arith, refl), omega (arith, ints)) },
            (
              record { late = omega (arith, ints); comes = refl },
              tt,
            ),
          ),
        ),
      ),
    ),
  ),
)

is_pure : IsPure example
is_pure = record {
  once = λ j k lj lk is. omega (arith, lj, lk);
  late = All-cons (λ (b : Begin). pos 1536000000 ≤ℤ b.at) _ [] (omega (arith, ints)) (All-nil (λ (b : Begin). pos 1536000000 ≤ℤ b.at));
  alone = λ side t. refl;
}

pub worked : AreWorked
unfolding state after_tick hearing
worked = record {
  one_delay = refl;
  one_run = one_run;
  edges_delay = refl;
  edges_sent = refl;
  edges_run = edges_run;
  halves_delay = refl;
  halves_run = halves_run;
  remote_delays = refl;
  remote_run = remote_run;
  twice_delay = refl;
  twice_sent = refl;
  twice_run = twice_run;
  overtaken_none = refl;
  overtaken_sent = refl;
  overtaken_run = overtaken_run;
  answered_delay = refl;
  answered_run = answered_run;
  by_ticks = refl;
  pure = is_pure;
  meeting_heard = refl;
  meeting_sent = refl;
}
