-- A pool of places, one of which is handed out.
use Rattle.std.specs.Prelude.{◌≡◌, ◌≢◌, ◌⊎◌, ℕ, Option, Some, None, List, [], slice_get, slice_set, vec_len}
use Rattle.ecpri_fragments.specs.declared.place.Place.{Place}
use Rattle.ecpri_fragments.specs.declared.pool.Pool.{Pool}
use Rattle.ecpri_fragments.specs.Places.{StandsIn}

-- the place of an id, if it has one
abbrev pub place_at : List Place → Option ℕ → Option Place
place_at places None = None
place_at places (Some k) = slice_get places k

-- The id, which had no place, has that one now, in which nothing is stored; each other id has the place that it had.
pub record HandsOut (old : Pool) (id number : ℕ) (new : Pool) : Type 0 where
  pub numbers : new.numbers.items ≡ slice_set old.numbers.items id (Some number)
  pub len : vec_len new.numbers ≡ vec_len old.numbers
  pub fresh : (p : Place) → slice_get new.places.items number ≡ Some p → StandsIn p []
  pub others : (j k : ℕ) → slice_get old.numbers.items j ≡ Some (Some k) → slice_get new.places.items k ≡ slice_get old.places.items k

-- The id has that place: the one that it had, or one in which nothing is stored. Each other id has the place that it had.
pub record Opens (old : Pool) (id number : ℕ) (new : Pool) : Type 0 where
  pub len : vec_len new.numbers ≡ vec_len old.numbers
  pub has : slice_get new.numbers.items id ≡ Some (Some number)
  pub own : (p : Place) → slice_get new.places.items number ≡ Some p →
      ((slice_get old.numbers.items id ≡ Some (Some number)) × (slice_get old.places.items number ≡ Some p)) ⊎ ((slice_get old.numbers.items id ≡ Some None) × StandsIn p [])
  pub others : (j : ℕ) (n : Option ℕ) → j ≢ id → slice_get new.numbers.items j ≡ Some n →
      (slice_get old.numbers.items j ≡ Some n) × (place_at new.places.items n ≡ place_at old.places.items n)
