-- The stored first fragments that tell of a symbol, each with what became of its generation (this project's profile).
use Rattle.std.specs.Prelude.{ℕ, ℤ, ◌&&◌, Bool, true, false, if◌then◌else◌, List, [], ◌∷◌, ◌++◌, length, Option, Some, None}
use Rattle.fh_base.specs.declared.values.Slot.{Slot}
use Rattle.ecpri_fragments.specs.Generations.{Fragment, Generation, is_of, is_within, joined}
use Rattle.ecpri_fragments.specs.Verdicts.{is_whole, standing}
use Rattle.air_source.specs.declared.events.Side.{Side}
use Rattle.explain_model.specs.declared.headers.BeginningRecord.{BeginningRecord}
use Rattle.explain_model.specs.Fragments.{NumberedFragment, first_named, fragments_alone, generation_at, has_stood}

-- ---- a generation as it grows

-- and whether it is still the last one of its sequence id
pub record Growing : Type 0 where
  pub generation : Generation
  pub is_last : Bool

-- where this fragment is of its sequence id or not, and is received within its hold or not
abbrev pub grown_by : Bool → Bool → Growing → Fragment → Growing
grown_by own within g f =
    if own
    then (if g.is_last && within
    then record { generation = joined f g.generation; is_last = true }
    else record { generation = g.generation; is_last = false })
    else g

abbrev pub grown_once : ℤ → ℕ → ℕ → Growing → Fragment → Growing
grown_once hold ep seq g f = grown_by (is_of ep seq f) (is_within hold g.generation.start f.at) g f

-- as these were received, in their order
unfoldable pub grown_over : ℤ → ℕ → ℕ → Growing → List Fragment → Growing
grown_over hold ep seq g [] = g
grown_over hold ep seq g (f ∷ later) = grown_over hold ep seq (grown_once hold ep seq g f) later

-- ---- a stored first fragment, with the symbol that it names

pub record Begun : Type 0 where
  pub first : NumberedFragment
  pub slot : Slot
  pub symbol : ℕ
  pub growing : Growing

abbrev pub begun_with : NumberedFragment → Growing → Option (Slot × ℕ) → List Begun
begun_with x g None = []
begun_with x g (Some (slot, symbol)) = record { first = x; slot = slot; symbol = symbol; growing = g } ∷ []

abbrev pub begun_if : Bool → NumberedFragment → Growing → Option (Slot × ℕ) → List Begun
begun_if stood x g named = if stood then begun_with x g named else []

abbrev pub begun_by : Side → NumberedFragment → Growing → List Begun
begun_by side x g = begun_if (has_stood x.verdict) x g (first_named side x.endpoint x.fragment)

-- its generation when it was received, where these were received before it, the newest first
abbrev pub growing_at : ℤ → List Fragment → Fragment → Growing
growing_at hold earlier f = record { generation = generation_at hold earlier f; is_last = true }

abbrev pub begun_in : Side → ℤ → List Fragment → NumberedFragment → List Fragment → List Begun
begun_in side hold earlier x later =
    begun_by side x (grown_over hold x.fragment.ep x.fragment.seq (growing_at hold earlier x.fragment) later)

-- in the order in which they were received
unfoldable pub begun_after : Side → ℤ → List Fragment → List NumberedFragment → List Begun
begun_after side hold earlier [] = []
begun_after side hold earlier (x ∷ later) =
    begun_in side hold earlier x (fragments_alone later) ++ begun_after side hold (x.fragment ∷ earlier) later

-- one fragment more
abbrev pub begun_once : ℤ → Fragment → Begun → Begun
begun_once hold f b = record b { growing = grown_once hold b.first.fragment.ep b.first.fragment.seq b.growing f }

-- ---- its record, where its generation is not whole

abbrev pub record_with : Side → Begun → List Fragment → BeginningRecord
record_with side b stood = record {
  side = side;
  ep = b.first.fragment.ep;
  slot = b.slot;
  symbol = b.symbol;
  seq = b.first.fragment.seq;
  pieces = length stood;
  number = b.first.number;
}

abbrev pub stood_of : Begun → List Fragment
stood_of b = standing b.growing.generation.held

abbrev pub record_if : Bool → BeginningRecord → List BeginningRecord
record_if whole r = if whole then [] else r ∷ []

abbrev pub record_of : Side → Begun → List BeginningRecord
record_of side b = record_if (is_whole (stood_of b)) (record_with side b (stood_of b))
