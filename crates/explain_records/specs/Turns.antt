-- What a fragment leaves of what is kept (this project's profile).
use Rattle.std.specs.Prelude.{ℕ, ℤ, ◌+◌, ◌==◌, ◌&&◌, nat_lt, min, Bool, true, false, if◌then◌else◌, List, [], ◌∷◌, ◌++◌, length, Option, Some, None}
use Rattle.std.specs.Str.{bytes_eq}
use Rattle.fh_base.specs.declared.values.Slot.{Slot}
use Rattle.fh_base.specs.declared.values.Ticks.{Ticks}
use Rattle.ecpri_fragments.specs.Generations.{is_within}
use Rattle.ecpri_fragments.specs.declared.verdict.Verdict.{Verdict}
use Rattle.ecpri_fragments.specs.declared.verdict.Verdict.TheVariants.{Whole}
use Rattle.air_source.specs.declared.events.Side.{Side}
use Rattle.explain_records.specs.declared.told.FirstBytes.{FirstBytes}
use Rattle.explain_records.specs.declared.generations.LastGeneration.{LastGeneration}
use Rattle.explain_records.specs.declared.beginnings.Beginning.{Beginning}
use Rattle.explain_records.specs.declared.told.FragmentTold.{FragmentTold}
use Rattle.explain_model.specs.declared.headers.RepeatedRecord.{RepeatedRecord}
use Rattle.explain_heard.specs.Heard.{first_eight, first_four}
use Rattle.explain_heard.specs.declared.heard.FragmentHeard.{FragmentHeard}
use Rattle.explain_model.specs.Sections.{symbol_named}
use Rattle.explain_model.specs.Fragments.{NumberedFragment, first_named, has_stood, is_repeat}
use Rattle.unit_model.specs.Decoding.{has_way}
use Rattle.uplane_sections.specs.Header.{head_of}
use Rattle.explain_records.specs.Places.{changed}

-- ---- how a fragment begins

abbrev pub first_of : List ℕ → FirstBytes
first_of bytes = record { bytes = first_eight bytes; count = min (length bytes) 8 }

abbrev pub same_first : FirstBytes → FirstBytes → Bool
same_first a b = bytes_eq a.bytes b.bytes && (a.count == b.count)

-- ---- what is told of a fragment

abbrev pub told_by : Side → NumberedFragment → FragmentTold
told_by side x = record {
  number = x.number;
  ep = x.fragment.ep;
  seq = x.fragment.seq;
  sub = x.fragment.sub;
  at = record { 0 = x.fragment.at };
  verdict = x.verdict;
  start = first_of x.fragment.bytes;
  named = first_named side x.endpoint x.fragment;
}

-- the symbol that it names, by its first four bytes, where it is of subsequence 0 and of the unit's direction
abbrev pub named_by : Side → FragmentHeard → Option (Slot × ℕ)
named_by side h =
    if h.seq.sub == 0
    then (if nat_lt h.bytes 4
    then None
    else (if has_way side (head_of (first_four h.start)) then symbol_named h.endpoint.numerology (first_four h.start) h.at.0 else None))
    else None

-- of one that was heard
abbrev pub told_of : Side → ℕ → FragmentHeard → FragmentTold
told_of side number h = record {
  number = number;
  ep = h.ep;
  seq = h.seq.seq;
  sub = h.seq.sub;
  at = h.at;
  verdict = h.verdict;
  start = record { bytes = h.start; count = min h.bytes 8 };
  named = named_by side h;
}

-- ---- the generation that it finds

abbrev pub fresh : Ticks → LastGeneration
fresh at = record { start = at; first = None; place = None; pieces = 0 }

abbrev pub found : ℤ → Ticks → Option LastGeneration → LastGeneration
found hold at None = fresh at
found hold at (Some l) = if is_within hold l.start.0 at.0 then l else fresh at

-- ---- one that is stored

abbrev pub makes_whole : Verdict → Bool
makes_whole Whole = true
makes_whole _ = false

-- the beginning of a first fragment, with how many fragments are stored with it
abbrev pub beginning_of : Side → FragmentTold → ℕ → Option (Slot × ℕ) → List Beginning
beginning_of side t pieces None = []
beginning_of side t pieces (Some (slot, symbol)) =
    record {
      kept = record { side = side; ep = t.ep; slot = slot; symbol = symbol; seq = t.seq; pieces = pieces; number = t.number };
      is_whole = makes_whole t.verdict;
    } ∷ []

abbrev pub counted : ℕ → Bool → Beginning → Beginning
counted pieces whole b = record { kept = record b.kept { pieces = pieces }; is_whole = whole }

abbrev pub begun_stood : Side → FragmentTold → LastGeneration → List Beginning → List Beginning
begun_stood side t l bs =
    if t.sub == 0
    then bs ++ beginning_of side t (l.pieces + 1) t.named
    else changed (counted (l.pieces + 1) (makes_whole t.verdict)) l.place bs

abbrev pub place_of : Option (Slot × ℕ) → ℕ → Option ℕ
place_of None n = None
place_of (Some s) n = Some n

abbrev pub last_stood : FragmentTold → LastGeneration → ℕ → LastGeneration
last_stood t l n =
    if t.sub == 0
    then record { start = l.start; first = Some t.start; place = place_of t.named n; pieces = l.pieces + 1 }
    else record { start = l.start; first = l.first; place = l.place; pieces = l.pieces + 1 }

-- ---- and one that is received under a used sequence id

abbrev pub repeated_of : Side → FragmentTold → Option (Slot × ℕ) → List RepeatedRecord
repeated_of side t None = []
repeated_of side t (Some (slot, symbol)) =
    record { side = side; ep = t.ep; slot = slot; symbol = symbol; seq = t.seq; number = t.number } ∷ []

abbrev pub repeated_by : Side → FragmentTold → Option FirstBytes → List RepeatedRecord
repeated_by side t None = []
repeated_by side t (Some stood) = if same_first stood t.start then [] else repeated_of side t t.named

-- ---- any fragment

abbrev pub begun_next : Side → FragmentTold → LastGeneration → List Beginning → List Beginning
begun_next side t l bs = if has_stood t.verdict then begun_stood side t l bs else bs

abbrev pub last_next : FragmentTold → LastGeneration → ℕ → LastGeneration
last_next t l n = if has_stood t.verdict then last_stood t l n else l

abbrev pub repeats : Side → FragmentTold → LastGeneration → List RepeatedRecord
repeats side t l = if is_repeat t.verdict then repeated_by side t l.first else []
