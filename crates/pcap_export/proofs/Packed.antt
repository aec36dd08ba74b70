-- One more record of a file.
use Rattle.std.proofs.Common.{◌≡◌, Bool, true, false, cond, ℕ, List, [], ◌∷◌, ◌++◌, Option, refl}
use Rattle.std.specs.List.{flat_map}
use Rattle.std.proofs.lemmas.List.Concat.{flat_map-cons}
use Rattle.capture_records.specs.Records.{Arrived}
use Rattle.fh_base.specs.Told.{WritesPart}
use Rattle.fh_base.specs.Owed.{Carried}
use Rattle.pcap_lines.proofs.Telling.{carried_pair, part_pair, part_named}
use Rattle.pcap_export.specs.declared.ways.Ways.{Ways}
use Rattle.pcap_export.specs.Packets.{packet_bytes, wanted, packets_bytes, wanted_bytes}
use Rattle.pcap_export.specs.Ways.{is_wanted}

one_more : (b : Bool) (a : Arrived) (rest : List Arrived) → flat_map packet_bytes (cond b (a ∷ rest) rest) ≡ cond b (packet_bytes a) [] ++ flat_map packet_bytes rest
one_more true a rest = flat_map-cons packet_bytes a rest
one_more false a rest = refl

pub packets_more : (ways : Ways) (a : Arrived) (rest : List Arrived) → packets_bytes ways (a ∷ rest) ≡ wanted_bytes ways a ++ packets_bytes ways rest
packets_more ways a rest = one_more (is_wanted ways a.side) a (wanted ways rest)

-- ---- three texts in a row, the first two by what they are

pub three_carried : (w v u x : Option (List ℕ)) (o p q r a b first second third : List ℕ) → a ≡ first → b ≡ second → Carried w o a v p → Carried v p b u q → Carried u q third x r
    → Carried w o (first ++ (second ++ third)) x r
three_carried w v u x o p q r a b first second third e f h k m = carried_pair w v x o p r a first (second ++ third) e h (carried_pair v u x p q r b second third f k m)

pub three_part : (w v u x : Option (List ℕ)) (o p q a b first second third : List ℕ) → a ≡ first → b ≡ second → Carried w o a v p → Carried v p b u q → WritesPart u x (q ++ third)
    → WritesPart w x (o ++ (first ++ (second ++ third)))
three_part w v u x o p q a b first second third e f h k part = part_pair w v x o p a first (second ++ third) e h (part_pair v u x p q b second third f k part)

pub two_part : (w v u : Option (List ℕ)) (o p a b first second third : List ℕ) → a ≡ first → b ≡ second → Carried w o a v p → WritesPart v u (p ++ b)
    → WritesPart w u (o ++ (first ++ (second ++ third)))
two_part w v u o p a b first second third e f h part = part_pair w v u o p a first (second ++ third) e h (part_named v u p b second third f part)
