-- The sequence field of messages of types 0 and 2 (O-RAN.WG4.CUS, eCPRI transport header, ecpriSeqid).
use Rattle.std.specs.Prelude.{ℕ, Bool, List, take, drop, not, ◌&&◌, ◌==◌}
use Rattle.bfp_codec.specs.Field.{field}
use Rattle.ecpri_fragments.specs.declared.sequence.SeqField.{SeqField}

-- sequence id in 8 bits, E in 1, subsequence id in 7
abbrev pub seq_field_of : List ℕ → SeqField
seq_field_of bytes = record { seq = field bytes 0 8; last = field bytes 8 1 == 1; sub = field bytes 9 7 }

-- ---- the payload of the types 0 and 2: the eAxC id, the sequence field, and the application's bytes

abbrev pub id_of : List ℕ → ℕ
id_of payload = field payload 0 16

abbrev pub sequence_of : List ℕ → SeqField
sequence_of payload = seq_field_of (take 2 (drop 2 payload))

abbrev pub application : List ℕ → List ℕ
application payload = drop 4 payload

-- it is not one whole message: E is 0, or the subsequence id is not 0
abbrev pub is_fragmented : SeqField → Bool
is_fragmented seq = not (seq.last && (seq.sub == 0))
