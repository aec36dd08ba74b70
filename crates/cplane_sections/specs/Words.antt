-- The words of a header.
use Rattle.std.specs.Prelude.{ℕ, ◌+◌, ◌*◌, ◌^◌, ◌<◌}
use Rattle.cplane_sections.specs.declared.values.CBody.{CBody}
use Rattle.cplane_sections.specs.declared.values.CBody.TheVariants.{Idle, Normal, Offset}
use Rattle.cplane_sections.specs.declared.values.CHead.{CHead}

-- the second and the third word of a header, of which section type 1 has the second only
abbrev pub body_words : ℕ → CBody → ℕ × ℕ
body_words count (Idle t s c) = ((count * 2 ^ 8 + 0) * 2 ^ 16 + t, (s * 2 ^ 16 + c) * 2 ^ 8)
body_words count (Normal u) = (((count * 2 ^ 8 + 1) * 2 ^ 8 + u) * 2 ^ 8, 0)
body_words count (Offset t s c u) = ((count * 2 ^ 8 + 3) * 2 ^ 16 + t, (s * 2 ^ 16 + c) * 2 ^ 8 + u)

abbrev pub words_of : CHead → ℕ × ℕ
words_of head = body_words head.count head.body

-- each field of the rest of the header in its width
abbrev pub BodyFits : CBody → Type 0
BodyFits (Idle t s c) = (t < 2 ^ 16) × (s < 2 ^ 8) × (c < 2 ^ 16)
BodyFits (Normal u) = u < 2 ^ 8
BodyFits (Offset t s c u) = (t < 2 ^ 16) × (s < 2 ^ 8) × (c < 2 ^ 16) × (u < 2 ^ 8)
