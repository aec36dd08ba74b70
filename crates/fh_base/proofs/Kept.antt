-- A numerology is known by its kind, and keeps that its two numbers have 16 bits.
use Rattle.std.proofs.Common.{◌≡◌, ℕ, ◌%◌, ◌^◌, ◌<◌, ◌≤◌, true, Some, IfSome, refl, subst, ap, arith}
use Rattle.std.proofs.lemmas.Bool.Decides.{nat_tests}
use Rattle.std.specs.Coded.{le_prop}
use Rattle.std.proofs.Math.Nat.{mod-eq_of_lt}
use Rattle.fh_base.specs.declared.kind.Kind.{Kind}
use Rattle.fh_base.specs.declared.kind.Kind.TheVariants.{Ordinary, Offset, Extended}
use Rattle.fh_base.specs.declared.numerology.Numerology.{Numerology}
use Rattle.fh_base.specs.declared.spacing.Spacing.{Spacing}
use Rattle.fh_base.specs.Spacing.{is_normal_code, spacing_of}
use Rattle.fh_base.specs.Kinds.{time_offset_of, cp_length_of, kind_offsets}
use Rattle.fh_base.specs.Numbering.{ordinary_at, offset_at, ordinary_of, offset_of, offsets_of}

abbrev of_kind : (k : Kind) → time_offset_of k < 2 ^ 16 → cp_length_of k < 2 ^ 16 → Numerology
of_kind k a b = record { kind = k; short_offset = a; short_prefix = b }

same_facts : (k : Kind) (a c : time_offset_of k < 2 ^ 16) (b d : cp_length_of k < 2 ^ 16) → of_kind k a b ≡ of_kind k c d
same_facts k a c b d = rw (le_prop a c, le_prop b d) refl

same_parts : (k l : Kind) (a : time_offset_of k < 2 ^ 16) (b : cp_length_of k < 2 ^ 16) (c : time_offset_of l < 2 ^ 16) (d : cp_length_of l < 2 ^ 16)
    → k ≡ l → of_kind k a b ≡ of_kind l c d
same_parts k l a b c d e = subst (λ m. (x : time_offset_of m < 2 ^ 16) → (y : cp_length_of m < 2 ^ 16) → of_kind k a b ≡ of_kind m x y) e (λ x y. same_facts k a x b y) c d

pub same_kind : (m n : Numerology) → m.kind ≡ n.kind → m ≡ n
same_kind m n e =
    let same : of_kind m.kind m.short_offset m.short_prefix ≡ of_kind n.kind n.short_offset n.short_prefix = same_parts m.kind n.kind _ _ _ _ e in
    same

-- the numerology of these numbers
pub ordinary_is : (code : ℕ) (spacing : Spacing) (n : Numerology) → code ≤ 4 → spacing_of code ≡ Some spacing → n.kind ≡ Ordinary spacing
    → Some n ≡ ordinary_of code
ordinary_is code spacing n small found e =
    let normal : is_normal_code code ≡ true = grind (arith, nat_tests) in
    rw (normal, found) (ap Some (same_kind n (ordinary_at spacing) e))

pub offset_is : (code time_offset cp_length : ℕ) (spacing : Spacing) (n : Numerology) → time_offset < 2 ^ 16 → cp_length < 2 ^ 16
    → spacing_of code ≡ Some spacing → n.kind ≡ Offset spacing time_offset cp_length → Some n ≡ offset_of code time_offset cp_length
offset_is code time_offset cp_length spacing n short_offset short_prefix found e =
    let kind_is : n.kind ≡ Offset spacing (time_offset % 2 ^ 16) (cp_length % 2 ^ 16) = rw (mod-eq_of_lt short_offset, mod-eq_of_lt short_prefix) e in
    rw found (ap Some (same_kind n (offset_at time_offset cp_length spacing) kind_is))

kind_short : (k : Kind) → time_offset_of k < 2 ^ 16 → cp_length_of k < 2 ^ 16 → IfSome (kind_offsets k) (λ p. (p.0 < 2 ^ 16) × (p.1 < 2 ^ 16))
kind_short (Ordinary spacing) a b = tt
kind_short (Offset spacing time_offset cp_length) a b = (a, b)
kind_short Extended a b = tt

-- both numbers of an offset endpoint have 16 bits
pub offsets_short : (n : Numerology) → IfSome (offsets_of n) (λ p. (p.0 < 2 ^ 16) × (p.1 < 2 ^ 16))
offsets_short n = kind_short n.kind n.short_offset n.short_prefix
